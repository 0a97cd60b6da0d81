-- Equality of requests and of keys is decided, by functions that compute.
use Rattle.std.specs.Prelude.{◌≡◌, refl, ℕ}
use Rattle.std.proofs.Math.Decide.{ℕ_discrete}
use Rattle.std.proofs.Common.{arith}
use Rattle.cert.specs.Definitions.{Direction, if, only_if, Key, real, window_zero, window}
use Rattle.cert.specs.Requests.{Request, request}

unfoldable pub direction_dec : (x y : Direction) → Dec (x ≡ y)
direction_dec if if = yes refl
direction_dec only_if only_if = yes refl
direction_dec if only_if = no (λ p. let z : ◌≡◌ {A = ℕ} 0 1 = cc in omega arith)
direction_dec only_if if = no (λ p. let z : ◌≡◌ {A = ℕ} 0 1 = cc in omega arith)

unfoldable pub both : {A B C : Type 0} → Dec A → Dec B → (A → B → C) → (C → A) → (C → B) → Dec C
both (yes a) (yes b) f g h = yes (f a b)
both (yes a) (no n) f g h = no (λ c. n (h c))
both (no n) d f g h = no (λ c. n (g c))

unfoldable pub three : {A B C D : Type 0} → Dec A → Dec B → Dec C → (A → B → C → D) → (D → A) → (D → B) → (D → C) → Dec D
unfolding both
three (yes a) d e f g h i = both d e (λ b c. f a b c) h i
three (no n) d e f g h i = no (λ c. n (g c))

unfoldable pub request_dec : (x y : Request) → Dec (x ≡ y)
unfolding three direction_dec ℕ_discrete
request_dec (request n v d) (request m w e) = three (ℕ_discrete n m) (ℕ_discrete v w) (direction_dec d e) (λ p q r. cc) (λ p. cc) (λ p. cc) (λ p. cc)

unfoldable pub key_dec : (x y : Key) → Dec (x ≡ y)
unfolding both three ℕ_discrete
key_dec (real n v) (real m w) = both (ℕ_discrete n m) (ℕ_discrete v w) (λ p q. cc) (λ p. cc) (λ p. cc)
key_dec (window_zero n f k) (window_zero m g l) = three (ℕ_discrete n m) (ℕ_discrete f g) (ℕ_discrete k l) (λ p q r. cc) (λ p. cc) (λ p. cc) (λ p. cc)
key_dec (window n f k) (window m g l) = three (ℕ_discrete n m) (ℕ_discrete f g) (ℕ_discrete k l) (λ p q r. cc) (λ p. cc) (λ p. cc) (λ p. cc)
key_dec (real n v) (window_zero m g l) = no (λ p. let z : ◌≡◌ {A = ℕ} 0 1 = cc in omega arith)
key_dec (real n v) (window m g l) = no (λ p. let z : ◌≡◌ {A = ℕ} 0 1 = cc in omega arith)
key_dec (window_zero n f k) (real m w) = no (λ p. let z : ◌≡◌ {A = ℕ} 0 1 = cc in omega arith)
key_dec (window_zero n f k) (window m g l) = no (λ p. let z : ◌≡◌ {A = ℕ} 0 1 = cc in omega arith)
key_dec (window n f k) (real m w) = no (λ p. let z : ◌≡◌ {A = ℕ} 0 1 = cc in omega arith)
key_dec (window n f k) (window_zero m g l) = no (λ p. let z : ◌≡◌ {A = ℕ} 0 1 = cc in omega arith)

-- A window is looked up after what it pulls in.
unfoldable pub key_rank : Key → ℕ
key_rank (real n v) = 0
key_rank (window_zero n f k) = 0
key_rank (window n f k) = 1
