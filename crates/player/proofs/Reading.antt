-- A script is read from the front: what a command takes does not depend on the bytes after it.
use mathlib.Core.Path.{◌≡◌, refl, sym, ◌∙◌, ap}
use mathlib.Core.Bool.{Bool, true, false}
use mathlib.Core.List.{List, [], ◌∷◌, ◌++◌, append_assoc}
use Prim.Native.Nat.{ℕ, zero, suc, ◌+◌, ◌-◌, ◌*◌, ◌<◌}
use native.Mathlib.Omega.{arith}
use lib.Dec.{ltb}
use lib.ListN.{length}
use Rattle.number.specs.Number.{groups, Front, number, bad, above, read_in, read}
use Rattle.player.specs.Script.{Next, command, refuse, get, arguments, read_command}
use Rattle.player.specs.declared.Command.{Command}

-- What a number takes from the front: it reads the same before any other bytes.
read_local : (g : ℕ) (bs : List ℕ) (x : ℕ) (rest : List ℕ) → read_in g bs ≡ number x rest → (front : List ℕ) × (bs ≡ front ++ rest)
    × ((r : List ℕ) → read_in g (front ++ r) ≡ number x r)
unfolding read_in above
read_local zero bs x rest e = absurd (let z : ◌≡◌ {A = ℕ} 0 1 = cc in omega arith)
read_local (suc g) [] x rest e = absurd (let z : ◌≡◌ {A = ℕ} 0 1 = cc in omega arith)
read_local (suc g) (b ∷ bs) x rest e = by (ltb b 128) refl (read_local g bs)
  where
    by : (t : Bool) → ltb b 128 ≡ t
        → ((y : ℕ) (r : List ℕ) → read_in g bs ≡ number y r → (front : List ℕ) × (bs ≡ front ++ r)
        × ((u : List ℕ) → read_in g (front ++ u) ≡ number y u)) → (front : List ℕ) × (b ∷ bs ≡ front ++ rest)
        × ((r : List ℕ) → read_in (suc g) (front ++ r) ≡ number x r)
    by true h ih =
        let k : number b bs ≡ number x rest = rw (h, read_in) at e in
        let p : bs ≡ rest = cc in
        let q : b ≡ x = cc in
        (b ∷ [], ap (λ (l : List ℕ). b ∷ l) p, λ r. rw (h, read_in) (ap (λ (n : ℕ). number n r) q))
    by false h ih = low (read_in g bs) refl
      where
        low : (t : Front) → read_in g bs ≡ t → (front : List ℕ) × (b ∷ bs ≡ front ++ rest) × ((r : List ℕ) → read_in (suc g) (front ++ r) ≡ number x r)
        low bad k = absurd (let j = rw (h, read_in, k) at e in let z : ◌≡◌ {A = ℕ} 0 1 = cc in omega arith)
        low (number zero r) k = absurd (let j = rw (h, read_in, k) at e in let z : ◌≡◌ {A = ℕ} 0 1 = cc in omega arith)
        low (number (suc y) r) k =
            let j : number (b - 128 + 128 * suc y) r ≡ number x rest = rw (h, read_in, k) at e in
            let p = ih (suc y) r k in
            let q : r ≡ rest = cc in
            let z : b - 128 + 128 * suc y ≡ x = cc in
            (b ∷ p.0, rw (← q) (ap (λ (l : List ℕ). b ∷ l) p.1), λ u. rw (h, read_in, p.2 u) (ap (λ (n : ℕ). number n u) z))

pub read_front : (bs : List ℕ) (x : ℕ) (rest : List ℕ) → read bs ≡ number x rest → (front : List ℕ) × (bs ≡ front ++ rest)
    × ((r : List ℕ) → read (front ++ r) ≡ number x r)
read_front bs x rest e = read_local groups bs x rest e

-- The same for readers of commands.
abbrev Local : (List ℕ → Next) → Type 0
Local f = (bs : List ℕ) (c : Command) (rest : List ℕ) → f bs ≡ command c rest → (front : List ℕ) × (bs ≡ front ++ rest)
    × ((r : List ℕ) → f (front ++ r) ≡ command c r)

local_done : (c : Command) → Local (command c)
local_done c bs d rest e = let p : bs ≡ rest = cc in let q : c ≡ d = cc in ([], p, λ r. ap (λ (x : Command). command x r) q)

local_refuse : (n : ℕ) → Local (λ r. refuse n)
local_refuse n bs c rest e = absurd (let z : ◌≡◌ {A = ℕ} 0 1 = cc in omega arith)

local_get : (f : ℕ → List ℕ → Next) → ((x : ℕ) → Local (f x)) → Local (λ bs. get bs f)
unfolding get
local_get f l bs c rest e = by (read bs) refl
  where
    by : (t : Front) → read bs ≡ t → (front : List ℕ) × (bs ≡ front ++ rest) × ((r : List ℕ) → get (front ++ r) f ≡ command c r)
    by bad h = absurd (let k = rw (h, get) at e in let z : ◌≡◌ {A = ℕ} 0 1 = cc in omega arith)
    by (number x r) h =
        let k : f x r ≡ command c rest = rw (h, get) at e in
        let p = read_front bs x r h in
        let q = l x r c rest k in (
          p.0 ++ q.0,
          p.1 ∙ ap (λ (u : List ℕ). p.0 ++ u) q.1
              ∙ sym (append_assoc p.0 q.0 rest),
          λ u. rw (append_assoc p.0 q.0 u, p.2 (q.0 ++ u), get) (q.2 u),
        )

local_arguments : (c : ℕ) → Local (arguments c)
unfolding arguments
local_arguments zero = local_refuse 5
local_arguments (suc zero) = local_get _ (λ l. local_done _)
local_arguments (suc (suc zero)) =
    local_get _ (λ n. local_get _ (λ f. local_get _ (λ k. local_get _ (λ m. local_get _ (λ g. local_get _ (λ j. local_done _))))))
local_arguments (suc (suc (suc zero))) = local_get _ (λ n. local_get _ (λ v. local_get _ (λ d. local_done _)))
local_arguments (suc (suc (suc (suc zero)))) = local_done _
local_arguments (suc (suc (suc (suc (suc c))))) = local_refuse 5

local_code : (closed : Bool) → Local (λ bs. get bs (λ c r. elim closed [ true ↦ refuse 4 | false ↦ arguments c r ]))
local_code true = local_get _ (λ c. local_refuse 4)
local_code false = local_get _ local_arguments

-- A command takes at least a byte.
pub command_front : (closed : Bool) (bs : List ℕ) (c : Command) (rest : List ℕ) → read_command closed bs ≡ command c rest → (front : List ℕ)
    × (bs ≡ front ++ rest) × (0 < length front) × ((r : List ℕ) → read_command closed (front ++ r) ≡ command c r)
unfolding read_command get read_in above
command_front closed [] c rest e = absurd (let z : ◌≡◌ {A = ℕ} 0 1 = cc in omega arith)
command_front closed (b ∷ bs) c rest e = by (local_code closed (b ∷ bs) c rest e)
  where
    by : (front : List ℕ) × (b ∷ bs ≡ front ++ rest)
        × ((r : List ℕ) → get (front ++ r) (λ c r. elim closed [ true ↦ refuse 4 | false ↦ arguments c r ]) ≡ command c r)
        → (front : List ℕ) × (b ∷ bs ≡ front ++ rest) × (0 < length front) × ((r : List ℕ) → read_command closed (front ++ r) ≡ command c r)
    by p = go p.0 p.1 p.2
      where
        go : (front : List ℕ) → b ∷ bs ≡ front ++ rest
            → ((r : List ℕ) → get (front ++ r) (λ c r. elim closed [ true ↦ refuse 4 | false ↦ arguments c r ]) ≡ command c r)
            → (front : List ℕ) × (b ∷ bs ≡ front ++ rest) × (0 < length front) × ((r : List ℕ) → read_command closed (front ++ r) ≡ command c r)
        go [] q h = absurd (let k = h [] in let z : ◌≡◌ {A = ℕ} 0 1 = cc in omega arith)
        go (a ∷ front) q h = (a ∷ front, q, omega arith, h)
