-- What a window pulls in: its sum of value 0, and the real definitions of its outputs.
use mathlib.Core.Path.{◌≡◌, refl, subst}
use mathlib.Core.Logic.{◌⊎◌, inl, inr, ⊎_elim}
use mathlib.Core.List.Memᴰ
use mathlib.Core.List.{map, Memᴰ}
use Prim.Native.Nat.{ℕ, ◌+◌, ◌-◌, ◌≤◌, ◌<◌}
use native.Mathlib.Omega.{arith}
use Rattle.totdb.specs.Nodes.{range}
use Rattle.cert.specs.Definitions.{Key, real, window_zero, window, window_reals, pulls}
use Rattle.cert.proofs.Apart.{range_mem, range_has}
use Rattle.cert.proofs.Rules.{pulls_cases}

reals_mem : (n f s k : ℕ) (j : Key) → Memᴰ j (map (λ (i : ℕ). real n (f + i)) (range s k)) → (v : ℕ) × (f + s ≤ v) × (v < f + s + k) × (real n v ≡ j)
reals_mem n f s k j h =
    let q = Memᴰ.of_map (λ (i : ℕ). real n (f + i)) (range s k) h in
    let r = range_mem s k q.0 q.1 in
    (f + q.0, omega arith, omega arith, q.2)

reals_has : (n f s k v : ℕ) → f + s ≤ v → v < f + s + k → Memᴰ (real n v) (map (λ (i : ℕ). real n (f + i)) (range s k))
reals_has n f s k v h g =
    let e : f + (v - f) ≡ v = omega arith in
    subst (λ (w : ℕ). Memᴰ (real n w) (map (λ (i : ℕ). real n (f + i)) (range s k))) e
    (Memᴰ.map (λ (i : ℕ). real n (f + i)) (range_has s k (v - f) (omega arith) (omega arith)))

window_reals_mem : (n f m : ℕ) (j : Key) → Memᴰ j (window_reals n f m) → (v : ℕ) × (f < v) × (v ≤ f + m) × (real n v ≡ j)
window_reals_mem n f m j h = let q = reals_mem n f _ _ j h in (q.0, omega (arith, q.1, q.2), omega (arith, q.1, q.2), q.3)

window_reals_has : (n f m v : ℕ) → f < v → v ≤ f + m → Memᴰ (real n v) (window_reals n f m)
window_reals_has n f m v h g = reals_has n f _ _ v (omega arith) (omega arith)

pub pulls_mem : (n f m : ℕ) (j : Key) → Memᴰ j (pulls (window n f m))
    → (j ≡ window_zero n f m) ⊎ ((v : ℕ) × (f < v) × (v ≤ f + m) × (real n v ≡ j))
pulls_mem n f m j h = ⊎_elim inl (λ i. inr (window_reals_mem n f m j i)) (pulls_cases n f m j h)

pub pulls_zero : (n f m : ℕ) → Memᴰ (window_zero n f m) (pulls (window n f m))
unfolding pulls
pulls_zero n f m = Memᴰ.head refl

pub pulls_real : (n f m v : ℕ) → f < v → v ≤ f + m → Memᴰ (real n v) (pulls (window n f m))
unfolding pulls
pulls_real n f m v h g = Memᴰ.tail (window_reals_has n f m v h g)
