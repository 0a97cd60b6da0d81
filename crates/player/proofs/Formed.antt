-- What every command keeps of a state.
use mathlib.Core.Path.{◌≡◌, sym, subst}
use mathlib.Core.Bool.{Bool, true, false}
use mathlib.Core.Logic.{inl, inr, ⊎_elim}
use mathlib.Core.List.Memᴰ
use mathlib.Core.List.{List, [], ◌∷◌}
use Prim.Native.Nat.{ℕ, ◌≤◌, ◌<◌}
use native.Mathlib.Omega.{arith}
use Rattle.sizes.specs.Sizes.{most_head}
use Rattle.totdb.specs.Nodes.{Node, leaf, joined, len, known}
use Rattle.cert.specs.Requests.{Request, Right}
use Rattle.cert.specs.State.{State, start, define, write, hold, requests, serve, Head}
use Rattle.cert.proofs.Apart.{sized_ok}
use Rattle.cert.proofs.Counts.{counted_start}
use Rattle.cert.proofs.Fits.{KeyFits, key_falls, request_falls, looked_fit}
use Rattle.cert.proofs.Serving.{serve_keeps}
use Rattle.cert.proofs.Tables.{right_more}
use Rattle.player.specs.Formed.{Sound, Held, Formed}
use Rattle.player.specs.Passes.{AllPassed, all_done, all_more}
use Rattle.player.specs.Player.{head_fits, first_no, questions, make, delete, act}
use Rattle.player.specs.declared.Command.{Command}
use Rattle.player.proofs.Counts.{counted_act}
use Rattle.player.proofs.Questions.{answered_no, OutOfRange, head_range}
use Rattle.player.proofs.Sound.{sound_start, sound_act, request_fits, requests_asked, requests_right, serve_nodes}
use Rattle.player.proofs.Limits.{limits_start, limits_act}

pub formed_start : (h : Head) → head_fits h ≡ true → Formed h (start h)
unfolding start
formed_start h e = record {
  head = e;
  sound = sound_start h;
  limits = limits_start h;
  counted = counted_start h;
  held = λ x m. absurd (Memᴰ.not-nil m);
}

held_make : (a : Node) (n : ℕ) (s : State) → Held s.nodes s → Held (make a n s).nodes (make a n s)
unfolding make
held_make a n s k x m = right_more s.nodes (a ∷ []) x (k x m)

held_hold : (t : List Node) (x : Request) (s : State) → Right t x → Held t s → Held t (hold x s)
unfolding hold
held_hold t x s r k y m = ⊎_elim (k y) (λ i. subst (Right t) (sym (Memᴰ.eq_of_singleton i)) r) (Memᴰ.append_cases s.held m)

held_act : (h : Head) (c : Command) (s : State) → first_no (questions h s.nodes c) ≡ 0 → Sound h s → Held s.nodes s
    → Held (act c s).nodes (act c s)
unfolding act
held_act h (Command.Leaf l) s q p k = by (known s.nodes l)
  where
    by : (b : Bool)
        → Held (elim b as (λ _. State) [ true ↦ s | false ↦ make (leaf l) 0 s ]).nodes (elim b as (λ _. State) [ true ↦ s | false ↦ make (leaf l) 0 s ])
    by true = k
    by false = held_make (leaf l) 0 s k
held_act h (Command.Join l r) s q p k =
    held_make (joined s.nodes s.next_variable l r) (len (joined s.nodes s.next_variable l r)) s k
held_act h (Command.Request n v d) s q p k =
    let t = s.nodes in
    let f = request_fits h t n v d q in
    let a = requests_asked t n v d f in
    subst (λ (x : List Node). Held x (serve t (requests n v d) s)) (sym (serve_nodes t (sized_ok t p.sized) (requests n v d) a s).0)
    (serve_keeps t (Right t) (KeyFits t) (request_falls t p.sized) (key_falls t) (looked_fit t p.sized) (Held t)
    (λ k u g n b r. unfold define in r) (λ x c u i m b r. unfold write in r) (λ x u i r. held_hold t x u i r) (requests n v d) (requests_right t n v d f)
    a s k)
held_act h Command.Close s q p k = unfold delete in k

pub formed_act : (h : Head) (c : Command) (s : State) → first_no (questions h s.nodes c) ≡ 0 → Formed h s → Formed h (act c s)
formed_act h c s q f = record {
  head = f.head;
  sound = sound_act h c s q f.sound;
  limits = limits_act h c s q f.sound f.limits;
  counted = counted_act h c s q f.sound f.counted;
  held = held_act h c s q f.sound f.held;
}

pub all_formed : {h : Head} {capacity : ℕ} {cs : List Command} {s u : State} → AllPassed h capacity cs s u → Formed h s → Formed h u
all_formed all_done f = f
all_formed {h} (all_more {c = c} {s = s} q a) f = all_formed a (subst (Formed h) q.after (formed_act h c s q.asked f))

-- The limits of the head.
pub head_low : (h : Head) → head_fits h ≡ true → (h.variable ≤ most_head) × (1 ≤ h.step) × (h.step ≤ most_head)
head_low h e =
    let inside : OutOfRange h.variable h.step → ⊥ =
    λ o. let k : head_fits h ≡ false = answered_no (head_range h) o in let z : ◌≡◌ {A = ℕ} 0 1 = cc in omega arith in
    let i : ¬ (most_head < h.variable) = λ l. inside (inl l) in
    let j : ¬ (h.step < 1) = λ l. inside (inr (inl l)) in
    let k : ¬ (most_head < h.step) = λ l. inside (inr (inr l)) in
    (omega (arith, i), omega (arith, j), omega (arith, k))
