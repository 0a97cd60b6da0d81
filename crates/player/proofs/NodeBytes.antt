-- The bytes that nodes take: a leaf's command takes two at least, a join's seven.
use mathlib.Core.Path.{◌≡◌, refl, subst}
use mathlib.Core.Bool.{Bool, true, false}
use mathlib.Core.List.{List, [], ◌∷◌, ◌++◌}
use Prim.Native.Nat.{ℕ, zero, suc, ◌+◌, ◌*◌, ◌≤◌}
use native.Mathlib.Omega.{arith}
use lib.ListN.{length}
use Rattle.sizes.specs.Sizes.{leaf_bytes, join_bytes}
use Rattle.number.specs.Number.{groups, Front, number, bad, read}
use Rattle.number.proofs.Laws.{read_in-rest}
use Rattle.totdb.specs.Nodes.{Node, leaf, joined, known, leaf_count, join_count}
use Rattle.totdb.proofs.Leaves.{leaf_count-leaf, leaf_count-join}
use Rattle.cert.specs.State.{State, Head, start, serve, requests}
use Rattle.cert.proofs.Apart.{sized_ok}
use Rattle.player.specs.Formed.{Sound}
use Rattle.player.specs.Player.{first_no, questions, act, make, delete, play, accepted}
use Rattle.player.specs.Script.{Next, command, refuse, get, arguments, read_command, command_numbers}
use Rattle.player.specs.declared.Command.{Command}
use Rattle.player.proofs.Limits.{join_count-leaf, join_count-join}
use Rattle.player.proofs.Plays.{play_passed}
use Rattle.player.proofs.Sound.{serve_nodes, requests_asked, request_fits}

-- ---- a command

-- After m numbers of a command, a reader takes a byte at least for each of the others.
abbrev Takes : ℕ → (List ℕ → Next) → Type 0
Takes m f = (bs : List ℕ) (c : Command) (rest : List ℕ) → f bs ≡ command c rest → length (command_numbers c) + length rest ≤ m + length bs

takes_done : (c : Command) (m : ℕ) → length (command_numbers c) ≤ m → Takes m (command c)
takes_done c m h bs d rest e = let p : bs ≡ rest = cc in let q : c ≡ d = cc in rw (← p, ← q) (omega arith)

takes_refuse : (m n : ℕ) → Takes m (λ bs. refuse n)
takes_refuse m n bs c rest e = absurd (let z : ◌≡◌ {A = ℕ} 0 1 = cc in omega arith)

takes_get : (m : ℕ) (f : ℕ → List ℕ → Next) → ((x : ℕ) → Takes (suc m) (f x)) → Takes m (λ bs. get bs f)
unfolding get
takes_get m f l bs c rest e = by (read bs) refl
  where
    by : (t : Front) → read bs ≡ t → length (command_numbers c) + length rest ≤ m + length bs
    by bad k = absurd (let j = rw (k, get) at e in let z : ◌≡◌ {A = ℕ} 0 1 = cc in omega arith)
    by (number x r) k = omega (arith, l x r c rest (rw (k, get) at e), (read_in-rest groups bs k).1)

takes_arguments : (n : ℕ) → Takes 1 (arguments n)
unfolding arguments command_numbers
takes_arguments zero = takes_refuse 1 5
takes_arguments (suc zero) = takes_get 1 _ (λ l. takes_done _ 2 (omega arith))
takes_arguments (suc (suc zero)) =
    takes_get 1 _ (λ n. takes_get 2 _ (λ f. takes_get 3 _ (λ k. takes_get 4 _ (λ m. takes_get 5 _ (λ g. takes_get 6 _ (λ j. takes_done _ 7 (omega arith)))))))
takes_arguments (suc (suc (suc zero))) = takes_get 1 _ (λ n. takes_get 2 _ (λ v. takes_get 3 _ (λ d. takes_done _ 4 (omega arith))))
takes_arguments (suc (suc (suc (suc zero)))) = takes_done _ 1 (omega arith)
takes_arguments (suc (suc (suc (suc (suc n))))) = takes_refuse 1 5

takes_code : (closed : Bool) → Takes 0 (λ bs. get bs (λ c r. elim closed [ true ↦ refuse 4 | false ↦ arguments c r ]))
takes_code true = takes_get 0 _ (λ c. takes_refuse 1 4)
takes_code false = takes_get 0 _ takes_arguments

pub command_takes : (closed : Bool) → Takes 0 (read_command closed)
unfolding read_command
command_takes closed [] c rest e = absurd (let z : ◌≡◌ {A = ℕ} 0 1 = cc in omega arith)
command_takes closed (b ∷ bs) c rest e = takes_code closed (b ∷ bs) c rest e

-- ---- the nodes

-- The nodes t are made within n bytes.
abbrev pub Took : ℕ → List Node → Type 0
Took n t = leaf_bytes * leaf_count t + join_bytes * join_count t ≤ n

pub took_start : (h : Head) (n : ℕ) → Took n (start h).nodes
unfolding start leaf_count join_count
took_start h n = omega arith

module _ (h : Head) (s : State) (sound : Sound h s) (n m : ℕ) (t : Took n s.nodes) where
  same : n ≤ m → (v : State) → v.nodes ≡ s.nodes → Took m v.nodes
  same later v e = rw e (omega (arith, t))

  acts : (k : Command) → n + length (command_numbers k) ≤ m → first_no (questions h s.nodes k) ≡ 0 → Took m (act k s).nodes
  unfolding act command_numbers
  acts (Command.Leaf l) later asked = by (known s.nodes l) refl
    where
      by : (b : Bool) → known s.nodes l ≡ b → Took m (elim b as (λ _. State) [ true ↦ s | false ↦ make (leaf l) 0 s ]).nodes
      by true e = same (omega arith) s refl
      by false e = unfold make in omega (arith, t, leaf_count-leaf s.nodes l, join_count-leaf s.nodes l)
  acts (Command.Join l r) later asked =
      let x : Node = joined s.nodes s.next_variable l r in
      let leaves : leaf_count (s.nodes ++ (x ∷ [])) ≡ leaf_count s.nodes = unfold joined in leaf_count-join s.nodes _ s.next_variable _ _ in
      let joins : join_count (s.nodes ++ (x ∷ [])) ≡ join_count s.nodes + 1 = unfold joined in join_count-join s.nodes _ s.next_variable _ _ in
      unfold make in omega (arith, t)
  acts (Command.Request p v d) later asked =
      let ns = s.nodes in
      same (omega arith) (serve ns (requests p v d) s)
      (serve_nodes ns (sized_ok ns sound.sized) (requests p v d) (requests_asked ns p v d (request_fits h ns p v d asked)) s).0
  acts Command.Close later asked = same (omega arith) (delete s) (unfold delete in refl)

  -- A command that is accepted.
  pub took_on : (c : ℕ) (k : Command) (u : State) → play h c k s ≡ accepted u → n + length (command_numbers k) ≤ m → Took m u.nodes
  took_on c k u goes later =
      let p = play_passed h c k s u goes in
      subst (λ (v : State). Took m v.nodes) p.after (acts k later p.asked)
