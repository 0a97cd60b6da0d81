-- `answer::bytes` meets its contract: what each call copied, then byte by byte.
use Rattle.std.proofs.Common.{arith}
use mathlib.Core.Path.{◌≡◌, refl}
use mathlib.Core.List.{List, ◌∷◌, ◌++◌}
use Prim.Native.Nat.{ℕ, ◌/◌, ◌%◌}
use Rattle.answer.specs.Coded.{le32}
use Rattle.answer.proofs.bytes.Goals as goal

four : (x : ℕ) {a b c d : ℕ} {l m : List ℕ} → a ≡ x % 256 → b ≡ x / 256 % 256 → c ≡ x / 65536 % 256 → d ≡ x / 16777216 → l ≡ m
    → a ∷ b ∷ c ∷ d ∷ l ≡ le32 x ++ m
four x i j k n rest = rw (i, j, k, n, rest)

pub returns : goal.returns
returns c =
    let number : c.copy_from_slice.new.self ≡ le32 c.args.a.number = search arith in
    let place : c.copy_from_slice-2.new.self ≡ le32 c.args.a.place = search arith in
    let length : c.copy_from_slice-3.new.self ≡ le32 c.args.a.length = search arith in
    let steps : c.copy_from_slice-4.new.self ≡ le32 c.args.a.steps = search arith in
    let clauses : c.copy_from_slice-5.new.self ≡ le32 c.args.a.clauses = search arith in
    let nodes : c.copy_from_slice-6.new.self ≡ le32 c.args.a.nodes = search arith in
    rw (number, place, length, steps, clauses, nodes)
    (four c.args.a.number (omega arith) (omega arith) (omega arith) (omega arith)
    (four c.args.a.place (omega arith) (omega arith) (omega arith) (omega arith)
    (four c.args.a.length (omega arith) (omega arith) (omega arith) (omega arith)
    (four c.args.a.steps (omega arith) (omega arith) (omega arith) (omega arith)
    (four c.args.a.clauses (omega arith) (omega arith) (omega arith) (omega arith)
    (four c.args.a.nodes (omega arith) (omega arith) (omega arith) (omega arith) refl))))))
