use Rattle.std.proofs.Common.{arith}
use mathlib.Core.Path.{sym, ◌∙◌, refl}
use Prim.Native.Nat.{◌<◌}
use Rattle.pb.specs.Sum.{variable}
use Rattle.player.specs.declared.Command.{Command}
use Rattle.player.specs.declared.Refusal.{Refusal}
use Rattle.player.proofs.Lengths.{leaves_few, leaves_full}
use Rattle.commands.proofs.Questions.{leaf_6, leaf_known, leaf_negated}
use Rattle.commands.proofs.CommandEnds.{refused_early}
use Rattle.commands.proofs.Making.{leaf_there, leafable, leaf_made}
use Rattle.commands.proofs.leaf.Goals.{then-known-2-via-then-known-2, then-known-2-via-else-known-2+then-t-ge-MOST_LEAVES}
use Rattle.commands.proofs.leaf.Goals as goal

pub returns-then-first_variable-literal : goal.returns-then-first_variable-literal
returns-then-first_variable-literal c =
    λ h p store log s e st room.
    refused_early st (Command.Leaf c.args.literal) Refusal.LeafVariable
    (sym (leaf_6 h s.nodes c.args.literal (unfold variable in omega arith))) _ refl

pub returns-then-known : goal.returns-then-known
returns-then-known c =
    λ h p store log s e st room.
    let there = sym (c.known.ensures s.nodes st.table (sym st.leaves)) ∙ c.if-known.true in
    leaf_there st c.args.literal (leaf_known h s.nodes c.args.literal (unfold variable in omega arith) there) there _ refl

pub returns-then-known-2 : goal.returns-then-known-2
returns-then-known-2 c =
    λ h p store log s e st room.
    let new = sym (c.known.ensures s.nodes st.table (sym st.leaves)) ∙ c.if-known.false in
    elim c.then-known-2.branch [
      | then-known-2-via-then-known-2 w ↦
          let negated = sym (c.known-2.ensures s.nodes st.table (sym st.leaves)) ∙ w.if-known-2.true in
          refused_early st (Command.Leaf c.args.literal) Refusal.Leaf
          (sym (leaf_negated h s.nodes c.args.literal (unfold variable in omega arith) new (rw c.neg.ensures at negated))) _ refl
      | then-known-2-via-else-known-2+then-t-ge-MOST_LEAVES w ↦
          let negated = sym (c.known-2.ensures s.nodes st.table (sym st.leaves)) ∙ w.if-known-2.false in
          refused_early st (Command.Leaf c.args.literal) Refusal.Leaf
          (sym (leaves_full h s.nodes c.args.literal (unfold variable in omega arith) new (rw c.neg.ensures at negated)
          (omega (arith, st.leaves, w.if-t-ge-MOST_LEAVES.true)))) _ refl
    ]

pub add_leaf-requires-clause-leafable : goal.add_leaf-requires-clause-leafable
add_leaf-requires-clause-leafable c =
    let below : variable c.args.literal < c.requires.2.head.variable = unfold variable in omega (arith, c.requires.3, c.if-first_variable-literal.false) in
    (c.requires.2.state.nodes, leafable c.requires.2.standing c.args.literal below (omega (arith, c.if-t-ge-MOST_LEAVES.false)))

pub add_leaf-requires-clause-room : goal.add_leaf-requires-clause-room
add_leaf-requires-clause-room c = omega (arith, (add_leaf-requires-clause-leafable c).1.room, c.requires.2.room.row)

pub returns : goal.returns
returns c =
    λ h p store log s e st room.
    let below : variable c.args.literal < h.variable = unfold variable in omega (arith, e, c.if-first_variable-literal.false) in
    let new = sym (c.known.ensures s.nodes st.table (sym st.leaves)) ∙ c.if-known.false in
    let negated = sym (c.known-2.ensures s.nodes st.table (sym st.leaves)) ∙ c.if-known-2.false in
    let added = c.add_leaf.ensures s.nodes (leafable st c.args.literal below (omega (arith, c.if-t-ge-MOST_LEAVES.false))) in
    leaf_made st c.args.literal
    (leaves_few h s.nodes c.args.literal below new (rw c.neg.ensures at negated) (omega (arith, st.leaves, c.if-t-ge-MOST_LEAVES.false))) new
    room _ added _ refl
