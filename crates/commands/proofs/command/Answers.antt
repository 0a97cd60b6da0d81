use Rattle.commands.proofs.command.Goals as goal

pub leaf-requires : goal.leaf-requires
leaf-requires c = (c.args.store.now, c.args.log.now, c.requires.0, c.requires.1)

pub returns-in-Leaf : goal.returns-in-Leaf
returns-in-Leaf c =
    λ h p s e st.
    rw c.in-Leaf.is (c.leaf.ensures h p c.args.store.now c.args.log.now s e st c.requires.0.room)

pub returns-in-Join : goal.returns-in-Join
returns-in-Join c =
    λ h p s e st.
    rw c.in-Join.is (c.join.ensures h p c.args.store.now c.args.log.now s st c.requires.0.room)

pub returns-in-Request : goal.returns-in-Request
returns-in-Request c =
    λ h p s e st. rw c.in-Request.is (c.request.ensures h p s st)

pub returns-in-Close : goal.returns-in-Close
returns-in-Close c =
    λ h p s e st. rw c.in-Close.is (c.close.ensures h p s st)
