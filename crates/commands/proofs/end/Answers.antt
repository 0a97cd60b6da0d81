use borrow.Author.Tests.{lt-ltb, le-ltb}
use Rattle.commands.specs.Standing.{end_of}
use Rattle.commands.proofs.end.Goals as goal

pub returns-then-length-at : goal.returns-then-length-at
unfolding end_of
returns-then-length-at c = rw (lt-ltb c.args.length c.args.at c.if-length-at.true)

pub returns : goal.returns
unfolding end_of
returns c = rw (le-ltb c.args.length c.args.at c.if-length-at.false)
