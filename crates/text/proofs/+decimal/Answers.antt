use Rattle.text.proofs.Laws.{after, decimal_last, decimal_more}
use Rattle.text.proofs.+decimal.Goals as goal

pub returns-then-x-lt10 : goal.returns-then-x-lt10
returns-then-x-lt10 t c = rw (decimal_last c.args.x c.if-x-lt10.true) (rw c.digit.ensures at c.put.ensures)

pub returns : goal.returns
returns t c = rw (decimal_more c.args.x c.if-x-lt10.false) (after c.decimal-end.ensures (rw c.digit-2.ensures at c.put-2.ensures))
