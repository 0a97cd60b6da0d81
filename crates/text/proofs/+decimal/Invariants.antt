-- `text::decimal` meets its contract: its two answers are the two forms of `decimal`. The measure is x.
use Rattle.text.proofs.+decimal.Given as goal

abbrev pub decreases-decimal : goal.decreases-decimal
decreases-decimal l = l.x
