use Rattle.std.proofs.Common.{rules}
use Rattle.places.specs.Walk.{after_token}
use Rattle.places.proofs.Turns.{skip_range}
use Rattle.places.proofs.after_tokens.Goals as goal

pub returns : goal.returns
returns c = skip_range (after_token c.args.log.now) c.args.k c.args.at _ (λ x y r q k. search rules) c.fold.ensures.ran
