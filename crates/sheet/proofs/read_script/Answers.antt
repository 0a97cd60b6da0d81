-- `sheet::read_script` meets its contract: a reader cut at a limit gives its first bytes.
use Rattle.std.proofs.Common.{◌≡◌, ◌+◌, take, ◌++◌, IfSome, ℕ, List, Option, Some, None}
use Rattle.std.proofs.lemmas.Result.{on_ok_weaker}
use Rattle.std.specs.Option.{option_map}
use Rattle.sizes.specs.Sizes.{most_bytes}
use Rattle.sheet.proofs.read_script.Goals as goal

up_to : (known : Option (List ℕ)) (n : ℕ) (old new : List ℕ) → IfSome (option_map (take n) known) (λ xs. new ≡ old ++ xs)
    → IfSome known (λ bs. new ≡ old ++ take n bs)
up_to None n old new h = h
up_to (Some bs) n old new h = h

pub returns-clause-script : goal.returns-clause-script
returns-clause-script g c =
    let read = rw (c.take.ensures.limit, c.take.ensures.inner) at c.in_ok-read_to_end.ensures.bytes in
    on_ok_weaker c.read_on.result (λ _. up_to (g.R.Read.remaining c.args.input.now) (most_bytes + 1) c.args.to.now.items c.read_to_end.new.buf.items read) c.read_on.ensures
