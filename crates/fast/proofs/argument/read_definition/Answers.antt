-- `read_definition` meets its contract: after a first number that is parted, three numbers parted and a last one, each from the end of the one
-- before, are a definition.
use Rattle.fast.proofs.ArgumentLaws.{five-defined}
use Rattle.fast.proofs.argument.read_definition.Goals as goal

pub returns : goal.returns
returns c =
    λ from written.
    five-defined _ _ (c.in_ok-first.ensures from written) c.in_ok-space.ensures c.in_ok-x.ensures c.in_ok-y.ensures c.in_ok-z.ensures
