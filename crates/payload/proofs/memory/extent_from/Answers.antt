-- `extent_from` meets its contract: two reads.
use mathlib.Core.Path.{refl}
use Rattle.payload.specs.Memory.{extent_from}
use Rattle.payload.proofs.memory.extent_from.Goals as goal

pub returns : goal.returns
unfolding extent_from
returns c = refl
