-- `area_from` meets its contract: two reads.
use mathlib.Core.Path.{refl}
use Rattle.payload.specs.Memory.{area_from}
use Rattle.payload.proofs.memory.area_from.Goals as goal

pub returns : goal.returns
unfolding area_from
returns c = refl
