-- `raster_from` meets its contract: three reads, and a remainder by 256 fits a byte.
use mathlib.Core.Path.{refl}
use Rattle.payload.specs.Memory.{raster_from}
use Rattle.payload.proofs.memory.raster_from.Goals as goal

pub returns : goal.returns
unfolding raster_from
returns c = refl
