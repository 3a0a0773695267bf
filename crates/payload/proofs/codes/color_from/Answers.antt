-- `color_from` meets its contract: each of the four bytes is a remainder by 256, and so fits a byte.
use mathlib.Core.Path.{refl}
use Rattle.payload.specs.Codes.{color_from}
use Rattle.payload.proofs.codes.color_from.Goals as goal

pub returns : goal.returns
unfolding color_from
returns c = refl
