-- `pixel_at` meets its contract: the pixel's four bytes lie on the canvas.
use mathlib.Core.Path.{refl}
use Rattle.fast.specs.Blend.{four_at}
use Rattle.fast.proofs.blend.pixel_at.Goals as goal

pub returns : goal.returns
unfolding four_at
returns c = refl
