-- `canvas::has_picture` meets its contract. Assumes nothing.
use Rattle.std.proofs.Common.{arith}
use Rattle.std.proofs.lemmas.Grind.{common_steps}
use Rattle.canvas.specs.Picture.{fits}
use Rattle.canvas.specs.Copy.{has_picture}
use Rattle.canvas.proofs.Copies.{has_last}
use Rattle.canvas.proofs.has_picture.Goals as goal

pub returns-then-width-stride : goal.returns-then-width-stride
returns-then-width-stride c = has_last _ _ _ _ _ (omega arith) (omega arith) (omega arith) (omega arith) c.rows.ensures

pub returns-else-width-stride : goal.returns-else-width-stride
unfolding has_picture fits
returns-else-width-stride c = grind (arith, common_steps)
