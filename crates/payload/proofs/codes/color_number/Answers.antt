-- `color_number` meets its contract: four reads of the pixel, joined.
use Rattle.payload.specs.Codes.{color_number}
use Rattle.payload.proofs.codes.color_number.Goals as goal

pub returns : goal.returns
unfolding color_number
returns c = c.joined.ensures
