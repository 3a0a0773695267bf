-- `read` meets its contract: it is `read_onto` on the registers of the palette.
use Rattle.oneshot.proofs.WholeLaws.{whole-value}
use Rattle.oneshot.proofs.read.Goals as goal

pub returns : goal.returns
returns c =
    whole-value _ _ _ _ _ _ _ c.table-colors.ensures c.read_onto-read.ensures.0 c.of_table.ensures
