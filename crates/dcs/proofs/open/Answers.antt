-- `open` meets its contract: the opening over the parts, with the palette lent as a table.
use Rattle.dcs.proofs.CoreLaws.{opened-whole}
use Rattle.dcs.proofs.open.Goals as goal

pub returns : goal.returns
returns c =
    opened-whole _ _ _ _ c.lasting-own.ensures c.table-colors.ensures c.open-opened.ensures c.with_palette.ensures
