-- `feed` meets its contract: the feed over the parts, with the palette lent as a table.
use mathlib.Core.Path.{◌∙◌}
use Rattle.dcs.proofs.CoreLaws.{fed-whole}
use Rattle.dcs.proofs.feed.Goals as goal

pub returns : goal.returns
returns c =
    fed-whole _ _ _ _ c.core_of.ensures (c.table-colors.ensures ∙ c.palette_of-palette.ensures) c.feed-fed.ensures
    c.of_table.ensures c.with_palette.ensures
