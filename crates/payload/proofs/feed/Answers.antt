-- `feed` meets its contract: the feed over the parts, with the palette lent as a table.
use mathlib.Core.Path.{◌∙◌}
use Rattle.payload.proofs.CoreLaws.{fed-whole}
use Rattle.payload.proofs.feed.Goals as goal

pub returns : goal.returns
returns c =
    fed-whole _ c.setup_of-setup.ensures c.life_of-life.ensures c.frame_of.ensures
    (c.table-colors.ensures ∙ c.palette_of-palette.ensures) _ _ _ _ c.feed-fed.ensures c.of_table.ensures
    c.session_of.ensures
