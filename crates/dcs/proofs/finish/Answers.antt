-- `finish` meets its contract: the finish over the parts, and whose palette is handed back.
use mathlib.Core.Path.{◌∙◌}
use Rattle.dcs.proofs.CoreLaws.{finished-whole}
use Rattle.dcs.proofs.finish.Goals as goal

pub returns : goal.returns
returns c =
    finished-whole _ c.setup_of.ensures c.life_of-life.ensures c.frame_of.ensures
    (c.table-colors.ensures ∙ c.palette_of-palette.ensures) _ _ _ (c.finish-answer.ensures _) c.of_table.ensures
    c.hand_back.ensures
