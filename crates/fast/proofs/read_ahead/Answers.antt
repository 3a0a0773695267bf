-- `read_ahead` meets its contract: by the byte that stands there, one of the advances.
use mathlib.Core.Path.{sym, ◌∙◌}
use Rattle.fast.proofs.AdvanceLaws.{dollar-advances, dash-advances}
use Rattle.fast.proofs.read_ahead.Goals as goal

pub read_run-requires : goal.read_run-requires
read_run-requires c =
    (c.requires.0, c.requires.1, c.begins_run.ensures c.if-begins_run.true, c.requires.2, sym c.is_sixel.ensures ∙ c.if-is_sixel.true)

pub returns-then-begins_run : goal.returns-then-begins_run
returns-then-begins_run c = c.read_run.ensures _

pub returns-then-byte-eq35 : goal.returns-then-byte-eq35
returns-then-byte-eq35 c = c.read_color.ensures _ _ _ c.requires.0

pub returns-then-byte-eq36 : goal.returns-then-byte-eq36
returns-then-byte-eq36 c =
    dollar-advances _ _ _ _ _ _ _ c.requires.0 c.requires.1 c.requires.2 c.if-byte-eq36.true c.move_to.ensures

pub returns-then-byte-eq45 : goal.returns-then-byte-eq45
returns-then-byte-eq45 c =
    dash-advances _ _ _ _ _ _ _ c.requires.0 c.requires.1 c.requires.2 c.if-byte-eq45.true c.row_below.ensures c.move_to-then-byte-eq45.ensures

pub returns : goal.returns
returns c = c.read_drawn.ensures _
