-- `paint_run` meets its contract: the area has room for the run, and the frame after it has the extent that was found.
use mathlib.Core.Path.{◌∙◌}
use borrow.Author.Rules.{rules}
use Rattle.reference.proofs.StepLaws.{held-room, sixel-room}
use Rattle.fast.proofs.RunLaws.{painted-as}
use Rattle.fast.proofs.run.paint_run.Goals as goal

pub grow-requires : goal.grow-requires
grow-requires c = search (rules, held-room)

pub paint_sixels-ink-requires : goal.paint_sixels-ink-requires
paint_sixels-ink-requires c =
    let room = sixel-room c.args.frame c.args.ground _ _ _ _ c.grow.auto.canvas c.requires.0 c.requires.1 in
    (c.requires.2, room.0, room.1)

pub shape_of-canvas : goal.shape_of-canvas
shape_of-canvas c =
    c.paint_sixels-ink.auto.canvas ∙ c.grow.auto.canvas

pub returns : goal.returns
returns c =
    let a = c.args in
    painted-as a.frame a.ground a.area.width a.area.height a.bytes.now a.from a.canvas.now c.grow.ensures
    c.paint_sixels-ink.ensures
    c.extent_after-reached.ensures
    c.passed.ensures
    c.advance_to.ensures
