-- `draw_sixel` may paint: the area that a sixel needs holds it.
use Rattle.std.proofs.Common.{refl}
use Rattle.reference.proofs.StepLaws.{needed-holds}
use Rattle.reference.proofs.draw_sixel.Goals as goal

pub paint-requires : goal.paint-requires
paint-requires c =
    let a = c.in-Ok.area in
    let held = needed-holds c.args.frame c.args.ground _ a.width a.height c.requires.0 c.in-Ok.ensures refl in
    (held.0, held.1, c.requires.1)
