-- `draw_sixel` may draw: the area that a sixel needs holds it.
use Rattle.std.proofs.Common.{refl}
use Rattle.explain.proofs.DryLaws.{area-holds}
use Rattle.explain.proofs.dry.draw_sixel.Goals as goal

pub ink_sixel-requires : goal.ink_sixel-requires
ink_sixel-requires c =
    let held = area-holds c.args.frame c.args.ground c.in-Ok.area.width c.in-Ok.area.height c.in-Ok.ensures refl in
    (held.0, held.1, c.requires)
