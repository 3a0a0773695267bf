-- `read_repeated` meets its contract: the sixel has an area that holds it, or it is refused and nothing is taken.
use mathlib.Core.Path.{refl, sym}
use native.Mathlib.Omega.{arith}
use Rattle.reference.proofs.StepLaws.{needed-holds}
use Rattle.fast.proofs.RunLaws.{nothing-advances}
use Rattle.fast.proofs.drawn.read_repeated.Goals as goal

pub paint_repeated-requires : goal.paint_repeated-requires
paint_repeated-requires c =
    let area = sym c.in-Ok.ensures in
    let holds = needed-holds c.args.frame c.args.ground _ c.in-Ok.area.width c.in-Ok.area.height c.requires.0 refl area in
    (holds.0, holds.1, c.requires.1, c.requires.2, c.requires.3, area)

pub returns-in-Err : goal.returns-in-Err
returns-in-Err c =
    λ p. nothing-advances _ _ _ _ _ p _ c.requires.0 (omega (arith, c.requires.2)) c.nothing.ensures
