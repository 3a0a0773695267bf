-- `read_sixels` meets its contract: as one sixel the run has an area and is painted, or it is refused and nothing is taken.
use Rattle.std.proofs.Common.{refl}
use native.Mathlib.Omega.{arith}
use Rattle.fast.proofs.RunLaws.{planned-holds, painted-advances, nothing-advances}
use Rattle.fast.proofs.run.read_sixels.Goals as goal

pub paint_run-requires : goal.paint_run-requires
paint_run-requires c =
    planned-holds c.args.frame c.args.ground c.args.bytes.now c.args.from c.args.count c.in-Ok.area.width c.in-Ok.area.height _ c.as_repeated-whole.ensures
    c.requires.0
    c.requires.3
    c.in-Ok.ensures
    refl

pub returns-in-Ok : goal.returns-in-Ok
returns-in-Ok c =
    painted-advances c.args.frame c.args.ground c.args.bytes.now c.args.from c.args.count c.in-Ok.area.width c.in-Ok.area.height
    c.as_repeated-whole.ensures
    c.requires.0
    c.requires.1
    c.requires.2
    c.requires.3
    c.requires.4
    c.in-Ok.ensures
    refl
    c.paint_run.ensures

pub returns-in-Err : goal.returns-in-Err
returns-in-Err c =
    λ p left enough.
    nothing-advances c.args.frame c.args.ground _ _ left p _ c.requires.0 (omega (arith, c.requires.3.within)) c.nothing.ensures
