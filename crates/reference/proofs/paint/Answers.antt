-- `paint` may multiply: a sixel that has room has at most as much ink as the canvas has bytes.
use native.Mathlib.Omega.{arith}
use lib.ListN.{length}
use Rattle.reference.proofs.StepLaws.{ink-room}
use Rattle.reference.proofs.paint.Goals as goal

pub overflow_mul-ink : goal.overflow_mul-ink
overflow_mul-ink c =
    let a = c.args in
    omega
    (arith, ink-room a.frame a.ground a.bits a.area.width a.area.height (length a.canvas.now) c.ranges.bits.fits c.requires.0 c.requires.1)
