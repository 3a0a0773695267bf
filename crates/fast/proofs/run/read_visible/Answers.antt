-- `read_visible` meets its contract: the sixels that were painted need no more than the visible area, so that nothing had to grow.
use Prim.Native.Nat.{◌+◌, ◌<◌}
use native.Mathlib.Omega.{arith}
use lib.ListN.{length}
use Rattle.fast.specs.Run.{Sixels}
use Rattle.fast.proofs.RunLaws.{first_taken, visible-advances, visible-room, planned-run}
use Rattle.fast.proofs.run.read_visible.Goals as goal
use Rattle.fast.proofs.run.read_visible.Goals.{After-as_repeated-whole}

pub blend_sixels-painted-requires : goal.blend_sixels-painted-requires
blend_sixels-painted-requires c =
    let fits = c.requires.0 in
    (c.requires.3, omega (arith, c.requires.4, fits.width), omega (arith, c.requires.5, fits.height, fits.rows))

-- what is asked of the run that is planned
whole_run : (c : After-as_repeated-whole)
    → Sixels c.args.bytes.now c.args.from (c.args.from + c.as_repeated-whole.result.pen.repeat)
    × (c.as_repeated-whole.result.pen.column + c.as_repeated-whole.result.pen.repeat < 18446744073709551616)
    × (c.as_repeated-whole.result.pen.row + 6 < 18446744073709551616)
whole_run c =
    let a = c.args in
    let sixels = c.blend_sixels-painted.ensures in
    planned-run a.frame a.bytes.now a.from _ _ c.as_repeated-whole.ensures sixels.1.sixels
    (visible-room a.frame a.ground _ (length a.canvas.now) c.requires.0 (omega arith) (omega (arith, c.requires.4, sixels.0)) c.requires.5)

pub extent_after-reached-requires : goal.extent_after-reached-requires
extent_after-reached-requires c = whole_run c

pub passed-requires : goal.passed-requires
passed-requires c = (whole_run (goal.at.passed-requires c).After-as_repeated-whole).1

pub returns : goal.returns
returns c =
    let a = c.args in
    let sixels = c.blend_sixels-painted.ensures in
    λ p left enough.
    visible-advances a.frame a.ground a.bytes.now a.from _ c.requires.0 c.requires.1 c.requires.2
    (first_taken a.bytes.now a.from _ a.most c.requires.7 c.requires.6 sixels.2)
    (omega (arith, c.requires.4, sixels.0))
    c.requires.5
    sixels.1
    c.extent_after-reached.ensures
    c.as_repeated-whole.ensures
    c.passed.ensures
    c.advance_to.ensures
    p
    left
    (omega (arith, enough, sixels.0))
