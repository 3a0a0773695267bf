use native.Mathlib.Nat.{zero-add}
use native.Mathlib.Omega.{arith}
use borrow.Author.Tests.{leb-false}
use Rattle.colours.specs.Marks.{frame_unit}
use Rattle.colours.proofs.Blocks.{most-none, most-more}
use Rattle.colours.proofs.marks.may_exceed.Goals as goal

pub loop-number-init : goal.loop-number-init
loop-number-init c = most-none _ _

pub loop-number-preserved : goal.loop-number-preserved
loop-number-preserved c = most-more c.loop-number.invariant

pub returns : goal.returns
returns c answered k h =
    let at = c.loop-number in
    let low = leb-false frame_unit at.all answered in
    let each = at.invariant.each k (omega arith) in
    rw zero-add (omega (arith, low, each))
