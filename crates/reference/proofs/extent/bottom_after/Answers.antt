-- `bottom_after` meets its contract: one law for a blank sixel and one for any other. The depth is at most six rows.
use native.Mathlib.Omega.{arith}
use borrow.Author.Rules.{rules}
use Rattle.canvas.proofs.Depth.{depth-most}
use Rattle.reference.specs.Step.{bottom_after}
use Rattle.reference.proofs.StepLaws.{extents}
use Rattle.reference.proofs.extent.bottom_after.Goals as goal

pub returns-then-bits-eq0 : goal.returns-then-bits-eq0
unfolding bottom_after
returns-then-bits-eq0 c = search (rules, extents)

pub overflow_add-row : goal.overflow_add-row
overflow_add-row c = omega (arith, c.depth_of.ensures, depth-most 6 c.args.bits, c.requires.0)

pub returns : goal.returns
unfolding bottom_after
returns c = search (rules, extents)
