-- `right_after` meets its contract: one law for a blank sixel and one for any other.
use borrow.Author.Rules.{rules}
use Rattle.reference.specs.Step.{right_after}
use Rattle.reference.proofs.StepLaws.{extents}
use Rattle.reference.proofs.extent.right_after.Goals as goal

pub returns-then-bits-eq0 : goal.returns-then-bits-eq0
unfolding right_after
returns-then-bits-eq0 c = search (rules, extents)

pub returns : goal.returns
unfolding right_after
returns c = search (rules, extents)
