-- `move_to` meets its contract: an advance to the frame whose pen is at the start of a row.
use borrow.Author.Rules.{rules}
use Rattle.reference.specs.Step.{moved_to}
use Rattle.fast.specs.Advance.{advance_to}
use Rattle.fast.proofs.move_to.Goals as goal

pub returns : goal.returns
unfolding moved_to advance_to
returns c = search rules
