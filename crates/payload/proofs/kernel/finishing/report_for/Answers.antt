-- `report_for` meets its contract: ratio and transparency are its callees', the rest are the frame's numbers.
use Rattle.payload.proofs.SessionLaws.{finishings}
use borrow.Author.Rules.{rules}
use Rattle.payload.proofs.kernel.finishing.report_for.Goals as goal

pub returns : goal.returns
returns c = search (rules, finishings)
