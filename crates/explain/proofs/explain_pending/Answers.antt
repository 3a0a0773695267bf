-- `explain_pending` meets its contract: a byte that ends the payload ends the pending command.
use borrow.Author.Rules.{rules}
use Rattle.explain.proofs.ExplainLaws.{telling}
use Rattle.explain.proofs.explain_pending.Goals as goal

pub returns : goal.returns
returns c = search (rules, telling)
