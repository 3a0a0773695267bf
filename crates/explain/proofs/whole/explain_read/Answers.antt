-- `explain_read` meets its contract: the owner's registers, as a session starts with them.
use borrow.Author.Rules.{rules}
use Rattle.explain.proofs.ExplainLaws.{wholes}
use Rattle.explain.proofs.whole.explain_read.Goals as goal

pub returns : goal.returns
returns c = search (rules, wholes)
