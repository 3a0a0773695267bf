-- `explain_outcome` meets its contract: a refusal is told with its need, and of any other outcome nothing.
use borrow.Author.Rules.{rules}
use Rattle.explain.proofs.ExplainLaws.{telling}
use Rattle.explain.proofs.explain_outcome.Goals as goal

pub returns-in-Refused : goal.returns-in-Refused
returns-in-Refused c = search (rules, telling)

pub returns-in_default : goal.returns-in_default
returns-in_default c = search (rules, telling)
