-- `explain_on` meets its contract: where a session may be opened, what it comes to; else 11.
use borrow.Author.Rules.{rules}
use Rattle.explain.proofs.ExplainLaws.{wholes}
use Rattle.explain.proofs.whole.explain_on.Goals as goal

pub returns-then-may_open : goal.returns-then-may_open
returns-then-may_open c = search (rules, wholes, c.explain_input.ensures)

pub returns : goal.returns
returns c = search (rules, wholes)
