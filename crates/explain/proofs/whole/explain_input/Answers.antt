-- `explain_input` meets its contract: a header was begun, or all bytes are payload.
use borrow.Author.Rules.{rules}
use Rattle.explain.proofs.ExplainLaws.{wholes}
use Rattle.explain.proofs.whole.explain_input.Goals as goal

pub returns-in-Some : goal.returns-in-Some
returns-in-Some c life f = search (rules, wholes, c.explain_header.ensures life f)

pub returns-in-None : goal.returns-in-None
returns-in-None c life f = search (rules, wholes, c.explain_started.ensures life f)
