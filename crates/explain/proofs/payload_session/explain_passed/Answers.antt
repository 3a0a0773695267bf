-- `explain_passed` meets its contract: an ended session repeats its end, and any other reads.
use borrow.Author.Rules.{rules}
use Rattle.explain.proofs.ExplainLaws.{payloads}
use Rattle.explain.proofs.payload_session.explain_passed.Goals as goal

pub returns-in-Ended : goal.returns-in-Ended
returns-in-Ended c = search (rules, payloads)

pub returns : goal.returns
returns c = search (rules, payloads)
