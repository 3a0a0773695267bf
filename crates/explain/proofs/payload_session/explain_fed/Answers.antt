-- `explain_fed` meets its contract: a refusal at once has no place; else the bytes are read.
use borrow.Author.Rules.{rules}
use Rattle.explain.proofs.ExplainLaws.{payloads}
use Rattle.explain.proofs.payload_session.explain_fed.Goals as goal

pub returns-in-Err : goal.returns-in-Err
returns-in-Err c = search (rules, payloads, c.feed_refusal.ensures)

pub returns : goal.returns
returns c = search (rules, payloads, c.feed_refusal.ensures)
