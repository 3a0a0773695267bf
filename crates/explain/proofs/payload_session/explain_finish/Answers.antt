-- `explain_finish` meets its contract: a refusal at once has no place; else the pending command is ended.
use borrow.Author.Rules.{rules}
use Rattle.explain.proofs.ExplainLaws.{payloads}
use Rattle.explain.proofs.payload_session.explain_finish.Goals as goal

pub returns-in-Err : goal.returns-in-Err
returns-in-Err c = search (rules, payloads, c.finish_refusal.ensures)

pub returns : goal.returns
returns c = search (rules, payloads, c.finish_refusal.ensures)
