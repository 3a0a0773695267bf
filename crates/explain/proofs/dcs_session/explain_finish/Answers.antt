-- `explain_finish` meets its contract: a refusal at once, 8 before the end, and at it the pending command.
use borrow.Author.Rules.{rules}
use Rattle.explain.proofs.ExplainLaws.{sequences}
use Rattle.explain.proofs.dcs_session.explain_finish.Goals as goal

pub returns-in-Err : goal.returns-in-Err
returns-in-Err c = search (rules, sequences, c.finish_refusal.ensures)

pub returns-in-Over : goal.returns-in-Over
returns-in-Over c = search (rules, sequences, c.finish_refusal.ensures)

pub returns : goal.returns
returns c = search (rules, sequences, c.finish_refusal.ensures)
