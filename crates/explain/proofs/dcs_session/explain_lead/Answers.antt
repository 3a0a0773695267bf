-- `explain_lead` meets its contract: the header goes on, begins the payload or is refused, and there is a law for each.
use Rattle.dcs.proofs.SessionLaws.{lead-in}
use borrow.Author.Rules.{rules}
use Rattle.explain.proofs.ExplainLaws.{sequences}
use Rattle.explain.proofs.dcs_session.explain_lead.Goals as goal

pub explain_begun-requires : goal.explain_begun-requires
explain_begun-requires c = lead-in _ _ _ c.read_lead-lead.ensures

pub returns-in-Ok-On : goal.returns-in-Ok-On
returns-in-Ok-On c f = search (rules, sequences)

pub returns-in-Ok-Begins : goal.returns-in-Ok-Begins
returns-in-Ok-Begins c f = search (rules, sequences, c.explain_begun.ensures f)

pub returns-in-Err : goal.returns-in-Err
returns-in-Err c f = search (rules, sequences)
