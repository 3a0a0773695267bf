-- `explain_feed` meets its contract: a refusal at once, or one law for each phase.
use borrow.Author.Rules.{rules}
use Rattle.explain.proofs.ExplainLaws.{sequences}
use Rattle.explain.proofs.dcs_session.explain_feed.Goals as goal

pub returns-in-Err : goal.returns-in-Err
returns-in-Err c = search (rules, sequences, c.feed_refusal.ensures)

pub returns-in-Before : goal.returns-in-Before
returns-in-Before c = search (rules, sequences, c.feed_refusal.ensures, c.explain_lead.ensures)

pub returns-in-Within : goal.returns-in-Within
returns-in-Within c = search (rules, sequences, c.feed_refusal.ensures)

pub returns-in-Escaped : goal.returns-in-Escaped
returns-in-Escaped c = search (rules, sequences, c.feed_refusal.ensures)

pub returns-in-Over : goal.returns-in-Over
returns-in-Over c = search (rules, sequences, c.feed_refusal.ensures)
