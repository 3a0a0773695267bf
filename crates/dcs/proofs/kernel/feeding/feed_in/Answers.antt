-- `feed_in` meets its contract: one path for each phase, by what its callees say and the law of that phase.
use Rattle.dcs.proofs.SessionLaws.{fed-before, fed-within, fed-escaped, fed-over}
use Rattle.dcs.proofs.kernel.feeding.feed_in.Goals as goal

pub returns-in-Before : goal.returns-in-Before
returns-in-Before c = fed-before _ _ _ _ _ _ c.in-Before.is c.feed_lead.ensures

pub returns-in-Within : goal.returns-in-Within
returns-in-Within c = fed-within _ _ _ _ _ _ c.in-Within.is c.feed_within.ensures

pub returns-in-Escaped : goal.returns-in-Escaped
returns-in-Escaped c = fed-escaped _ _ _ _ _ _ c.in-Escaped.is c.escape.ensures (c.tell.ensures _)

pub returns-in-Over : goal.returns-in-Over
returns-in-Over c = fed-over _ _ _ _ _ _ c.in-Over.is c.end.ensures (c.tell-in-Over.ensures _)
