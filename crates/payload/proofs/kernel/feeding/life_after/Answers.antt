-- `life_after` meets its contract: one case for each outcome.
use Rattle.payload.proofs.SessionLaws.{life-as}
use Rattle.payload.specs.Session.{life_after}
use borrow.Author.Rules.{rules}
use Rattle.payload.proofs.kernel.feeding.life_after.Goals as goal

pub returns-in-Read : goal.returns-in-Read
unfolding life_after
returns-in-Read c = search (rules, life-as)

pub returns-in-Stopped : goal.returns-in-Stopped
unfolding life_after
returns-in-Stopped c = search (rules, life-as)

pub returns-in-Ended : goal.returns-in-Ended
unfolding life_after
returns-in-Ended c = search (rules, life-as)

pub returns-in-Refused : goal.returns-in-Refused
unfolding life_after
returns-in-Refused c = search (rules, life-as)
