-- `answer_of` meets its contract: one case for each outcome.
use Rattle.payload.proofs.SessionLaws.{answer-as}
use Rattle.payload.specs.Session.{answer_of}
use borrow.Author.Rules.{rules}
use Rattle.payload.proofs.kernel.feeding.answer_of.Goals as goal

pub returns-in-Read : goal.returns-in-Read
unfolding answer_of
returns-in-Read c = search (rules, answer-as)

pub returns-in-Stopped : goal.returns-in-Stopped
unfolding answer_of
returns-in-Stopped c = search (rules, answer-as)

pub returns-in-Ended : goal.returns-in-Ended
unfolding answer_of
returns-in-Ended c = search (rules, answer-as)

pub returns-in-Refused : goal.returns-in-Refused
unfolding answer_of
returns-in-Refused c = search (rules, answer-as)
