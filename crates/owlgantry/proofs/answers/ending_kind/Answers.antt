-- `ending_kind` meets its contract: each of its three cases, by `by-case`.
use Rattle.owlgantry.specs.Sessions.{ending_kind}
use Rattle.owlgantry.proofs.ReportLaws.{by-case}
use borrow.Author.Rules.{rules}
use Rattle.owlgantry.proofs.answers.ending_kind.Goals as goal

pub returns-in-Complete : goal.returns-in-Complete
unfolding ending_kind
returns-in-Complete c = search (rules, by-case ending_kind)

pub returns-in-Cancelled : goal.returns-in-Cancelled
unfolding ending_kind
returns-in-Cancelled c = search (rules, by-case ending_kind)

pub returns-in-Interrupted : goal.returns-in-Interrupted
unfolding ending_kind
returns-in-Interrupted c = search (rules, by-case ending_kind)
