-- `move_refusal` meets its contract: one law for each answer.
use borrow.Author.Rules.{rules}
use Rattle.moving.proofs.MoveLaws.{judging}
use Rattle.moving.proofs.move_refusal.Goals as goal

pub returns-then-has_failed : goal.returns-then-has_failed
returns-then-has_failed c p = search (rules, judging)

pub returns-then-not-may_open : goal.returns-then-not-may_open
returns-then-not-may_open c p = search (rules, judging)

pub returns-then-not-has_room : goal.returns-then-not-has_room
returns-then-not-has_room c p = search (rules, judging)

pub returns : goal.returns
returns c p = search (rules, judging)
