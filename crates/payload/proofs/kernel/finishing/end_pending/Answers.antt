-- `end_pending` meets its contract: nothing where no command is pending, else the loop with the one byte 1B (PendingLaws).
use Rattle.payload.proofs.PendingLaws.{carrying}
use borrow.Author.Rules.{rules}
use Rattle.payload.proofs.kernel.finishing.end_pending.Goals as goal

pub returns-in-Data : goal.returns-in-Data
returns-in-Data c = search (rules, carrying)

pub returns : goal.returns
returns c = search (rules, carrying)
