-- `hand_back` meets its contract: one law for each answer.
use Rattle.payload.proofs.CoreLaws.{wholes}
use borrow.Author.Rules.{rules}
use Rattle.payload.proofs.hand_back.Goals as goal

pub returns-in-Ok : goal.returns-in-Ok
returns-in-Ok c = search (rules, wholes)

pub returns-in-Err : goal.returns-in-Err
returns-in-Err c = search (rules, wholes)
