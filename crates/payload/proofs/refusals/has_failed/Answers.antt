-- `has_failed` meets its contract: one law for each answer.
use Rattle.payload.proofs.RefusalLaws.{refusing}
use borrow.Author.Rules.{rules}
use Rattle.payload.proofs.refusals.has_failed.Goals as goal

pub returns-in-Failed : goal.returns-in-Failed
returns-in-Failed c = search (rules, refusing)

pub returns-in_default : goal.returns-in_default
returns-in_default c = search (rules, refusing)
