-- `finish_refusal` meets its contract: one law for each answer.
use Rattle.payload.proofs.RefusalLaws.{refusing}
use borrow.Author.Rules.{rules}
use Rattle.payload.proofs.refusals.finish_refusal.Goals as goal

pub returns-then-has_failed : goal.returns-then-has_failed
returns-then-has_failed c p = search (rules, refusing)

pub returns-then-misfits : goal.returns-then-misfits
returns-then-misfits c p = search (rules, refusing, c.misfits.ensures p)

pub returns : goal.returns
returns c p = search (rules, refusing, c.misfits.ensures p)
