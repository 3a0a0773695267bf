-- `resume` meets its contract: one law for a command that was read and one for none.
use borrow.Author.Rules.{rules}
use Rattle.reading.proofs.LoopLaws.{resumes}
use Rattle.reading.proofs.resume.Goals as goal

pub returns-then-advance : goal.returns-then-advance
returns-then-advance c = search (rules, resumes)

pub returns : goal.returns
returns c = search (rules, resumes)
