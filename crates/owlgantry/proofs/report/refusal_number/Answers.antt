-- `refusal_number` meets its contract: a finish is a picture or refused (`refusal-as`).
use Rattle.owlgantry.proofs.ReportLaws.{refusal-as}
use Rattle.payload.specs.Meant.{finish_meant}
use Rattle.owlgantry.specs.Reading.{refusal_number}
use borrow.Author.Rules.{rules}
use Rattle.owlgantry.proofs.report.refusal_number.Goals as goal

pub returns-in-Ok : goal.returns-in-Ok
unfolding refusal_number finish_meant
returns-in-Ok c p = search (rules, refusal-as)

pub returns-in-Err : goal.returns-in-Err
unfolding refusal_number finish_meant
returns-in-Err c p = search (rules, refusal-as)
