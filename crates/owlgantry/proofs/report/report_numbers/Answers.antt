-- `report_numbers` meets its contract: the numbers of a picture (`report-picture`) and of a refusal (`report-as`).
use Rattle.owlgantry.proofs.ReportLaws.{reported}
use Rattle.payload.specs.Meant.{finish_meant}
use Rattle.owlgantry.specs.Reading.{report_numbers}
use borrow.Author.Rules.{rules}
use Rattle.owlgantry.proofs.report.report_numbers.Goals as goal

pub returns-in-Ok : goal.returns-in-Ok
returns-in-Ok c p = search (rules, reported)

pub returns-in-Err : goal.returns-in-Err
unfolding report_numbers finish_meant
returns-in-Err c p = search (rules, reported)
