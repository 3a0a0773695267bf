-- `told_numbers` meets its contract: nothing is told, or a refusal, by `by-case`.
use Rattle.owlgantry.proofs.ReportLaws.{by-case}
use Rattle.owlgantry.specs.Explaining.{told_numbers}
use borrow.Author.Rules.{rules}
use Rattle.owlgantry.proofs.explaining.told_numbers.Goals as goal

pub returns-in-Ok : goal.returns-in-Ok
unfolding told_numbers
returns-in-Ok c = search (rules, by-case told_numbers)

pub returns-in-Err : goal.returns-in-Err
unfolding told_numbers
returns-in-Err c = search (rules, by-case told_numbers)
