-- `given_kind` meets its contract: P1 is missing or a number, by `by-case`.
use Rattle.owlgantry.proofs.ReportLaws.{by-case}
use Rattle.payload.specs.Results.{Given}
use Rattle.payload.specs.Meant.{given_meant}
use Rattle.owlgantry.specs.Reading.{given_kind}
use borrow.Author.Rules.{rules}
use Rattle.owlgantry.proofs.report.given_kind.Goals as goal

pub returns-in-None : goal.returns-in-None
unfolding given_kind given_meant
returns-in-None c = search (rules, by-case (λ (x : Given). given_kind (given_meant x)))

pub returns-in-Some : goal.returns-in-Some
unfolding given_kind given_meant
returns-in-Some c = search (rules, by-case (λ (x : Given). given_kind (given_meant x)))
