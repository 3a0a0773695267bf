-- `ratio_number` meets its contract: the raster's number, or that of P1, by `by-case`.
use Rattle.owlgantry.proofs.ReportLaws.{by-case}
use Rattle.payload.specs.declared.Ratio.{Ratio}
use Rattle.payload.specs.Meant.{ratio_meant}
use Rattle.owlgantry.specs.Reading.{ratio_number}
use borrow.Author.Rules.{rules}
use Rattle.owlgantry.proofs.report.ratio_number.Goals as goal

pub returns-in-Raster : goal.returns-in-Raster
unfolding ratio_number ratio_meant
returns-in-Raster c = search (rules, by-case (λ (x : Ratio). ratio_number (ratio_meant x)))

pub returns-in-LeftToP1 : goal.returns-in-LeftToP1
unfolding ratio_number ratio_meant
returns-in-LeftToP1 c = search (rules, by-case (λ (x : Ratio). ratio_number (ratio_meant x)))
