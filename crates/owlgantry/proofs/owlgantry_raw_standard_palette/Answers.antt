-- `owlgantry_raw_standard_palette` meets its contract: the table that is written is the standard palette's.
use Rattle.owlgantry.proofs.ReportLaws.{standard-table}
use borrow.Author.Rules.{rules}
use Rattle.owlgantry.proofs.owlgantry_raw_standard_palette.Goals as goal

pub returns : goal.returns
returns c = search (rules, standard-table)
