-- `owlgantry_raw_read_explain` meets its contract: what is told of reading all at once (`told_of_lem`).
use Rattle.owlgantry.specs.Explaining.{read_told}
use Rattle.owlgantry.proofs.ExplainingLaws.{told_of_lem}
use borrow.Author.Rules.{rules}
use Rattle.owlgantry.proofs.explaining.owlgantry_raw_read_explain.Goals as goal

pub returns : goal.returns
unfolding read_told
returns c = search (rules, told_of_lem)
