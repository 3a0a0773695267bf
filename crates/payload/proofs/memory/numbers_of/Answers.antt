-- `numbers_of` meets its contract: the 48 numbers in their order, by one law with the coded ones as variables.
use Rattle.payload.proofs.CodeLaws.{numbers-told}
use borrow.Author.Rules.{rules}
use Rattle.payload.proofs.memory.numbers_of.Goals as goal

pub returns : goal.returns
returns c p = search (rules, numbers-told)
