-- `pen_from` meets its contract: five reads, one of them a colour.
use Rattle.payload.proofs.CodeLaws.{read_back}
use borrow.Author.Rules.{rules}
use Rattle.payload.proofs.memory.pen_from.Goals as goal

pub returns : goal.returns
returns c = search (rules, read_back)
