use Rattle.payload.proofs.CodeLaws.{read_back}
use borrow.Author.Rules.{rules}
use Rattle.payload.proofs.memory.frame_from.Goals as goal

pub returns : goal.returns
returns c = search (rules, read_back)
