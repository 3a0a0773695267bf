-- `begin` meets its contract: a reader with nothing counted (`began-as`).
use borrow.Author.Rules.{rules}
use Rattle.pieces.proofs.ReaderLaws.{began-as}
use Rattle.pieces.proofs.begin.Goals as goal

pub returns : goal.returns
returns c = search (rules, began-as)
