-- `after` meets its contract: the reader with its counts added up (`after-as`).
use borrow.Author.Rules.{rules}
use Rattle.pieces.proofs.ReaderLaws.{after-as}
use Rattle.pieces.proofs.after.Goals as goal

pub returns : goal.returns
returns c = search (rules, after-as)
