-- `take` meets its contract: a reader that reads takes the whole piece, and one that has ended stays as it is (`takes`).
use borrow.Author.Rules.{rules}
use Rattle.pieces.proofs.TakeLaws.{takes}
use Rattle.pieces.proofs.take.Goals as goal

pub returns-in-Reading : goal.returns-in-Reading
returns-in-Reading c = search (rules, takes)

pub returns : goal.returns
returns c = search (rules, takes)
