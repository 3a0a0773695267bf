-- `call` meets its contract: a feed, what its answer tells, and the counts after it (`calls`).
use borrow.Author.Rules.{rules}
use Rattle.pieces.proofs.ReaderLaws.{calls}
use Rattle.pieces.proofs.call.Goals as goal

pub returns : goal.returns
returns c = search (rules, calls)
