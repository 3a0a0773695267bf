-- `reserve` meets its contract: an opening without settings, of which nothing is written.
use Rattle.payload.proofs.DeferredLaws.{beginnings}
use borrow.Author.Rules.{rules}
use Rattle.payload.proofs.deferred.reserve.Goals as goal

pub returns : goal.returns
returns c = search (rules, beginnings)
