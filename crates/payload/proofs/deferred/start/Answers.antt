-- `start` meets its contract: a new background, and its pixel where the canvas has one.
use Rattle.payload.proofs.DeferredLaws.{beginnings}
use borrow.Author.Rules.{rules}
use Rattle.payload.proofs.deferred.start.Goals as goal

pub returns : goal.returns
returns c life f = search (rules, beginnings)
