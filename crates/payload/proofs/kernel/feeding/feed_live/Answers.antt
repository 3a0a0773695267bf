-- `feed_live` meets its contract: what the loop read, answered.
use Rattle.payload.proofs.SessionLaws.{feedings}
use borrow.Author.Rules.{rules}
use Rattle.payload.proofs.kernel.feeding.feed_live.Goals as goal

pub returns : goal.returns
returns c life = search (rules, feedings)
