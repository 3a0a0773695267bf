-- `extent_after` meets its contract: one law for a run inside the extent, and any other is `extent_past`'s.
use borrow.Author.Rules.{rules}
use Rattle.fast.proofs.ReachLaws.{extent-inside}
use Rattle.fast.proofs.reach.extent_after.Goals as goal

pub returns-then-column-count : goal.returns-then-column-count
returns-then-column-count c = search (rules, extent-inside)
