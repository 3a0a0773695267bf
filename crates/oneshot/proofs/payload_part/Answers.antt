-- `payload_part` meets its contract: the part that was found, or an empty one, by a law of `parts` for each path.
use Rattle.oneshot.proofs.PartLaws.{parts}
use borrow.Author.Rules.{rules}
use Rattle.oneshot.proofs.payload_part.Goals as goal

pub slice_bounds-result-count : goal.slice_bounds-result-count
slice_bounds-result-count c = search (rules, parts)

pub slice_bounds-result-start : goal.slice_bounds-result-start
slice_bounds-result-start c = search (rules, parts)

pub returns-in-Ok : goal.returns-in-Ok
returns-in-Ok c = search (rules, parts)

pub returns-then-not-may_open : goal.returns-then-not-may_open
returns-then-not-may_open c = search (rules, parts)

pub returns-in-Err : goal.returns-in-Err
returns-in-Err c = search (rules, parts)
