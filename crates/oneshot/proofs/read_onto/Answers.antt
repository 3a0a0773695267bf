-- `read_onto` meets its contract: for a payload that was found, for a refused header and for an opening that is refused there is a law of `wholes`
-- for the reading, and one of `sizes` for the part's length.
use Rattle.oneshot.proofs.PartLaws.{sizes}
use Rattle.oneshot.proofs.WholeLaws.{wholes, turned}
use borrow.Author.Rules.{rules}
use Rattle.oneshot.proofs.read_onto.Goals as goal

pub overflow_sub-part : goal.overflow_sub-part
overflow_sub-part c = search (rules, wholes)

pub slice_bounds-read_in_pieces-count : goal.slice_bounds-read_in_pieces-count
slice_bounds-read_in_pieces-count c = search (rules, wholes)

pub slice_bounds-read_in_pieces-start : goal.slice_bounds-read_in_pieces-start
slice_bounds-read_in_pieces-start c = search (rules, wholes)

pub read_in_pieces-answer-requires : goal.read_in_pieces-answer-requires
read_in_pieces-answer-requires c = search (rules, wholes)

pub returns-in-Ok : goal.returns-in-Ok
returns-in-Ok c = (search (rules, wholes), search (rules, sizes))

pub returns-in-Err : goal.returns-in-Err
returns-in-Err c = turned _ _ c.turned_away.ensures (search (rules, wholes)) (search (rules, sizes))

pub returns : goal.returns
returns c = turned _ _ c.turned_away-2.ensures (search (rules, wholes)) (search (rules, sizes))
