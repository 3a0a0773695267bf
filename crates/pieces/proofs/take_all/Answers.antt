use borrow.Author.Rules.{rules}
use native.Mathlib.Omega.{arith}
use Rattle.pieces.proofs.TakeLaws.{again-within, loop-laws}
use Rattle.pieces.proofs.take_all.Goals as goal

pub loop-call-init : goal.loop-call-init
loop-call-init c = search (rules, loop-laws)

pub slice_bounds-call-count : goal.slice_bounds-call-count
slice_bounds-call-count c = search (rules, loop-laws)

pub slice_bounds-call-start : goal.slice_bounds-call-start
slice_bounds-call-start c = search (rules, loop-laws)

pub slice_bounds-call-end : goal.slice_bounds-call-end
slice_bounds-call-end c = search (rules, loop-laws)

pub call-call-requires : goal.call-call-requires
call-call-requires c = search (rules, loop-laws)

pub shape_of-canvas-then-call-eq0 : goal.shape_of-canvas-then-call-eq0
shape_of-canvas-then-call-eq0 c = search (rules, loop-laws)

pub returns-then-call-eq0 : goal.returns-then-call-eq0
returns-then-call-eq0 c = search (rules, loop-laws)

pub overflow_add-at : goal.overflow_add-at
overflow_add-at c =
    omega (arith, again-within c.loop-call.invariant c.call-call.ensures, c.well_formed.1.1.0.0)

pub loop-call-smaller : goal.loop-call-smaller
loop-call-smaller c = search (rules, loop-laws)

pub loop-call-preserved : goal.loop-call-preserved
loop-call-preserved c = search (rules, loop-laws)
