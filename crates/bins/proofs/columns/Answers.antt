-- `bins::columns` meets its contract, one law for each path through it; the last column does not overflow, since it lies in the picture.
-- Assumes nothing.
use native.Mathlib.Omega.{arith}
use Rattle.std.proofs.lemmas.Result.{err_from_is_err_and}
use Rattle.bins.proofs.Paths.{place-wide, place-room, columns-refused, columns-told}
use borrow.Author.Rules.{rules}
use Rattle.bins.proofs.columns.Goals as goal

pub returns-in_err-first : goal.returns-in_err-first
returns-in_err-first c =
    let p = err_from_is_err_and c.from_residual.result c.from_residual.ensures.1 in
    rw (p.1, p.2) (columns-refused _ _ _ _ c.first_column.ensures (search rules))

pub overflow_sub-result : goal.overflow_sub-result
overflow_sub-result c = place-wide _ _ _ _ c.first_column.ensures c.in_ok-first.was

pub overflow_add-result : goal.overflow_add-result
overflow_add-result c = omega (arith, place-room _ _ _ _ c.first_column.ensures c.in_ok-first.was)

pub returns : goal.returns
returns c =
    let some-column = place-wide _ _ _ _ c.first_column.ensures c.in_ok-first.was in
    columns-told _ _ _ _ c.first_column.ensures (search rules) _ (omega arith)
