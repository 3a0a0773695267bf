-- `bins::top` meets its contract, one law for each path through it. Assumes nothing.
use Rattle.std.proofs.lemmas.Result.{err_from_is_err_and}
use Rattle.bins.proofs.Paths.{place-columns, place-rows, top-refused, top-told}
use borrow.Author.Rules.{rules}
use Rattle.bins.proofs.top.Goals as goal

pub returns-in_err-first : goal.returns-in_err-first
returns-in_err-first c =
    let p = err_from_is_err_and c.from_residual.result c.from_residual.ensures.1 in
    rw (p.1, p.2) (top-refused _ _ _ _ _ c.first_column.ensures (search rules))

pub top_row-requires : goal.top_row-requires
top_row-requires c = (place-columns _ _ _ _ c.first_column.ensures c.in_ok-first.was, place-rows _ _ _ _ c.first_column.ensures c.in_ok-first.was)

pub returns : goal.returns
returns c = top-told _ _ _ _ _ c.first_column.ensures (search rules) _ c.top_row.ensures
