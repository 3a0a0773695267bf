-- `bins::first_column` meets its contract, one law for each path through it; no sum or product overflows, since a bin's
-- columns lie in the picture.
-- Assumes nothing.
use mathlib.Core.Path.{refl}
use native.Mathlib.Omega.{arith}
use Rattle.std.proofs.lemmas.Result.{err_from_is_err_and}
use Rattle.bins.proofs.Paths.{place-refused, place-past, place-told, place_inside}
use borrow.Author.Rules.{rules}
use Rattle.bins.proofs.first_column.Goals as goal

pub returns-in_err-judge : goal.returns-in_err-judge
returns-in_err-judge c =
    let p = err_from_is_err_and c.from_residual.result c.from_residual.ensures.1 in
    rw (p.1, p.2) (place-refused _ _ _ c.judge.ensures (search rules) _)

pub returns-then-setting-bin : goal.returns-then-setting-bin
returns-then-setting-bin c = place-past _ _ _ c.judge.ensures (search rules) _ c.if-setting-bin.true

pub overflow_mul-result : goal.overflow_mul-result
overflow_mul-result c = omega (arith, place_inside _ _ _ c.judge.ensures (search rules) _ c.if-setting-bin.false)

pub overflow_add-result : goal.overflow_add-result
overflow_add-result c = omega (arith, place_inside _ _ _ c.judge.ensures (search rules) _ c.if-setting-bin.false)

pub returns : goal.returns
returns c = place-told _ _ _ c.judge.ensures (search rules) _ c.if-setting-bin.false _ refl
