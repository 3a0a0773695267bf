-- `bins::bin` meets its contract, one law for each path through it. Assumes nothing.
use mathlib.Core.Path.{refl}
use native.Mathlib.Omega.{arith}
use Rattle.std.proofs.lemmas.Result.{err_from_is_err_and}
use Rattle.bins.proofs.Paths.{bin-refused, wide, bin-below, bin-past, bin-told}
use borrow.Author.Rules.{rules}
use Rattle.bins.proofs.bin.Goals as goal

pub returns-in_err-judge : goal.returns-in_err-judge
returns-in_err-judge c =
    let p = err_from_is_err_and c.from_residual.result c.from_residual.ensures.1 in
    rw (p.1, p.2) (bin-refused _ _ _ c.judge.ensures (search rules) _)

pub returns-then-column-setting : goal.returns-then-column-setting
returns-then-column-setting c = bin-below _ _ _ c.judge.ensures (search rules) _ c.if-column-setting.true

pub nonzero_div-found : goal.nonzero_div-found
nonzero_div-found c = wide _ _ _ c.judge.ensures (search rules)

pub returns-then-setting-found : goal.returns-then-setting-found
returns-then-setting-found c =
    bin-past _ _ _ c.judge.ensures (search rules) _ _ refl c.if-column-setting.false (omega arith)

pub returns : goal.returns
returns c =
    bin-told _ _ _ c.judge.ensures (search rules) _ _ refl c.if-column-setting.false (omega arith)
