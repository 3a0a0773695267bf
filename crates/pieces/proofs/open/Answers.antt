-- `open` meets its contract: a ready session or a refused one; six times a width that was accepted fits (`ready-width`).
use Prim.Native.Nat.{◌≤◌}
use native.Mathlib.Omega.{arith}
use borrow.Author.Rules.{rules}
use Rattle.pieces.proofs.ReaderLaws.{ready-width, openings-laws}
use Rattle.pieces.proofs.open.Goals as goal

pub overflow_mul-limits : goal.overflow_mul-limits
overflow_mul-limits c =
    let small : c.args.limits.width ≤ 1000000 =
    search (ready-width, c.open-opened.ensures, c.in-Ok.is) in
    omega (arith, small)

pub returns-in-Ok : goal.returns-in-Ok
returns-in-Ok c = search (rules, openings-laws)

pub returns-in-Err : goal.returns-in-Err
returns-in-Err c = search (rules, openings-laws)
