use mathlib.Core.Path.{◌≡◌}
use Prim.Native.Nat.{◌*◌}
use native.Mathlib.Omega.{arith}
use borrow.Author.Rules.{rules}
use Rattle.colours.proofs.StandardLaws.{is-cube}
use Rattle.colours.proofs.Filling.{filled_none, filled-as, filled_more, filled-whole}
use Rattle.colours.proofs.standard.cube.Goals as goal

pub loop-r-init : goal.loop-r-init
loop-r-init c = (search rules, filled_none 0 _)

pub loop-g-init : goal.loop-g-init
loop-g-init c = (search rules, filled-as (omega arith) c.loop-r.invariant.1)

pub loop-b-init : goal.loop-b-init
loop-b-init c = (search rules, filled-as (omega arith) c.loop-g.invariant.1)

pub loop-b-preserved : goal.loop-b-preserved
loop-b-preserved c = (
  search rules,
  filled-as (omega arith)
      (filled_more c.loop-b.invariant.1
      (is-cube _ _ _ _ c.percents.ensures (omega arith) (omega arith) (omega arith)) (omega arith)),
)

pub loop-g-preserved : goal.loop-g-preserved
loop-g-preserved c = (search rules, filled-as (omega arith) c.loop-b.invariant.1)

pub loop-r-preserved : goal.loop-r-preserved
loop-r-preserved c = (search rules, filled-as (omega arith) c.loop-g.invariant.1)

pub returns : goal.returns
returns c =
    let done : 36 * c.loop-r.r ≡ 216 = omega arith in
    filled-whole (filled-as done c.loop-r.invariant.1) (search rules)
