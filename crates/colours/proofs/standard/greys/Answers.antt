use mathlib.Core.Path.{◌≡◌}
use native.Mathlib.Omega.{arith}
use borrow.Author.Rules.{rules}
use Rattle.colours.proofs.StandardLaws.{is-grey}
use Rattle.colours.proofs.Filling.{filled_none, filled-as, filled_more, filled-whole}
use Rattle.colours.proofs.standard.greys.Goals as goal

pub loop-k-init : goal.loop-k-init
loop-k-init c = (search rules, filled_none 0 _)

pub loop-k-preserved : goal.loop-k-preserved
loop-k-preserved c = (
  search rules,
  filled_more c.loop-k.invariant.1 (is-grey _ _ c.percents.ensures (omega arith)) (omega arith),
)

pub returns : goal.returns
returns c =
    let done : c.loop-k.k ≡ 24 = omega arith in
    filled-whole (filled-as done c.loop-k.invariant.1) (search rules)
