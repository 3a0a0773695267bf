use mathlib.Core.Path.{refl, ap, ◌∙◌}
use native.Mathlib.Omega.{arith}
use borrow.Author.Rules.{rules}
use Rattle.answers.specs.Adler.{adler}
use Rattle.answers.specs.Registers.{registers_sum}
use Rattle.answers.proofs.Laws.{one-register, all-registers}
use Rattle.answers.proofs.registers_sum.Goals as goal

pub loop-index-init : goal.loop-index-init
unfolding registers_sum adler
loop-index-init c = (search rules, refl)

pub loop-index-preserved : goal.loop-index-preserved
loop-index-preserved c =
    (search rules, one-register _ _ _ _ _ _ c.rgb_bytes.ensures c.with_bytes-sum.ensures c.loop-index.invariant.1 (omega arith))

pub returns : goal.returns
returns c = all-registers _ _ _ _ c.loop-index.invariant.1 (omega arith) ∙ ap registers_sum c.table-colors.ensures
