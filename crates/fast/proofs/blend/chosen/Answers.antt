-- `chosen` meets its contract: one way for a bit that is 1 and one for any other.
use mathlib.Core.Path.{sym}
use borrow.Author.Tests.{eq-eqb, ne_eqb}
use Rattle.numbers.proofs.Laws.{cond_yes, cond_no}
use Rattle.fast.proofs.blend.chosen.Goals as goal

pub returns-then-bit-eq1 : goal.returns-then-bit-eq1
returns-then-bit-eq1 c = sym (cond_yes _ _ (eq-eqb _ _ c.if-bit-eq1.true))

pub returns : goal.returns
returns c = sym (cond_no _ _ (ne_eqb _ _ c.if-bit-eq1.false))
