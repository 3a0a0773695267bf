-- `settled_if` meets its contract, by whether a command was read.
use mathlib.Core.Path.{sym, ◌∙◌}
use Rattle.numbers.proofs.Laws.{cond_yes, cond_no}
use Rattle.fast.specs.Advance.{settled_if}
use Rattle.fast.proofs.drawn.settled_if.Goals as goal

pub returns-then-said : goal.returns-then-said
unfolding settled_if
returns-then-said c = c.settled.ensures ∙ sym (cond_yes _ _ c.if-said.true)

pub returns : goal.returns
unfolding settled_if
returns c = sym (cond_no _ _ c.if-said.false)
