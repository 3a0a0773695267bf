-- `drawing` meets its contract, by whether a command said the sixel.
use mathlib.Core.Path.{sym, ◌∙◌}
use Rattle.frame.specs.Commands.{with_repeat}
use Rattle.numbers.proofs.Laws.{cond_yes, cond_no}
use Rattle.fast.specs.Advance.{drawing_of}
use Rattle.fast.proofs.drawn.drawing.Goals as goal

pub returns-then-drawn : goal.returns-then-drawn
unfolding drawing_of with_repeat
returns-then-drawn c = c.without_command.ensures ∙ sym (cond_yes _ _ c.if-drawn.true)

pub returns : goal.returns
unfolding drawing_of
returns c = sym (cond_no _ _ c.if-drawn.false)
