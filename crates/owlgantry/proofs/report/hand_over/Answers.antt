-- `hand_over` meets its contract: one law for a picture and one for a refusal.
use mathlib.Core.Path.{sym, ◌∙◌}
use Rattle.owlgantry.proofs.SessionCalls.{over-picture, over-refused}
use Rattle.owlgantry.proofs.report.hand_over.Goals as goal

pub returns-then-is_ok : goal.returns-then-is_ok
returns-then-is_ok c = over-picture _ _ _ (sym c.is_ok.ensures.value ∙ c.if-is_ok.true)

pub returns-else-is_ok : goal.returns-else-is_ok
returns-else-is_ok c = over-refused _ _ _ (sym c.is_ok.ensures.value ∙ c.if-is_ok.false)
