-- `finish_for` meets its contract: a finish for another owner differs by what a refusal hands back.
use mathlib.Core.Path.{sym, ◌∙◌}
use Rattle.oneshot.proofs.OwnerLaws.{owner-lost, owner-kept}
use Rattle.oneshot.proofs.finish_for.Goals as goal

pub returns-then-is_err : goal.returns-then-is_err
returns-then-is_err c =
    owner-lost _ _ _ _ _ _ _ _ c.finish-answer.ensures (sym c.is_err.ensures.value ∙ c.if-is_err.true)

pub returns-else-is_err : goal.returns-else-is_err
returns-else-is_err c =
    owner-kept _ _ _ _ _ _ _ _ c.finish-answer.ensures (sym c.is_err.ensures.value ∙ c.if-is_err.false)
