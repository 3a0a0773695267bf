-- `move_answer` meets its contract: the picture is the visible area.
use Rattle.moving.proofs.MoveLaws.{answer-area}
use Rattle.moving.proofs.payload_session.move_answer.Goals as goal

pub returns : goal.returns
returns c p = answer-area _ _ _ (c.answer_for.ensures p)
