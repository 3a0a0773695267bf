-- `move_answer` meets its contract: the picture is what the phase shows.
use Rattle.moving.proofs.MoveLaws.{answer-shown}
use Rattle.moving.proofs.dcs_session.move_answer.Goals as goal

pub returns : goal.returns
returns c p = answer-shown _ _ _ c.picture_size-size.ensures (c.answer_for.ensures p)
