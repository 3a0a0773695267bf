-- `move_to` meets its contract: a refusal, or the session of the moved setup.
use Rattle.moving.proofs.MoveLaws.{moved-refused, moved_made}
use Rattle.moving.proofs.payload_session.move_to.Goals as goal

pub returns-in-Err : goal.returns-in-Err
returns-in-Err c =
    moved-refused _ _ _ c.setup_of-setup.ensures c.life_of-life.ensures c.frame_of-frame.ensures
    c.move_answer-answer.ensures c.in-Err.is

pub returns : goal.returns
returns c =
    moved_made _ _ _ c.setup_of-setup.ensures c.life_of-life.ensures c.frame_of-frame.ensures
    c.move_answer-answer.ensures c.in_default.is c.moved_setup.ensures
    c.palette_of.ensures c.session_of.ensures
