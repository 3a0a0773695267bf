-- `move_to` meets its contract: a refusal, or the session of the moved parts.
use Rattle.moving.proofs.MoveLaws.{dcs-refused, dcs-made}
use Rattle.moving.proofs.dcs_session.move_to.Goals as goal

pub returns-in-Err : goal.returns-in-Err
returns-in-Err c =
    dcs-refused _ _ _ c.core_of-core.ensures c.move_answer-answer.ensures c.in-Err.is

pub returns : goal.returns
returns c =
    dcs-made _ _ _ c.core_of-core.ensures c.move_answer-answer.ensures c.in_default.is
    c.moved_setup.ensures c.palette_of.ensures c.with_palette.ensures
