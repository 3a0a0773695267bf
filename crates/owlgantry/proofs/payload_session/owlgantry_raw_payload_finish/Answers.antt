-- `owlgantry_raw_payload_finish` meets its contract: the finish of the session that the memory holds, in parts (`finished-by`).
use Rattle.payload.specs.Memory.{session_from}
use Rattle.payload.specs.Session.{finished_by}
use Rattle.payload.proofs.CoreLaws.{owned_by}
use Rattle.owlgantry.specs.Sessions.{payload_finished}
use Rattle.owlgantry.proofs.SessionCalls.{payload-held, finished-by}
use Rattle.owlgantry.proofs.payload_session.owlgantry_raw_payload_finish.Goals as goal

pub returns : goal.returns
unfolding payload_finished
returns c =
    finished-by session_from finished_by owned_by _ _ _ _ _ _
    (payload-held _ _ c.setup_from.ensures c.life_from-life.ensures c.frame_from.ensures)
    c.finish-answer.ensures c.hand_over.ensures c.finish_report.ensures c.refusal_number.ensures
