-- `owlgantry_raw_dcs_finish` meets its contract: the finish of the session that the memory holds, in parts (`finished-by`).
use Rattle.dcs.specs.Memory.{session_from}
use Rattle.dcs.specs.Session.{finished_by}
use Rattle.dcs.proofs.SessionLaws.{owned_by}
use Rattle.owlgantry.specs.Sessions.{dcs_finished}
use Rattle.owlgantry.proofs.SessionCalls.{dcs-held, finished-by}
use Rattle.owlgantry.proofs.dcs_session.owlgantry_raw_dcs_finish.Goals as goal

pub returns : goal.returns
unfolding dcs_finished
returns c =
    finished-by session_from finished_by owned_by _ _ _ _ _ _
    (dcs-held _ _ c.setup_from.ensures c.life_from-life.ensures c.frame_from.ensures c.phase_from-phase.ensures)
    (c.finish-answer.ensures _) c.hand_over.ensures c.finish_report.ensures c.refusal_number.ensures
