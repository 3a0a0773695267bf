-- `owlgantry_raw_payload_explain_finish` meets its contract: what is told of the session that the memory holds (`payload-finish-told`).
use Rattle.owlgantry.proofs.ExplainingLaws.{payload-finish-told}
use Rattle.owlgantry.proofs.explaining.owlgantry_raw_payload_explain_finish.Goals as goal

pub returns : goal.returns
returns c =
    payload-finish-told _ _ c.setup_from-setup.ensures c.life_from-life.ensures c.frame_from-frame.ensures _
    c.explain_finish-told.ensures c.told_numbers-numbers.ensures
