-- `owlgantry_raw_payload_explain` meets its contract: what is told of the session that the memory holds (`payload-feed-told`).
use Rattle.owlgantry.proofs.ExplainingLaws.{payload-feed-told}
use Rattle.owlgantry.proofs.explaining.owlgantry_raw_payload_explain.Goals as goal

pub returns : goal.returns
returns c =
    payload-feed-told _ _ c.setup_from-setup.ensures c.life_from-life.ensures c.frame_from-frame.ensures _ _ _
    c.explain_feed-told.ensures c.told_numbers-numbers.ensures
