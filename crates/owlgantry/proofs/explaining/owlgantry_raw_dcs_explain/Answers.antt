-- `owlgantry_raw_dcs_explain` meets its contract: what is told of the session that the memory holds (`dcs-feed-told`).
use Rattle.owlgantry.proofs.ExplainingLaws.{dcs-feed-told}
use Rattle.owlgantry.proofs.explaining.owlgantry_raw_dcs_explain.Goals as goal

pub returns : goal.returns
returns c =
    dcs-feed-told _ _ c.core_from-core.ensures _ _ _ c.explain_feed-told.ensures c.told_numbers-numbers.ensures
