-- `owlgantry_raw_dcs_explain_finish` meets its contract: what is told of the session that the memory holds (`dcs-finish-told`).
use Rattle.owlgantry.proofs.ExplainingLaws.{dcs-finish-told}
use Rattle.owlgantry.proofs.explaining.owlgantry_raw_dcs_explain_finish.Goals as goal

pub returns : goal.returns
returns c =
    dcs-finish-told _ _ c.core_from-core.ensures _ c.explain_finish-told.ensures c.told_numbers-numbers.ensures
