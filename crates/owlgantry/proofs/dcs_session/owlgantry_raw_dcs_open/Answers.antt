-- `owlgantry_raw_dcs_open` meets its contract: the memory gets the session that `open` made, and the registers (`dcs-opened`).
use Rattle.owlgantry.proofs.SessionCalls.{dcs-opened}
use Rattle.owlgantry.proofs.dcs_session.owlgantry_raw_dcs_open.Goals as goal

pub returns : goal.returns
returns c =
    dcs-opened _ _ _ _ _ _ _ _ _ c.begin.ensures c.open-opened.ensures c.numbers_of.ensures c.number_or_zero.ensures
