-- `owlgantry_raw_payload_open` meets its contract: the memory gets the session that `open` made, and the registers (`payload-opened`).
use Rattle.owlgantry.proofs.SessionCalls.{payload-opened}
use Rattle.owlgantry.proofs.payload_session.owlgantry_raw_payload_open.Goals as goal

pub returns : goal.returns
returns c =
    payload-opened _ _ _ _ _ _ _ _ _ _ _ _ c.given_from.ensures c.given_from-2.ensures c.begin.ensures
    c.open-opened.ensures
    c.numbers_of.ensures c.number_or_zero.ensures
