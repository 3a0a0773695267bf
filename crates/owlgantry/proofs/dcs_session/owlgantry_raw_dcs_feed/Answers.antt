-- `owlgantry_raw_dcs_feed` meets its contract: the feed of the session that the memory holds, in parts (`dcs-fed`).
use Rattle.owlgantry.proofs.SessionCalls.{dcs-fed}
use Rattle.owlgantry.proofs.dcs_session.owlgantry_raw_dcs_feed.Goals as goal

pub returns : goal.returns
returns c =
    dcs-fed _ _ _ _ _ _ _ _ c.core_from-before.ensures c.feed-fed.ensures c.numbers_of.ensures
    c.dcs_report.ensures c.number_or_zero.ensures
