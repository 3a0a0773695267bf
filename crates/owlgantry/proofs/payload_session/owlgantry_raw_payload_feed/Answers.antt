-- `owlgantry_raw_payload_feed` meets its contract: the feed of the session that the memory holds, in parts (`payload-fed`).
use Rattle.owlgantry.proofs.SessionCalls.{payload-fed}
use Rattle.owlgantry.proofs.payload_session.owlgantry_raw_payload_feed.Goals as goal

pub returns : goal.returns
returns c =
    payload-fed _ _ _ _ _ _ _ _ c.setup_from-setup.ensures c.life_from-life.ensures c.frame_from.ensures
    c.feed-fed.ensures c.setup_from-kept.ensures c.numbers_of.ensures c.payload_report.ensures
    c.number_or_zero.ensures
