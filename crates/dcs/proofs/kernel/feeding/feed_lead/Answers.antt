-- `feed_lead` meets its contract: the header goes on, begins the payload or is refused, and there is a law for each. That
-- the header consumes no more bytes than there are is what the payload's call asks.
use borrow.Author.Rules.{rules}
use Rattle.dcs.proofs.SessionLaws.{lead-in, led_on, led-begins, led-refused, failed-over, begun-over}
use Rattle.dcs.proofs.kernel.feeding.feed_lead.Goals as goal

pub feed_begun-requires : goal.feed_begun-requires
feed_begun-requires c =
    lead-in _ _ _ c.read_lead-lead.ensures

pub returns-in-Ok-On : goal.returns-in-Ok-On
returns-in-Ok-On c = led_on _ _ _ _ _ _ c.read_lead-lead.ensures (search rules) (c.tell.ensures _)

pub returns-in-Ok-Begins : goal.returns-in-Ok-Begins
returns-in-Ok-Begins c =
    led-begins _ _ _ _ _ _ c.read_lead-lead.ensures (search rules) c.settings_from.ensures
    (begun-over _ _ _ _ (c.start-begun.ensures _ _) c.blank_frame-blank.ensures) c.feed_begun.ensures

pub returns-in-Err : goal.returns-in-Err
returns-in-Err c =
    led-refused _ _ _ _ _ _ c.read_lead-lead.ensures c.in-Err.is (failed-over _ _ _ _) (c.tell-in-Err.ensures _)
