-- `feed_anew` meets its contract: a frame that is made anew is the frame.
use Rattle.oneshot.proofs.feed_anew.Goals as goal

pub returns : goal.returns
returns c = rw c.renewed.ensures c.feed_passed-fed.ensures
