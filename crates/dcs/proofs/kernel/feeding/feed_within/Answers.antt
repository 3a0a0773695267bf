-- `feed_within` meets its contract: the payload session is fed all the bytes, and its answer is passed on. That it counts no more bytes than it
-- was fed is what `pass_on` asks; a frame that is made anew is the frame.
use mathlib.Core.Path.{refl, sym}
use native.Mathlib.Omega.{arith}
use Rattle.dcs.proofs.SessionLaws.{passed-bound, payload-fed}
use Rattle.dcs.proofs.kernel.feeding.feed_within.Goals as goal

pub pass_on-requires : goal.pass_on-requires
pass_on-requires c = passed-bound _ _ _ 0 _ refl c.feed_passed-call.ensures (omega arith)

pub returns : goal.returns
returns c =
    payload-fed _ _ _ 0 _ refl c.feed_passed-call.ensures _ c.pass_on.ensures (rw (sym c.renewed-anew.ensures) (c.tell.ensures _))
