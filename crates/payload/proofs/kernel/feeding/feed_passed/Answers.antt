-- `feed_passed` meets its contract: an end that is repeated, or reading, which the judgement has shown to fit.
use mathlib.Core.Path.{refl}
use Rattle.payload.proofs.RefusalLaws.{feed-fits}
use Rattle.payload.proofs.SessionLaws.{fed-over, fed-on}
use borrow.Author.Rules.{rules}
use Rattle.payload.proofs.kernel.feeding.feed_passed.Goals as goal

pub returns-in-Ended : goal.returns-in-Ended
returns-in-Ended c = fed-over _ _ _ _ _ _ _ (c.requires _) c.in-Ended.is

pub feed_live-requires : goal.feed_live-requires
feed_live-requires c = feed-fits _ _ _ _ _ c.requires

pub returns : goal.returns
returns c =
    fed-on _ _ _ _ (c.requires _) refl (search rules) (c.feed_live.ensures _)
