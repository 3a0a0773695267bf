-- `feed` meets its contract: the call is refused at once (9, 12 and 13), or is what `feed_in` makes of the phase.
use mathlib.Core.Path.{sym, ◌∙◌}
use Rattle.dcs.proofs.SessionLaws.{fed-refused, fed-on}
use Rattle.dcs.proofs.kernel.feeding.feed.Goals as goal

pub returns-in-Err : goal.returns-in-Err
returns-in-Err c = fed-refused _ _ _ _ (c.feed_refusal-verdict.ensures _) c.in-Err.is

pub feed_in-requires : goal.feed_in-requires
feed_in-requires c p =
    sym c.in_default.is ∙ c.feed_refusal-verdict.ensures p

pub returns : goal.returns
returns c =
    fed-on _ _ _ _ (c.feed_refusal-verdict.ensures _) c.in_default.is c.feed_in.ensures
