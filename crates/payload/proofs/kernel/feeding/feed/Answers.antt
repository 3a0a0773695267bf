-- `feed` meets its contract: a refusal, or what passes 9, 12 and 13.
use mathlib.Core.Path.{sym, ◌∙◌}
use Rattle.payload.proofs.SessionLaws.{fed-refused}
use Rattle.payload.proofs.kernel.feeding.feed.Goals as goal

pub returns-in-Err : goal.returns-in-Err
returns-in-Err c = fed-refused _ _ _ _ (c.feed_refusal-verdict.ensures _) c.in-Err.is

pub feed_passed-requires : goal.feed_passed-requires
feed_passed-requires c p =
    sym c.in_default.is ∙ c.feed_refusal-verdict.ensures p
