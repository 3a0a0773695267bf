-- `feed_begun` meets its contract: a refusal, or the payload session is fed the bytes from `from` on, and its answer is passed on.
use mathlib.Core.Path.{sym, ◌∙◌}
use Rattle.dcs.proofs.SessionLaws.{part-drop, passed-bound, payload-fed, begun-refused}
use Rattle.dcs.proofs.kernel.feeding.feed_begun.Goals as goal

pub returns-in-Err : goal.returns-in-Err
returns-in-Err c =
    begun-refused _ _ _ c.args.bytes.now c.args.from c.args.allowance (c.feed_refusal-verdict.ensures _) c.in-Err.is (c.tell.ensures _)

pub feed_passed-call-requires : goal.feed_passed-call-requires
feed_passed-call-requires c p =
    sym c.in_default.is ∙ c.feed_refusal-verdict.ensures p

pub pass_on-requires : goal.pass_on-requires
pass_on-requires c =
    passed-bound _ _ c.args.bytes.now c.args.from _ (part-drop c.args.bytes.now c.args.from) c.feed_passed-call.ensures c.requires

pub returns : goal.returns
returns c =
    payload-fed _ _ c.args.bytes.now c.args.from _ (part-drop c.args.bytes.now c.args.from) c.feed_passed-call.ensures _ c.pass_on.ensures (c.tell-2.ensures _)
