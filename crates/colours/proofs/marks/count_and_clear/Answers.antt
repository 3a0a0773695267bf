use mathlib.Core.Path.{◌≡◌}
use Prim.Native.Nat.{◌+◌, ◌-◌, ◌*◌}
use native.Mathlib.Omega.{arith}
use lib.ListN.{length-set}
use borrow.Author.Rules.{rules}
use Rattle.colours.proofs.Blocks.{lasting_part, passed_none, on_none, on-more, passed-as, passed-idle, passed-all}
use Rattle.colours.proofs.marks.count_and_clear.Goals as goal
use Rattle.colours.proofs.marks.count_and_clear.Goals.{then-may_exceed+else-loop-k-test, else-may_exceed}

pub loop-block-init : goal.loop-block-init
loop-block-init c = (search rules, passed_none _ (search rules))

pub loop-k-init : goal.loop-k-init
loop-k-init c =
    let p = c.loop-block.invariant.1 in
    (search rules, p.few, p.long, on_none _ _ _)

pub loop-k-preserved : goal.loop-k-preserved
loop-k-preserved c =
    let kept = c.loop-k.invariant in
    (search rules, omega arith, simp length-set kept.2, on-more kept.3 (omega arith))

pub loop-block-preserved : goal.loop-block-preserved
loop-block-preserved c =
    let p = c.loop-block.invariant.1 in (
      search rules,
      elim c.if-may_exceed.branch [
        | then-may_exceed+else-loop-k-test w ↦ passed-as (w.loop-k.invariant.3.on _ p) (omega arith) w.count-is w.colors-is
        | else-may_exceed w ↦
            let part : 64 * c.loop-block.block + 64 - 64 * c.loop-block.block ≡ 64 = omega arith in
            let idle = lasting_part _ _ _ (omega arith) (rw part at (c.may_exceed.ensures w.if-may_exceed.false)) in
            passed-as (passed-idle 64 p (omega arith) idle) (omega arith) w.count-is w.colors-is
      ],
    )

pub returns : goal.returns
returns c =
    let at = c.loop-block in
    let done : 64 * at.block ≡ 256 = omega arith in
    passed-all at.invariant.1 done
