use mathlib.Core.Path.{refl}
use native.Mathlib.Omega.{arith}
use Rattle.answers.proofs.Laws.{one_more, all_read_lem}
use Rattle.answers.proofs.with_bytes.Goals as goal

pub loop-i-init : goal.loop-i-init
loop-i-init c = refl

pub loop-i-preserved : goal.loop-i-preserved
loop-i-preserved c =
    one_more c.args.bytes.now c.loop-i.i _ _ _ c.with_byte-sum.ensures c.loop-i.invariant (omega arith)

pub returns : goal.returns
returns c =
    all_read_lem c.args.bytes.now c.loop-i.i _ _ c.loop-i.invariant (omega arith)
