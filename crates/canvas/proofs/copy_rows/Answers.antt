use Rattle.std.proofs.Common.{rules, arith}
use Rattle.canvas.specs.Copy.{rows_copied}
use Rattle.canvas.proofs.Copies.{next_row}
use Rattle.canvas.proofs.copy_rows.Goals as goal

pub loop-y-init : goal.loop-y-init
unfolding rows_copied
loop-y-init c = search rules

pub loop-y-preserved : goal.loop-y-preserved
loop-y-preserved c =
    (next_row c.args.stride c.args.out_stride c.args.width c.loop-y.y c.args.canvas.now c.args.out.now c.loop-y.invariant.0 c.copy_bytes.ensures, omega arith)
