use mathlib.Core.Path.{refl, ◌∙◌}
use Prim.Native.Nat.{◌+◌, ◌*◌, ◌≤◌}
use native.Mathlib.Nat.{sub-zero}
use native.Mathlib.Omega.{arith}
use lib.ListN.{length}
use borrow.Author.Rules.{rules}
use Rattle.canvas.proofs.Growth.{rectangle-room}
use Rattle.dump.proofs.RowLaws.{row_more, rows-done}
use Rattle.dump.proofs.put_rows.Goals as goal
use Rattle.dump.proofs.put_rows.Goals.{In-loop-y}

-- the row that a turn writes lies on the canvas
room : (c : In-loop-y)
    → 4 * (c.loop-y.y * c.args.stride + c.args.width)
    ≤ length c.args.canvas.now
room c =
    rectangle-room _ _ _ c.args.height c.loop-y.y c.requires.1 c.requires.2 c.loop-y-test.true

pub loop-y-init : goal.loop-y-init
loop-y-init c = (rw (sub-zero c.args.height), refl, omega arith)

pub overflow_mul-y : goal.overflow_mul-y
overflow_mul-y c = omega (arith, room (goal.at.overflow_mul-y c).In-loop-y)

pub put_row-requires : goal.put_row-requires
put_row-requires c = (omega arith, room (goal.at.put_row-requires c).In-loop-y)

pub loop-y-preserved : goal.loop-y-preserved
loop-y-preserved c =
    let now-at = c.loop-y in (
      row_more _ _ _ _ now-at.y _ _ _ (omega arith) c.put_row.ensures.text now-at.invariant.0,
      c.put_row.ensures.buffer ∙ now-at.invariant.1,
      omega arith,
    )

pub returns-clause-text : goal.returns-clause-text
returns-clause-text c = search (rules, rows-done)
