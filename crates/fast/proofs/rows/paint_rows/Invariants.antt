-- `paint_rows` meets its contract. The loop's invariant is that of `paint_tested`: the first `k` rows of the sixel are painted, and the bits of
-- the others are left. A turn goes to the lowest of these.
use mathlib.Core.Path.{◌≡◌}
use Prim.Native.Nat.{◌-◌, ◌/◌, ◌^◌, ◌≤◌}
use lib.ListN.{length}
use Rattle.canvas.specs.Picture.{grid}
use Rattle.canvas.specs.Paint.{painted}
use Rattle.canvas.proofs.Grid.{first_rows}
use Rattle.fast.proofs.rows.paint_rows.Given as goal

abbrev pub invariant-loop-rest : goal.invariant-loop-rest
invariant-loop-rest l =
    (l.canvas ≡ painted (grid l.brush.stride (first_rows l.k l.brush.column l.brush.row l.repeat l.bits)) l.brush.px l.initial.canvas)
    × (length l.canvas ≡ length l.initial.canvas)
    × (l.rest ≡ l.bits / 2 ^ l.k)
    × (l.k ≤ 6)

abbrev pub decreases-loop-rest : goal.decreases-loop-rest
decreases-loop-rest l = 6 - l.k
