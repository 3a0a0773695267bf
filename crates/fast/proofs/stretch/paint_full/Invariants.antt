-- `paint_full` meets its contract. The loop's invariant: the first `k` rows of the sixel are painted.
use mathlib.Core.Path.{◌≡◌}
use Prim.Native.Nat.{◌≤◌}
use lib.ListN.{length}
use Rattle.canvas.specs.Picture.{grid}
use Rattle.canvas.specs.Paint.{painted}
use Rattle.canvas.proofs.Grid.{first_rows}
use Rattle.fast.proofs.stretch.paint_full.Given as goal

abbrev pub invariant-loop-k : goal.invariant-loop-k
invariant-loop-k l =
    (l.canvas ≡ painted (grid l.brush.stride (first_rows l.k l.brush.column l.brush.row 1 63)) l.brush.px l.initial.canvas) × (length l.canvas ≡ length l.initial.canvas) × (l.k ≤ 6)
