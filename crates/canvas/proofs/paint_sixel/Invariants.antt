-- `canvas::paint_sixel` meets its contract. The loop's invariant: the sixel's first k rows are painted. Assumes nothing.
use mathlib.Core.Path.{◌≡◌}
use Prim.Native.Nat.{◌≤◌}
use Rattle.canvas.specs.Picture.{grid}
use Rattle.canvas.specs.Paint.{painted}
use Rattle.canvas.proofs.Grid.{first_rows}
use Rattle.canvas.proofs.paint_sixel.Given as goal

abbrev pub invariant-loop-k : goal.invariant-loop-k
invariant-loop-k l =
    (l.canvas ≡ painted (grid l.stride (first_rows l.k l.column l.row l.repeat l.bits)) l.px l.initial.canvas)
    × (l.k ≤ 6)
