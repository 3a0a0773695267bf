-- `canvas::fill_rectangle` meets its contract. The loop's invariant: the rows from `top` up to y are painted. Assumes nothing.
use mathlib.Core.Path.{◌≡◌}
use Prim.Native.Nat.{◌≤◌}
use lib.ListN.{length}
use Rattle.canvas.specs.Picture.{grid}
use Rattle.canvas.specs.Paint.{painted, rectangle}
use Rattle.canvas.proofs.fill_rectangle.Given as goal

abbrev pub invariant-loop-y : goal.invariant-loop-y
invariant-loop-y l =
    (l.canvas ≡ painted (grid l.stride (rectangle l.left l.right l.top l.y)) l.px l.initial.canvas) × (length l.canvas ≡ length l.initial.canvas) × (l.top ≤ l.y) × (l.y ≤ l.bottom)
