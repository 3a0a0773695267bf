-- `canvas::copy_rows` meets its contract. The loop's invariant: the first y rows are copied. Assumes nothing.
use mathlib.Core.Path.{◌≡◌}
use Prim.Native.Nat.{◌≤◌}
use Rattle.canvas.specs.Copy.{rows_copied}
use Rattle.canvas.proofs.copy_rows.Given as goal

abbrev pub invariant-loop-y : goal.invariant-loop-y
invariant-loop-y l =
    (l.out ≡ rows_copied l.stride l.out_stride l.width l.y l.canvas l.initial.out) × (l.y ≤ l.height)
