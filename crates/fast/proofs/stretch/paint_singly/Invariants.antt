-- `paint_singly` meets its contract. The loop's invariant: what was counted was painted.
use Prim.Native.Nat.{◌≤◌}
use mathlib.Core.Path.{◌≡◌}
use lib.ListN.{length}
use Rattle.fast.specs.Run.{Laid}
use Rattle.fast.proofs.stretch.paint_singly.Given as goal

abbrev pub invariant-loop-count : goal.invariant-loop-count
invariant-loop-count l =
    (l.count ≤ l.most) × Laid l.brush.stride l.brush.column l.brush.row l.brush.px l.bytes l.from l.count l.ink l.initial.canvas l.canvas × (length l.canvas ≡ length l.initial.canvas)
