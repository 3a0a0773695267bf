-- `paint_sixels` meets its contract. The loop's invariant: the first `k` sixels were painted.
use Prim.Native.Nat.{◌≤◌}
use mathlib.Core.Path.{◌≡◌}
use lib.ListN.{length}
use Rattle.fast.specs.Run.{Laid}
use Rattle.fast.proofs.stretch.paint_sixels.Given as goal

abbrev pub invariant-loop-k : goal.invariant-loop-k
invariant-loop-k l =
    (l.k ≤ l.count) × Laid l.brush.stride l.brush.column l.brush.row l.brush.px l.bytes l.from l.k l.ink l.initial.canvas l.canvas × (length l.canvas ≡ length l.initial.canvas)
