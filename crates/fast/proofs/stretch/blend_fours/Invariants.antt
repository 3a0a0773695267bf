-- `blend_fours` meets its contract. The loop's invariant: so many fours were painted.
use Prim.Native.Nat.{◌*◌, ◌/◌, ◌≤◌}
use mathlib.Core.Path.{◌≡◌}
use lib.ListN.{length}
use Rattle.fast.specs.Run.{Laid}
use Rattle.fast.proofs.stretch.blend_fours.Given as goal

abbrev pub invariant-loop-quad : goal.invariant-loop-quad
invariant-loop-quad l =
    (l.quad ≤ l.most / 4) × Laid l.brush.stride l.brush.column l.brush.row l.brush.px l.bytes l.from (4 * l.quad) l.ink l.initial.canvas l.canvas × (length l.canvas ≡ length l.initial.canvas)
