-- `blend_four` meets its contract. The loop's invariant: the first `k` rows of the four sixels are painted, and the bits of the others are left.
use mathlib.Core.Path.{◌≡◌}
use Prim.Native.Nat.{◌/◌, ◌^◌, ◌≤◌}
use lib.ListN.{length, get_or}
use Rattle.fast.proofs.BlendLaws.{four_rows}
use Rattle.fast.proofs.blend.blend_four.Given as goal

abbrev pub invariant-loop-k : goal.invariant-loop-k
invariant-loop-k l =
    (l.canvas ≡ four_rows l.brush.stride l.brush.column l.brush.row l.k l.initial.rest l.brush.px l.initial.canvas)
    × (length l.canvas ≡ length l.initial.canvas)
    × (l.k ≤ 6)
    × (get_or l.rest 0 0 ≡ get_or l.initial.rest 0 0 / 2 ^ l.k)
    × (get_or l.rest 1 0 ≡ get_or l.initial.rest 1 0 / 2 ^ l.k)
    × (get_or l.rest 2 0 ≡ get_or l.initial.rest 2 0 / 2 ^ l.k)
    × (get_or l.rest 3 0 ≡ get_or l.initial.rest 3 0 / 2 ^ l.k)
