-- `bins::top_row` meets its contract. The loop's invariant: the rows that are left decide. Assumes nothing.
use mathlib.Core.Path.{◌≡◌}
use Prim.Native.Nat.{◌-◌, ◌≤◌}
use Rattle.bins.specs.Bins.{row_has, first_from, pixel_at}
use Rattle.bins.proofs.top_row.Given as goal

abbrev pub invariant-loop-y : goal.invariant-loop-y
invariant-loop-y l =
    (first_from (λ y. row_has (λ x. pixel_at l.stride l.canvas x y) l.first l.count l.colour) l.y (l.height - l.y)
    ≡ first_from (λ y. row_has (λ x. pixel_at l.stride l.canvas x y) l.first l.count l.colour) 0 l.height)
    × (l.y ≤ l.height)
