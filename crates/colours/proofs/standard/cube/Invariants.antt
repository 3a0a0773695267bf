-- `colours::standard::cube` meets its contract. Each loop's invariant: the registers before its next one are computed.
-- Assumes nothing.
use mathlib.Core.List.{List}
use Prim.Native.Nat.{ℕ, ◌+◌, ◌*◌, ◌≤◌}
use lib.ListN.{replicate}
use Rattle.colours.specs.Standard.{cube}
use Rattle.colours.proofs.Filling.{Filled}
use Rattle.colours.proofs.standard.cube.Given as goal

-- the table as the loops find it
abbrev pub blank : List ℕ
blank = replicate 216 0

abbrev pub invariant-loop-b : goal.invariant-loop-b
invariant-loop-b l = (l.b ≤ 6) × Filled cube 0 (36 * l.r + 6 * l.g + l.b) blank l.colors

abbrev pub invariant-loop-g : goal.invariant-loop-g
invariant-loop-g l = (l.g ≤ 6) × Filled cube 0 (36 * l.r + 6 * l.g) blank l.colors

abbrev pub invariant-loop-r : goal.invariant-loop-r
invariant-loop-r l = (l.r ≤ 6) × Filled cube 0 (36 * l.r) blank l.colors
