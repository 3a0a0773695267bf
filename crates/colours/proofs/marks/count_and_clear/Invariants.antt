-- `colours::marks::count_and_clear` meets its contract. Both loops' invariant: the registers before the next one have been passed (`Passed`).
-- Assumes nothing.
use mathlib.Core.Path.{◌≡◌}
use Prim.Native.Nat.{◌*◌, ◌≤◌}
use lib.ListN.{length}
use Rattle.colours.proofs.Blocks.{Passed, PassedOn}
use Rattle.colours.proofs.marks.count_and_clear.Given as goal

abbrev pub invariant-loop-k : goal.invariant-loop-k
invariant-loop-k l =
    (l.k ≤ l.k-end) × (l.count ≤ l.k) × (length l.colors ≡ 256) × PassedOn l.initial.k l.initial.count l.initial.colors l.k l.count l.colors

abbrev pub invariant-loop-block : goal.invariant-loop-block
invariant-loop-block l = (l.block ≤ 4) × Passed l.initial.colors (64 * l.block) l.count l.colors
