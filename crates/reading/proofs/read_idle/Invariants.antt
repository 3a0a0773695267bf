-- `read_idle` meets its contract. The loop's invariant: what was done so far is an advance; one more advance joins it.
use Prim.Native.Nat.{◌-◌}
use mathlib.Core.Path.{◌≡◌}
use lib.ListN.{length}
use Rattle.colours.specs.Palette.{of_table}
use Rattle.fast.specs.Advance.{Advances}
use Rattle.reading.proofs.read_idle.Given as goal

abbrev pub invariant-loop-done : goal.invariant-loop-done
invariant-loop-done l =
    Advances l.ground l.bytes l.from l.left l.frame (of_table l.initial.colors) l.initial.canvas l.done (of_table l.colors) l.canvas × (length l.canvas ≡ length l.initial.canvas)

abbrev pub decreases-loop-done : goal.decreases-loop-done
decreases-loop-done l = length l.bytes - l.done.end
