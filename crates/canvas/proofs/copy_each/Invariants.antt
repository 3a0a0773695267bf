-- `canvas::copy_each` meets its contract. The loop's invariant: the first j bytes are pasted. Assumes nothing.
use mathlib.Core.Path.{◌≡◌}
use Prim.Native.Nat.{◌≤◌}
use lib.ListN.{length, drop}
use lib.Seq.{paste}
use Rattle.canvas.proofs.copy_each.Given as goal

abbrev pub invariant-loop-j : goal.invariant-loop-j
invariant-loop-j l = (l.out ≡ paste l.initial.out l.at (drop l.from l.canvas) l.j) × (length l.out ≡ length l.initial.out) × (l.j ≤ l.count)
