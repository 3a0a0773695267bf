-- `dump::put_row` meets its contract. The loop's invariant: with the pixels that are left put, all after the first are.
-- Assumes nothing.
use mathlib.Core.Path.{◌≡◌}
use Prim.Native.Nat.{◌+◌, ◌-◌, ◌≤◌}
use Rattle.text.specs.Text.{put}
use Rattle.text.specs.Stand.{there}
use Rattle.dump.specs.Dump.{further_text}
use Rattle.dump.proofs.put_row.Given as goal

abbrev pub invariant-loop-x : goal.invariant-loop-x
invariant-loop-x l =
    (put (further_text l.canvas (l.p + l.x) (l.width - l.x)) (there l.to) ≡ put (further_text l.canvas (l.p + 1) (l.width - 1)) (there l.initial.to))
    × (l.to.out.ghost_name ≡ l.initial.to.out.ghost_name)
    × (l.x ≤ l.width)
    × (1 ≤ l.x)
