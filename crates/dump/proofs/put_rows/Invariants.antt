-- `dump::put_rows` meets its contract. The loop's invariant: with the rows that are left put, all are.
-- Assumes nothing.
use mathlib.Core.Path.{◌≡◌}
use Prim.Native.Nat.{◌-◌, ◌≤◌}
use Rattle.text.specs.Text.{put}
use Rattle.text.specs.Stand.{there}
use Rattle.dump.specs.Dump.{rows_text}
use Rattle.dump.proofs.put_rows.Given as goal

abbrev pub invariant-loop-y : goal.invariant-loop-y
invariant-loop-y l =
    (put (rows_text l.canvas l.stride l.width l.y (l.height - l.y)) (there l.to) ≡ put (rows_text l.canvas l.stride l.width 0 l.height) (there l.initial.to))
    × (l.to.out.ghost_name ≡ l.initial.to.out.ghost_name)
    × (l.y ≤ l.height)
