-- `canvas::fill_span` meets its contract. The loop's invariant: the pixels from `from` up to p are painted. A turn's four stores are
-- `span-next`. Assumes nothing.
use mathlib.Core.Path.{◌≡◌}
use Prim.Native.Nat.{◌≤◌}
use lib.ListN.{length}
use Rattle.canvas.specs.Paint.{painted}
use Rattle.canvas.specs.Picture.{span}
use Rattle.canvas.proofs.fill_span.Given as goal

abbrev pub invariant-loop-p : goal.invariant-loop-p
invariant-loop-p l =
    (l.canvas ≡ painted (span l.from l.p) l.px l.initial.canvas) × (length l.canvas ≡ length l.initial.canvas) × (l.from ≤ l.p) × (l.p ≤ l.to)
