-- `colours::standard::greys` meets its contract. The loop's invariant: the first k greys are computed.
-- Assumes nothing.
use Prim.Native.Nat.{◌≤◌}
use Rattle.colours.specs.Standard.{grey}
use Rattle.colours.proofs.Filling.{Filled}
use Rattle.colours.proofs.standard.greys.Given as goal

abbrev pub invariant-loop-k : goal.invariant-loop-k
invariant-loop-k l = (l.k ≤ 24) × Filled grey 0 l.k l.initial.colors l.colors
