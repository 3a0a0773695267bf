-- `take_all` meets its contract: its loop is `Midway`, the calls so far and those to come are the whole, and each stop leaves less.
use Prim.Native.Nat.{◌-◌}
use lib.ListN.{length}
use Rattle.pieces.proofs.TakeLaws.{Midway}
use Rattle.pieces.proofs.take_all.Given as goal

abbrev pub invariant-loop-call : goal.invariant-loop-call
invariant-loop-call l = Midway l.initial.now l.initial.canvas l.piece l.canvas l.now l.at

abbrev pub decreases-loop-call : goal.decreases-loop-call
decreases-loop-call l = length l.piece - l.at
