-- `number_at` meets its contract. The loop's invariant: what was read so far is a number, written up to the place.
-- A digit more keeps it, and fits, since the value before it is not large.
use Rattle.fast.specs.Argument.{Written}
use Rattle.fast.proofs.argument.number_at.Given as goal

abbrev pub invariant-loop-end : goal.invariant-loop-end
invariant-loop-end l = Written l.bytes l.from (record { value = l.value; end = l.end })
