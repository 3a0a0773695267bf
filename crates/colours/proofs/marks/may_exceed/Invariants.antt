-- `colours::marks::may_exceed` meets its contract. The loop's invariant: none of the numbers so far is larger than what was joined.
-- Assumes nothing.
use Rattle.colours.proofs.Blocks.{AtMost}
use Rattle.colours.proofs.marks.may_exceed.Given as goal

abbrev pub invariant-loop-number : goal.invariant-loop-number
invariant-loop-number l = AtMost l.colors l.number-index l.all
