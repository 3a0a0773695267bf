-- `sixdump::read_input` has taken some pieces. Assumes nothing.
use Rattle.sixdump.specs.Taken.{Taken}
use Rattle.sixdump.proofs.read_input.Given as goal

abbrev pub invariant-loop : goal.invariant-loop
invariant-loop g l = Taken l.initial.reader l.initial.canvas l.reader l.canvas
