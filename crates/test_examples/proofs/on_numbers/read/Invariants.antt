-- `test_examples::on_numbers::read` has read the bytes so far. Assumes nothing.
use Rattle.std.proofs.Common.{take}
use Rattle.numbers.specs.Read.{Read}
use Rattle.test_examples.proofs.on_numbers.read.Given as goal

abbrev pub invariant-loop-byte : goal.invariant-loop-byte
invariant-loop-byte l = Read l.places (take l.byte-index l.bytes) l.p
