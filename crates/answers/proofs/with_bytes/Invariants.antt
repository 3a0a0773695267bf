-- `answers::with_bytes` meets its contract. The loop's invariant: the checksum so far, with the bytes that are left, is the whole one.
-- Assumes nothing.
use mathlib.Core.Path.{◌≡◌}
use lib.ListN.{drop}
use Rattle.answers.specs.Adler.{with_bytes}
use Rattle.answers.proofs.with_bytes.Given as goal

abbrev pub invariant-loop-i : goal.invariant-loop-i
invariant-loop-i l = with_bytes l.sum (drop l.i l.bytes) ≡ with_bytes l.start l.bytes
