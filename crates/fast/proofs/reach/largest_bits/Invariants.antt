-- `largest_bits` meets its contract. The loop's invariant: the byte is that of the largest bits so far.
use Prim.Native.Nat.{◌+◌, ◌≤◌}
use mathlib.Core.Path.{◌≡◌}
use Rattle.fast.specs.Run.{largest_bits}
use Rattle.fast.proofs.reach.largest_bits.Given as goal

abbrev pub invariant-loop-byte : goal.invariant-loop-byte
invariant-loop-byte l = (l.byte-index ≤ l.count) × (l.most ≡ 63 + largest_bits l.bytes l.from l.byte-index)
