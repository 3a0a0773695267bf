-- `answers::registers_sum` meets its contract. The loop's invariant: the checksum so far, with the registers that are left,
-- is the whole one.
-- Assumes nothing.
use mathlib.Core.Path.{◌≡◌}
use Prim.Native.Nat.{◌-◌, ◌≤◌}
use Rattle.colours.specs.Palette.{of_table}
use Rattle.answers.specs.Adler.{with_bytes}
use Rattle.answers.specs.Registers.{register_bytes, registers_sum}
use Rattle.answers.proofs.registers_sum.Given as goal

abbrev pub invariant-loop-index : goal.invariant-loop-index
invariant-loop-index l =
    (l.index ≤ 256) × (with_bytes l.sum (register_bytes (of_table l.colors) l.index (256 - l.index)) ≡ registers_sum (of_table l.colors))
