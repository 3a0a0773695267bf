-- `four_at` meets its contract: each byte is that of a sixel.
use mathlib.Core.Path.{refl}
use Prim.Native.Nat.{◌+◌}
use native.Mathlib.Omega.{arith}
use Rattle.reference.proofs.StepLaws.{sixel-least}
use Rattle.fast.specs.Blend.{sixels_at}
use Rattle.fast.proofs.stretch.four_at.Goals as goal

pub overflow_sub-result : goal.overflow_sub-result
overflow_sub-result c = sixel-least _ refl (c.requires.each c.args.at (omega arith) (omega arith))

pub overflow_sub-result-2 : goal.overflow_sub-result-2
overflow_sub-result-2 c = sixel-least _ refl (c.requires.each (c.args.at + 1) (omega arith) (omega arith))

pub overflow_sub-result-3 : goal.overflow_sub-result-3
overflow_sub-result-3 c = sixel-least _ refl (c.requires.each (c.args.at + 2) (omega arith) (omega arith))

pub overflow_sub-result-4 : goal.overflow_sub-result-4
overflow_sub-result-4 c = sixel-least _ refl (c.requires.each (c.args.at + 3) (omega arith) (omega arith))

pub returns : goal.returns
unfolding sixels_at
returns c = refl
