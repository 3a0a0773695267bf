-- `depth_of` meets its contract: the binary digits of six bits, by one law.
use native.Mathlib.Omega.{arith}
use lib.Count.{leading_le}
use Rattle.canvas.proofs.Depth.{depth-digits}
use Rattle.reference.proofs.extent.depth_of.Goals as goal

pub overflow_cast-unused-2 : goal.overflow_cast-unused-2
overflow_cast-unused-2 c = omega (arith, leading_le 32 c.args.bits)

pub overflow_sub-result : goal.overflow_sub-result
overflow_sub-result c = leading_le 32 c.args.bits

pub returns : goal.returns
returns c = depth-digits c.args.bits c.requires
