-- `read_on` meets its contract: a byte that was read is followed by the others, and any other ends the reading.
use borrow.Enum.Refused.{opened}
use borrow.Author.Rules.{rules}
use native.Mathlib.Omega.{arith}
use Rattle.explain.proofs.DryLaws.{spends, looping}
use Rattle.explain.proofs.dry.read_on.Goals as goal

pub overflow_sub-left : goal.overflow_sub-left
overflow_sub-left c = spends c.loop-byte.invariant.0 c.byte_step-read.ensures c.cost-left.ensures

pub loop-byte-preserved : goal.loop-byte-preserved
loop-byte-preserved c = (search (rules, looping), omega arith)

pub returns-in_default : goal.returns-in_default
returns-in_default c = rw c.loop-byte.invariant.1 (search (rules, looping, opened c.in_default.in_default-own.keys2))

pub returns : goal.returns
returns c = rw c.loop-byte.invariant.1 (search (rules, looping))
