-- `explain_part` meets its contract: reading counts no more bytes than there are, and what it comes to is told.
use Rattle.std.specs.Prelude.{true}
use native.Mathlib.Omega.{arith}
use borrow.Author.Rules.{rules}
use Rattle.explain.proofs.ExplainLaws.{telling, part-within}
use Rattle.explain.proofs.explain_part.Goals as goal

pub overflow_add-from : goal.overflow_add-from
overflow_add-from c =
    omega (arith, part-within true _ c.args.bytes.now c.args.from _ _ _ c.read_on-led.ensures c.requires, c.well_formed.1.1.1.0.0)

pub returns : goal.returns
returns c = search (rules, telling)
