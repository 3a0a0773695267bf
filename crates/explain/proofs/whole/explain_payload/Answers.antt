-- `explain_payload` meets its contract: where all bytes are read, the pending command is ended; else what reading came to is told.
use borrow.Enum.Refused.{opened}
use Rattle.std.specs.Prelude.{false}
use native.Mathlib.Omega.{arith}
use borrow.Author.Rules.{rules}
use Rattle.explain.proofs.ExplainLaws.{wholes, part-within}
use Rattle.explain.proofs.whole.explain_payload.Goals as goal

pub returns-in-Read : goal.returns-in-Read
returns-in-Read c = search (rules, wholes)

pub overflow_add-from : goal.overflow_add-from
overflow_add-from c =
    omega (arith, part-within false _ c.args.bytes.now c.args.from _ _ _ c.read_on-led.ensures c.requires, c.well_formed.1.1.1.0.0)

pub returns : goal.returns
returns c = search (rules, wholes, opened c.in_default.in_default-own.keys2)
