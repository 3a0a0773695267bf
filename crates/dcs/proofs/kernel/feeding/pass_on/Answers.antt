-- `dcs::pass_on` meets its contract: one path for each answer of the payload session. What it asks of its caller keeps the sums in range.
use native.Mathlib.Omega.{arith}
use Rattle.dcs.proofs.SessionLaws.{count-more, count-stopped, count-ended, passed-ended, payloads}
use Rattle.dcs.specs.Session.{passed_told}
use borrow.Author.Rules.{rules}
use Rattle.dcs.proofs.kernel.feeding.pass_on.Goals as goal

pub overflow_add-result : goal.overflow_add-result
overflow_add-result c =
    let k = rw c.in-Ok-More.is at c.in-Ok-More.field-0-is in
    omega (arith, count-more c.in-Ok-More.is k)

pub overflow_add-result-in-Ok-Stopped : goal.overflow_add-result-in-Ok-Stopped
overflow_add-result-in-Ok-Stopped c =
    let k = rw c.in-Ok-Stopped.is at c.in-Ok-Stopped.field-0-is in
    omega (arith, count-stopped c.in-Ok-Stopped.is k)

pub overflow_add-from : goal.overflow_add-from
overflow_add-from c =
    let k = rw c.in-Ok-Ended.is at c.in-Ok-Ended.field-0-is in
    omega (arith, count-ended c.in-Ok-Ended.is k)

pub returns-in-Ok-More : goal.returns-in-Ok-More
unfolding passed_told
returns-in-Ok-More c = search (rules, payloads)

pub returns-in-Ok-Stopped : goal.returns-in-Ok-Stopped
unfolding passed_told
returns-in-Ok-Stopped c = search (rules, payloads)

pub returns-in-Ok-Ended : goal.returns-in-Ok-Ended
returns-in-Ok-Ended c =
    let k = rw c.in-Ok-Ended.is at c.in-Ok-Ended.field-0-is in
    passed-ended c.args.bytes.now c.args.from c.in-Ok-Ended.is k c.close.ensures

pub returns-in-Err : goal.returns-in-Err
unfolding passed_told
returns-in-Err c = search (rules, payloads)
