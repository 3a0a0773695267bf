use native.Mathlib.Omega.{arith}
use mathlib.Core.Path.{◌≡◌}
use borrow.Author.Rules.{rules}
use Rattle.header.proofs.LeadLaws.{turns, turn-begins, turn-refused, going_done}
use Rattle.header.proofs.read_lead.Goals as goal

pub loop-consumed-init : goal.loop-consumed-init
loop-consumed-init c = (search (rules, turns), omega arith)

pub loop-consumed-preserved : goal.loop-consumed-preserved
loop-consumed-preserved c = search (rules, turns)

pub returns-in-Ok-Begins : goal.returns-in-Ok-Begins
returns-in-Ok-Begins c =
    turn-begins c.loop-consumed.invariant.0 c.loop-consumed-test.true c.lead_byte-step.ensures (search rules) c.lead_at.ensures

pub returns-in-Err : goal.returns-in-Err
returns-in-Err c =
    turn-refused c.loop-consumed.invariant.0 c.loop-consumed-test.true c.lead_byte-step.ensures c.in-Err.is c.lead_at-in-Err.ensures

pub returns : goal.returns
returns c =
    let all : c.max.result ≡ c.loop-consumed.consumed = omega (arith, c.max.ensures) in
    going_done c.loop-consumed.invariant.0 c.loop-consumed-test.false (rw all at c.lead_at-2.ensures)
