use native.Mathlib.Omega.{arith}
use lib.ListN.{length-set}
use borrow.Author.Rules.{rules}
use Rattle.canvas.proofs.Covers.{span-turns}
use Rattle.canvas.proofs.fill_span.Goals as goal

pub loop-p-init : goal.loop-p-init
loop-p-init c = (search (rules, span-turns), search rules, search rules, search rules)

pub bounds-canvas-i-in-loop-p : goal.bounds-canvas-i-in-loop-p
bounds-canvas-i-in-loop-p c = simp length-set (omega arith)

pub bounds-canvas-i-in-loop-p-2 : goal.bounds-canvas-i-in-loop-p-2
bounds-canvas-i-in-loop-p-2 c = simp length-set (omega arith)

pub bounds-canvas-i-in-loop-p-3 : goal.bounds-canvas-i-in-loop-p-3
bounds-canvas-i-in-loop-p-3 c = simp length-set (omega arith)

pub loop-p-preserved : goal.loop-p-preserved
loop-p-preserved c = (search (rules, span-turns), simp length-set c.loop-p.invariant.1, search rules, search rules)

pub returns : goal.returns
returns c = search (rules, span-turns)
