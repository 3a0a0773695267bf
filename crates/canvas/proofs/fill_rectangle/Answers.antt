use mathlib.Core.Path.{◌∙◌}
use Prim.Native.Nat.{◌+◌, ◌*◌, ◌≤◌}
use native.Mathlib.Omega.{arith}
use lib.ListN.{length}
use borrow.Author.Rules.{rules}
use Rattle.canvas.proofs.Growth.{rectangle-turns, rectangle-room}
use Rattle.canvas.proofs.fill_rectangle.Goals as goal
use Rattle.canvas.proofs.fill_rectangle.Goals.{In-loop-y}

-- the row that a turn paints lies on the canvas
room : (c : In-loop-y)
    → 4 * (c.loop-y.y * c.args.stride + c.args.right) ≤ length c.args.canvas.now
room c =
    let a = c.args in
    let pre = c.requires in
    rectangle-room (length a.canvas.now) a.stride a.right a.bottom c.loop-y.y
    pre.1
    pre.3
    c.loop-y-test.true

pub returns-then-left-right : goal.returns-then-left-right
returns-then-left-right c = search (rules, rectangle-turns)

pub loop-y-init : goal.loop-y-init
loop-y-init c = (search (rules, rectangle-turns), search rules, search rules, search rules)

pub overflow_mul-y : goal.overflow_mul-y
overflow_mul-y c = omega (arith, room (goal.at.overflow_mul-y c).In-loop-y)

pub overflow_add-y : goal.overflow_add-y
overflow_add-y c = omega (arith, room (goal.at.overflow_add-y c).In-loop-y)

pub overflow_mul-y-in-loop-y : goal.overflow_mul-y-in-loop-y
overflow_mul-y-in-loop-y c = omega (arith, room (goal.at.overflow_mul-y-in-loop-y c).In-loop-y)

pub overflow_add-y-in-loop-y : goal.overflow_add-y-in-loop-y
overflow_add-y-in-loop-y c = omega (arith, room (goal.at.overflow_add-y-in-loop-y c).In-loop-y)

pub fill_span-requires : goal.fill_span-requires
fill_span-requires c = omega (arith, room (goal.at.fill_span-requires c).In-loop-y)

pub loop-y-preserved : goal.loop-y-preserved
loop-y-preserved c = (search (rules, rectangle-turns), search (rules, ◌∙◌), search rules, search rules)

pub returns : goal.returns
returns c = search (rules, rectangle-turns)
