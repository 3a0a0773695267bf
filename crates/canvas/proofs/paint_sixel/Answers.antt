use Rattle.std.proofs.Common.{◌+◌, ◌*◌, ◌≤◌, length, arith, rules}
use Rattle.canvas.proofs.Grid.{sixel-turns, sixel-room, rows_few}
use Rattle.canvas.proofs.paint_sixel.Goals as goal
use Rattle.canvas.proofs.paint_sixel.Goals.{In-loop-k, then-bits-k-eq1, else-bits-k-eq1}

-- the row that a turn paints lies on the canvas
room : (c : In-loop-k)
    → 4 * ((c.args.row + c.loop-k.k) * c.args.stride + c.args.column + c.args.repeat)
    ≤ length c.args.canvas.now
room c =
    let a = c.args in
    sixel-room (length a.canvas.now) a.stride a.column a.row a.repeat c.loop-k.k c.requires.0 c.requires.1 c.loop-k-test.true

pub loop-k-init : goal.loop-k-init
loop-k-init c = (search (rules, sixel-turns), search rules)

pub overflow_add-from : goal.overflow_add-from
overflow_add-from c = omega (arith, rows_few (length c.args.canvas.now) c.args.stride)

pub overflow_mul-from : goal.overflow_mul-from
overflow_mul-from c = omega (arith, room (goal.at.overflow_mul-from c).In-loop-k)

pub overflow_add-from-then-bits-k-eq1 : goal.overflow_add-from-then-bits-k-eq1
overflow_add-from-then-bits-k-eq1 c = omega (arith, room (goal.at.overflow_add-from-then-bits-k-eq1 c).In-loop-k)

pub overflow_add-from-then-bits-k-eq1-2 : goal.overflow_add-from-then-bits-k-eq1-2
overflow_add-from-then-bits-k-eq1-2 c = omega (arith, room (goal.at.overflow_add-from-then-bits-k-eq1-2 c).In-loop-k)

pub fill_span-requires : goal.fill_span-requires
fill_span-requires c = omega (arith, room (goal.at.fill_span-requires c).In-loop-k)

pub loop-k-preserved : goal.loop-k-preserved
loop-k-preserved c = (
  elim c.if-bits-k-eq1.branch [
    | then-bits-k-eq1 w ↦ search (rules, sixel-turns)
    | else-bits-k-eq1 w ↦ search (rules, sixel-turns)
  ],
  omega arith,
)

pub returns : goal.returns
returns c = search (rules, sixel-turns)
