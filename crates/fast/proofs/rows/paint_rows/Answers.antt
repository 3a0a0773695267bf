use mathlib.Core.Path.{◌≡◌, refl, sym, ◌∙◌}
use Prim.Native.Nat.{◌+◌, ◌*◌, ◌/◌, ◌^◌, ◌≤◌, ◌<◌}
use native.Mathlib.Nat.{div-one}
use native.Mathlib.Omega.{arith}
use lib.Count.{count_trailing_zeros}
use lib.ListN.{length}
use Rattle.canvas.proofs.Grid.{sixel-none, sixel-room, rest-next, rows_few}
use Rattle.fast.proofs.RowLaws.{row-left, row-few, row-painted, rows-done}
use Rattle.fast.proofs.rows.paint_rows.Goals as goal
use Rattle.fast.proofs.rows.paint_rows.Goals.{In-loop-rest}

-- the row of the lowest bit is one of six
few : (c : In-loop-rest) → c.loop-rest.k + count_trailing_zeros 32 c.loop-rest.rest < 6
few c =
    let at = c.loop-rest in
    row-few c.args.bits at.rest at.k at.invariant.2 c.requires.2 c.loop-rest-test.true

-- and lies on the canvas
room : (c : In-loop-rest)
    → 4
    * ((c.args.brush.row + (c.loop-rest.k + count_trailing_zeros 32 c.loop-rest.rest)) * c.args.brush.stride + c.args.brush.column
    + c.args.repeat)
    ≤ length c.args.canvas.now
room c =
    let a = c.args in
    let at = c.loop-rest in
    sixel-room (length a.canvas.now) a.brush.stride a.brush.column a.brush.row a.repeat (at.k + count_trailing_zeros 32 at.rest) c.requires.0 c.requires.1
    (few c)

pub loop-rest-init : goal.loop-rest-init
loop-rest-init c =
    let a = c.args in
    (sixel-none a.brush.stride a.brush.column a.brush.row a.repeat a.bits a.brush.px a.canvas.now, refl, sym (div-one a.bits), omega arith)

pub overflow_cast-y : goal.overflow_cast-y
overflow_cast-y c = omega (arith, few c)

pub overflow_add-y : goal.overflow_add-y
overflow_add-y c = omega (arith, few c)

pub overflow_shr-rest : goal.overflow_shr-rest
overflow_shr-rest c = omega (arith, few c)

pub overflow_add-k : goal.overflow_add-k
overflow_add-k c = omega (arith, few c)

pub overflow_add-from : goal.overflow_add-from
overflow_add-from c =
    omega (arith, few (goal.at.overflow_add-from c).In-loop-rest, c.requires.1, rows_few (length c.args.canvas.now) c.args.brush.stride)

pub overflow_mul-from : goal.overflow_mul-from
overflow_mul-from c = omega (arith, room (goal.at.overflow_mul-from c).In-loop-rest)

pub overflow_add-from-in-loop-rest : goal.overflow_add-from-in-loop-rest
overflow_add-from-in-loop-rest c = omega (arith, room (goal.at.overflow_add-from-in-loop-rest c).In-loop-rest)

pub overflow_add-from-in-loop-rest-2 : goal.overflow_add-from-in-loop-rest-2
overflow_add-from-in-loop-rest-2 c = omega (arith, room (goal.at.overflow_add-from-in-loop-rest-2 c).In-loop-rest)

pub fill_span-requires : goal.fill_span-requires
fill_span-requires c = omega (arith, room (goal.at.fill_span-requires c).In-loop-rest)

pub loop-rest-smaller : goal.loop-rest-smaller
loop-rest-smaller c = omega (arith, few (goal.at.loop-rest-smaller c).In-loop-rest)

pub loop-rest-preserved : goal.loop-rest-preserved
loop-rest-preserved c =
    let a = c.args in
    let at = c.loop-rest in (
      row-painted a.brush.stride a.brush.column a.brush.row a.repeat a.bits a.brush.px a.canvas.now at.rest at.k at.invariant.2 c.loop-rest-test.true
          c.requires.2
          c.requires.0
          at.invariant.0
          c.fill_span.ensures,
      c.fill_span.auto.canvas ∙ at.invariant.1,
      rest-next a.bits (at.rest / 2 ^ count_trailing_zeros 32 at.rest) (at.k + count_trailing_zeros 32 at.rest)
          (row-left a.bits at.rest at.k at.invariant.2 (count_trailing_zeros 32 at.rest)),
      omega (arith, few (goal.at.loop-rest-preserved c).In-loop-rest),
    )

pub shape_of-canvas : goal.shape_of-canvas
shape_of-canvas c = c.loop-rest.invariant.1

pub returns : goal.returns
returns c =
    let a = c.args in
    let at = c.loop-rest in
    let none : at.rest ≡ 0 = omega (arith, c.loop-rest-test.false) in
    rows-done a.brush.stride a.brush.column a.brush.row a.repeat a.bits a.brush.px a.canvas.now at.rest at.k at.invariant.2 none at.invariant.3 at.invariant.0
