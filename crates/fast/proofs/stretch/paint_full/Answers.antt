use mathlib.Core.Path.{refl, ◌∙◌}
use Prim.Native.Nat.{◌+◌, ◌*◌, ◌≤◌}
use native.Mathlib.Omega.{arith}
use lib.ListN.{length}
use Rattle.canvas.proofs.Grid.{sixel-none, sixel-last, sixel-room, rows_few}
use Rattle.fast.proofs.BlendLaws.{full-more}
use Rattle.fast.proofs.stretch.paint_full.Goals as goal
use Rattle.fast.proofs.stretch.paint_full.Goals.{In-loop-k}

-- the row that is painted next lies on the canvas
room : (c : In-loop-k)
    → 4 * ((c.args.brush.row + c.loop-k.k) * c.args.brush.stride + c.args.brush.column + 1) ≤ length c.args.canvas.now
room c =
    let a = c.args in
    sixel-room (length a.canvas.now) a.brush.stride a.brush.column a.brush.row 1 c.loop-k.k c.requires.0 c.requires.1
    (omega (arith, c.loop-k-test.true))

pub loop-k-init : goal.loop-k-init
loop-k-init c = let a = c.args in (sixel-none a.brush.stride a.brush.column a.brush.row 1 63 a.brush.px a.canvas.now, refl, omega arith)

pub overflow_add-at : goal.overflow_add-at
overflow_add-at c =
    let a = c.args in
    omega (arith, rows_few (length a.canvas.now) a.brush.stride, c.requires.1)

pub overflow_mul-at : goal.overflow_mul-at
overflow_mul-at c = omega (arith, room (goal.at.overflow_mul-at c).In-loop-k)

pub overflow_add-at-in-loop-k : goal.overflow_add-at-in-loop-k
overflow_add-at-in-loop-k c = omega (arith, room (goal.at.overflow_add-at-in-loop-k c).In-loop-k)

pub overflow_add-at-in-loop-k-2 : goal.overflow_add-at-in-loop-k-2
overflow_add-at-in-loop-k-2 c = omega (arith, room (goal.at.overflow_add-at-in-loop-k-2 c).In-loop-k)

pub fill_span-requires : goal.fill_span-requires
fill_span-requires c = (omega arith, omega (arith, room (goal.at.fill_span-requires c).In-loop-k, c.loop-k.invariant.1))

pub loop-k-preserved : goal.loop-k-preserved
loop-k-preserved c =
    let a = c.args in
    let at = c.loop-k in (
      full-more a.brush.stride a.brush.column a.brush.row at.k a.brush.px a.canvas.now (omega (arith, c.loop-k-test.true)) c.requires.0 at.invariant.0
          c.fill_span.ensures,
      c.fill_span.auto.canvas ∙ at.invariant.1,
      omega arith,
    )

pub shape_of-canvas : goal.shape_of-canvas
shape_of-canvas c = c.loop-k.invariant.1

pub returns : goal.returns
returns c =
    let a = c.args in
    let at = c.loop-k in
    sixel-last a.brush.stride a.brush.column a.brush.row 1 63 a.brush.px a.canvas.now at.k at.invariant.2 (omega arith) at.invariant.0
