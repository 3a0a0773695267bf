use mathlib.Core.Path.{◌≡◌, refl, sym, ◌∙◌}
use Prim.Native.Nat.{ℕ, ◌+◌, ◌*◌, ◌/◌, ◌^◌, ◌≤◌}
use native.Mathlib.Nat.{div-one}
use native.Mathlib.Omega.{arith}
use lib.ListN.{length}
use Rattle.canvas.proofs.Grid.{sixel-room, rest-next, rows_few}
use Rattle.fast.proofs.BlendLaws.{four-none, four-more, four-last}
use Rattle.fast.proofs.blend.blend_four.Goals as goal
use Rattle.fast.proofs.blend.blend_four.Goals.{In-loop-k}

-- the row that is painted next lies on the canvas
room : (c : In-loop-k)
    → 4 * ((c.args.brush.row + c.loop-k.k) * c.args.brush.stride + c.args.brush.column + 4) ≤ length c.args.canvas.now
room c =
    let a = c.args in
    sixel-room (length a.canvas.now) a.brush.stride a.brush.column a.brush.row 4 c.loop-k.k c.requires.0 c.requires.1
    (omega (arith, c.loop-k-test.true))

pub loop-k-init : goal.loop-k-init
loop-k-init c =
    let a = c.args in
    let all : (n : ℕ) → n ≡ n / 2 ^ 0 = λ n. sym (div-one n) in
    (four-none a.brush.stride a.brush.column a.brush.row a.four a.brush.px a.canvas.now, refl, omega arith, all _, all _, all _, all _)

pub overflow_add-at : goal.overflow_add-at
overflow_add-at c =
    let a = c.args in
    omega (arith, rows_few (length a.canvas.now) a.brush.stride, c.requires.1)

pub overflow_mul-at : goal.overflow_mul-at
overflow_mul-at c = omega (arith, room (goal.at.overflow_mul-at c).In-loop-k)

pub overflow_add-at-in-loop-k : goal.overflow_add-at-in-loop-k
overflow_add-at-in-loop-k c = omega (arith, room (goal.at.overflow_add-at-in-loop-k c).In-loop-k)

pub blend_across-requires : goal.blend_across-requires
blend_across-requires c = omega (arith, room (goal.at.blend_across-requires c).In-loop-k, c.loop-k.invariant.1)

pub loop-k-preserved : goal.loop-k-preserved
loop-k-preserved c =
    let a = c.args in
    let at = c.loop-k in
    let half : (bits rest : ℕ) → rest ≡ bits / 2 ^ at.k → rest / 2 ≡ bits / 2 ^ (at.k + 1) = λ bits rest e. rest-next bits rest at.k e in (
      four-more a.brush.stride a.brush.column a.brush.row at.k a.four at.rest a.brush.px at.invariant.3 at.invariant.4 at.invariant.5 at.invariant.6 c.requires.0
          a.canvas.now
          at.invariant.0
          c.blend_across.ensures,
      c.blend_across.auto.canvas ∙ at.invariant.1,
      omega arith,
      half _ _ at.invariant.3,
      half _ _ at.invariant.4,
      half _ _ at.invariant.5,
      half _ _ at.invariant.6,
    )

pub shape_of-canvas : goal.shape_of-canvas
shape_of-canvas c = c.loop-k.invariant.1

pub returns : goal.returns
returns c =
    let a = c.args in
    let at = c.loop-k in
    at.invariant.0 ∙ four-last a.brush.stride a.brush.column a.brush.row at.k a.four a.brush.px a.canvas.now at.invariant.2 (omega arith)
