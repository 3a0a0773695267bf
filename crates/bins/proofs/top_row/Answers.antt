use mathlib.Core.Path.{◌≡◌, sym, ap, ◌∙◌}
use Prim.Native.Nat.{ℕ, ◌+◌, ◌-◌, ◌*◌, ◌≤◌, zero-le}
use native.Mathlib.Omega.{arith}
use lib.ListN.{length}
use Rattle.canvas.proofs.Growth.{rectangle-room}
use Rattle.bins.specs.Bins.{row_has, first_from, pixel_at}
use Rattle.bins.specs.Told.{row_told}
use Rattle.bins.proofs.Searches.{first_done, first-here, first_next}
use Rattle.bins.proofs.top_row.Goals as goal
use Rattle.bins.proofs.top_row.Goals.{In-loop-y}

-- the columns of the row that a turn searches lie on the canvas
room : (c : In-loop-y)
    → let a = c.args in 4 * (c.loop-y.y * a.stride + (a.first + a.count)) ≤ length a.canvas.now
room c =
    let a = c.args in
    rectangle-room (length a.canvas.now) a.stride (a.first + a.count) a.height c.loop-y.y
    c.requires.0 c.requires.1 c.loop-y-test.true

pub loop-y-init : goal.loop-y-init
loop-y-init c =
    let a = c.args in
    let all : a.height - 0 ≡ a.height = omega arith in (
      ap (λ (n : ℕ). first_from (λ y. row_has (λ x. pixel_at a.stride a.canvas.now x y) a.first a.count a.colour) 0 n) all,
      zero-le,
    )

pub overflow_mul-y : goal.overflow_mul-y
overflow_mul-y c = omega (arith, room c)

pub row_has-requires : goal.row_has-requires
row_has-requires c = room c

pub returns-then-row_has : goal.returns-then-row_has
unfolding row_told pixel_at
returns-then-row_has c =
    let now-at = c.loop-y in
    first-here _ _ _ _ now-at.invariant.0 (omega arith) (sym c.row_has.ensures ∙ c.if-row_has.true)

pub loop-y-preserved : goal.loop-y-preserved
unfolding pixel_at
loop-y-preserved c =
    let now-at = c.loop-y in (
      first_next _ _ _ _ now-at.invariant.0 (omega arith) (sym c.row_has.ensures ∙ c.if-row_has.false),
      omega arith,
    )

pub returns : goal.returns
unfolding row_told
returns c = first_done _ _ _ _ c.loop-y.invariant.0 (omega arith)
