use Prim.Native.Nat.{ℕ, ◌+◌, ◌*◌}
use mathlib.Core.List.{List}
use mathlib.Core.Path.{◌≡◌, refl, subst, ◌∙◌}
use native.Mathlib.Omega.{arith}
use borrow.Author.Tests.{not-false}
use lib.ListN.{length}
use Rattle.fast.specs.Blend.{four_ink, four_painted, sixels_at}
use Rattle.fast.specs.Run.{Sixels, Laid}
use Rattle.fast.proofs.RunLaws.{laid_none, laid-four, laid-joined, laid-few, four-few}
use Rattle.fast.proofs.stretch.blend_fours.Goals as goal
use Rattle.fast.proofs.stretch.blend_fours.Goals.{Else-not-four_stand}

pub loop-quad-init : goal.loop-quad-init
loop-quad-init c = (omega arith, laid_none _ _ _ _ _ _ _ (omega (arith, c.requires.0)), refl)

abbrev place : Else-not-four_stand → ℕ
place c = c.args.from + 4 * c.loop-quad.quad

stand : (c : Else-not-four_stand) → Sixels c.args.bytes.now (place c) (place c + 4)
stand c = c.four_stand.ensures (not-false _ c.if-not-four_stand.false-raw)

-- what was painted, with these four, on whichever canvas
longer : {ink : ℕ} {after : List ℕ} (c : Else-not-four_stand) {four : List ℕ}
    → four ≡ sixels_at c.args.bytes.now (place c) → ink ≡ four_ink four
    → after ≡ four_painted c.args.brush.stride (c.args.brush.column + 4 * c.loop-quad.quad) c.args.brush.row four
    c.args.brush.px
    c.loop-quad.canvas
    → Laid c.args.brush.stride c.args.brush.column c.args.brush.row c.args.brush.px
    c.args.bytes.now
    c.args.from
    (4 * (c.loop-quad.quad + 1))
    (c.loop-quad.ink + ink)
    c.args.canvas.now
    after
longer {ink} {after} c e x p =
    let a = c.args in
    let next : 4 * c.loop-quad.quad + 4 ≡ 4 * (c.loop-quad.quad + 1) = omega arith in
    subst (λ (n : ℕ). Laid a.brush.stride a.brush.column a.brush.row a.brush.px a.bytes.now a.from n (c.loop-quad.ink + ink) a.canvas.now after) next
    (laid-joined _ _ _ _ _ _ c.loop-quad.invariant.1 (laid-four _ _ _ _ _ (place c) _ (stand c) e x p))

pub ink_of_four-ink-requires : goal.ink_of_four-ink-requires
ink_of_four-ink-requires c =
    let now = (goal.at.ink_of_four-ink-requires c).Else-not-four_stand in
    four-few _ (place now) (stand now) c.four_at-four.ensures

pub overflow_add-ink : goal.overflow_add-ink
overflow_add-ink c =
    let all = longer (goal.at.overflow_add-ink c).Else-not-four_stand c.four_at-four.ensures c.ink_of_four-ink.ensures refl in
    omega (arith, laid-few _ _ _ _ _ _ (length c.args.canvas.now) all (omega (arith, c.loop-quad-test.true, c.requires.1)) c.requires.2)

pub loop-quad-preserved : goal.loop-quad-preserved
loop-quad-preserved c = (
  omega (arith, c.loop-quad-test.true),
  longer (goal.at.loop-quad-preserved c).Else-not-four_stand c.four_at-four.ensures c.ink_of_four-ink.ensures c.blend_four.ensures,
  c.blend_four.auto.canvas ∙ c.loop-quad.invariant.2,
)
