use Prim.Native.Nat.{ℕ, ◌+◌, ◌-◌}
use mathlib.Core.List.{List}
use mathlib.Core.Bool.{true}
use mathlib.Core.Path.{◌≡◌, refl, sym, subst, ◌∙◌}
use native.Mathlib.Omega.{arith}
use borrow.Author.Tests.{not-false, not-true}
use lib.Count.{ones}
use lib.ListN.{length, get_or}
use Rattle.numbers.specs.Bytes.{sixel}
use Rattle.canvas.specs.Paint.{sixel_painted}
use Rattle.reference.proofs.StepLaws.{sixel-least, sixel-bits}
use Rattle.fast.specs.Run.{Laid}
use Rattle.fast.proofs.RunLaws.{laid_none, laid_one, laid-joined, laid-few}
use Rattle.fast.proofs.stretch.paint_singly.Goals as goal
use Rattle.fast.proofs.stretch.paint_singly.Goals.{Else-not-is_sixel}

pub loop-count-init : goal.loop-count-init
loop-count-init c = (omega arith, laid_none _ _ _ _ _ _ _ (omega (arith, c.requires.0)), refl)

pub overflow_add-byte : goal.overflow_add-byte
overflow_add-byte c = omega (arith, c.requires.0)

pub bounds-bytes-from : goal.bounds-bytes-from
bounds-bytes-from c = omega (arith, c.requires.0)

pub shape_of-canvas-then-not-is_sixel : goal.shape_of-canvas-then-not-is_sixel
shape_of-canvas-then-not-is_sixel c = c.loop-count.invariant.2

pub returns-then-not-is_sixel : goal.returns-then-not-is_sixel
returns-then-not-is_sixel c =
    let at = c.loop-count in
    (at.invariant.0, at.invariant.1, λ less. sym c.is_sixel.ensures ∙ not-true _ c.if-not-is_sixel.true-raw)

abbrev byte : Else-not-is_sixel → ℕ
byte c = get_or c.args.bytes.now (c.args.from + c.loop-count.count) 0

here : (c : Else-not-is_sixel) → sixel (byte c) ≡ true
here c = sym c.is_sixel.ensures ∙ not-false _ c.if-not-is_sixel.false-raw

-- what was painted, with this one, on whichever canvas
longer : {ink : ℕ} {after : List ℕ} (c : Else-not-is_sixel) → ink ≡ ones (byte c - 63)
    → after ≡ sixel_painted c.args.brush.stride (c.args.brush.column + c.loop-count.count) c.args.brush.row 1
    (byte c - 63)
    c.args.brush.px
    c.loop-count.canvas
    → Laid c.args.brush.stride c.args.brush.column c.args.brush.row c.args.brush.px
    c.args.bytes.now
    c.args.from
    (c.loop-count.count + 1)
    (c.loop-count.ink + ink)
    c.args.canvas.now
    after
longer c x p =
    laid-joined _ _ _ _ _ _ c.loop-count.invariant.1
    (laid_one _ _ _ _ _ _ _ (omega (arith, c.requires.0, c.loop-count-test.true)) refl (here c) x p)

pub overflow_sub-bits : goal.overflow_sub-bits
overflow_sub-bits c = sixel-least _ refl (here c)

pub ink_of-ink-requires : goal.ink_of-ink-requires
ink_of-ink-requires c = sixel-bits _ (here c)

pub overflow_add-ink : goal.overflow_add-ink
overflow_add-ink c =
    let all = longer (goal.at.overflow_add-ink c).Else-not-is_sixel c.ink_of-ink.ensures refl in
    omega (arith, laid-few _ _ _ _ _ _ (length c.args.canvas.now) all (omega (arith, c.requires.1, c.loop-count-test.true)) c.requires.2)

pub paint_rows-requires : goal.paint_rows-requires
paint_rows-requires c =
    (omega (arith, c.requires.1, c.loop-count-test.true), rw c.loop-count.invariant.2 c.requires.2, sixel-bits _ (here (goal.at.paint_rows-requires c).Else-not-is_sixel))

pub loop-count-preserved : goal.loop-count-preserved
loop-count-preserved c = (
  omega arith,
  longer (goal.at.loop-count-preserved c).Else-not-is_sixel c.ink_of-ink.ensures c.paint_rows.ensures,
  c.paint_rows.auto.canvas ∙ c.loop-count.invariant.2,
)

pub shape_of-canvas : goal.shape_of-canvas
shape_of-canvas c = c.loop-count.invariant.2

pub returns : goal.returns
returns c =
    let at = c.loop-count in
    let a = c.args in
    let all : at.count ≡ a.most = omega arith in (
      omega arith,
      subst (λ (n : ℕ). Laid a.brush.stride a.brush.column a.brush.row a.brush.px a.bytes.now a.from n at.ink a.canvas.now at.canvas) all at.invariant.1,
      λ less. absurd (omega (arith, less)),
    )
