use Prim.Native.Nat.{ℕ, ◌+◌, ◌-◌, ◌≤◌}
use mathlib.Core.Path.{◌≡◌, subst, refl, ◌∙◌}
use native.Mathlib.Nat.{add-zero}
use native.Mathlib.Omega.{arith}
use lib.ListN.{length}
use Rattle.fast.specs.Run.{Sixels, Laid}
use Rattle.fast.proofs.RunLaws.{laid_none, laid-blank, laid-full, laid-joined, laid-few, all-taken}
use Rattle.fast.proofs.stretch.paint_sixels.Goals as goal
use Rattle.fast.proofs.stretch.paint_sixels.Goals.{After-blend_sixels-rest, In-loop-k}

pub loop-k-init : goal.loop-k-init
loop-k-init c = (omega arith, laid_none _ _ _ _ _ _ _ (omega (arith, c.requires.0.within)), refl)

-- the next byte is there
more : (c : In-loop-k) → c.args.from + c.loop-k.k + 1 ≤ length c.args.bytes.now
more c = omega (arith, c.requires.0.within, c.loop-k-test.true)

-- ---- a blank sixel

pub loop-k-preserved-then-byte-eq-BLANK : goal.loop-k-preserved-then-byte-eq-BLANK
loop-k-preserved-then-byte-eq-BLANK c =
    let a = c.args in
    let at = c.loop-k in (
      omega arith,
      subst (λ (x : ℕ). Laid a.brush.stride a.brush.column a.brush.row a.brush.px a.bytes.now a.from (at.k + 1) x a.canvas.now at.canvas) (add-zero at.ink)
          (laid-joined _ _ _ _ _ _ at.invariant.1 (laid-blank _ _ _ _ _ _ _ (omega (arith, more (goal.at.loop-k-preserved-then-byte-eq-BLANK c).In-loop-k)) c.if-byte-eq-BLANK.true)),
      at.invariant.2,
    )

-- ---- a full one

pub overflow_add-ink : goal.overflow_add-ink
overflow_add-ink c =
    let longer =
    laid-joined _ _ _ _ _ _ c.loop-k.invariant.1
    (laid-full _ _ _ _ _ _ _ (omega (arith, more (goal.at.overflow_add-ink c).In-loop-k)) c.if-byte-ne-FULL.false c.paint_full.ensures)
    in
    omega (arith, laid-few _ _ _ _ _ _ (length c.args.canvas.now) longer (omega (arith, c.requires.1, c.loop-k-test.true)) c.requires.2)

pub loop-k-preserved : goal.loop-k-preserved
loop-k-preserved c = (
  omega arith,
  laid-joined _ _ _ _ _ _ c.loop-k.invariant.1
      (laid-full _ _ _ _ _ _ _ (omega (arith, more (goal.at.loop-k-preserved c).In-loop-k)) c.if-byte-ne-FULL.false c.paint_full.ensures),
  c.paint_full.auto.canvas ∙ c.loop-k.invariant.2,
)

-- ---- any other, and all after it

-- all of them were painted then
all_laid : (c : After-blend_sixels-rest)
    → Laid c.args.brush.stride c.args.brush.column c.args.brush.row
    c.args.brush.px
    c.args.bytes.now
    c.args.from
    c.args.count
    (c.loop-k.ink + c.blend_sixels-rest.result.ink)
    c.args.canvas.now
    c.blend_sixels-rest.new.canvas
all_laid c =
    let a = c.args in
    let at = c.loop-k in
    let i : ℕ = a.from + at.k in
    let rest : Sixels a.bytes.now i (i + (a.count - at.k)) = record {
      within = omega (arith, c.requires.0.within, at.invariant.0);
      each = λ j h₁ h₂. c.requires.0.each j (omega (arith, h₁)) (omega (arith, h₂, at.invariant.0));
    } in
    let taken = all-taken a.bytes.now i c.blend_sixels-rest.result.count (a.count - at.k) rest c.blend_sixels-rest.ensures.0 c.blend_sixels-rest.ensures.2 in
    let whole : at.k + c.blend_sixels-rest.result.count ≡ a.count = omega (arith, taken, at.invariant.0) in
    subst
    (λ (n : ℕ). Laid a.brush.stride a.brush.column a.brush.row a.brush.px a.bytes.now a.from n (at.ink + c.blend_sixels-rest.result.ink) a.canvas.now c.blend_sixels-rest.new.canvas)
    whole
    (laid-joined _ _ _ _ _ _ at.invariant.1 c.blend_sixels-rest.ensures.1)

pub overflow_add-result : goal.overflow_add-result
overflow_add-result c =
    omega (arith, laid-few _ _ _ _ _ _ (length c.args.canvas.now) (all_laid (goal.at.overflow_add-result c).After-blend_sixels-rest) c.requires.1 c.requires.2)

pub returns-then-byte-ne-FULL : goal.returns-then-byte-ne-FULL
returns-then-byte-ne-FULL c = all_laid (goal.at.returns-then-byte-ne-FULL c).After-blend_sixels-rest
