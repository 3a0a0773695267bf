-- Laws of sizes: what an area that is needed has, and where a part of a sixel's columns has one.
use Prim.Native.Nat.{ℕ, ◌+◌, ◌*◌, ◌≤◌, max}
use mathlib.Core.Bool.{Bool, true, false, ◌&&◌, true≢false}
use mathlib.Core.Path.{◌≡◌, refl, sym, ap, ap₂, ◌∙◌}
use native.Mathlib.Nat.{mul-le-mul, le_trans}
use native.Mathlib.Omega.{arith}
use borrow.Author.Tests.{le-ltb, le-leb, ltb-false, leb-true}
use lib.Dec.{leb, ltb}
use Rattle.numbers.proofs.Laws.{cond_yes, cond_no}
use Rattle.canvas.proofs.Covers.{and_left, and_right, and_both, by-test}
use Rattle.frame.specs.declared.Ground.{Ground}
use Rattle.frame.specs.declared.Pen.{Pen}
use Rattle.frame.specs.declared.VisibleArea.{VisibleArea}
use Rattle.frame.specs.declared.Refusal.{Refusal}
use Rattle.std.specs.Prelude.{Ok, Err}
use Rattle.frame.specs.Sizes.{sized, room_for, grown_area, raster_area, sixel_area}

-- both tests
pub both_first : {t r a b : Bool} → t ≡ a → t ≡ true → r ≡ b → r ≡ (a && b)
both_first {b = b} e f g = g ∙ ap (λ (s : Bool). s && b) (sym (sym e ∙ f))

pub both-none : {t a : Bool} (b : Bool) → t ≡ a → t ≡ false → false ≡ (a && b)
both-none b e f = ap (λ (s : Bool). s && b) (sym (sym e ∙ f))

-- the next sixel ends within a width and a height
abbrev pub ends : Pen → ℕ → ℕ → Bool
ends p w h = leb (p.column + p.repeat) w && leb (p.row + 6) h

pub ends-columns : {t : Bool} (p : Pen) (w h : ℕ) → t ≡ ends p w h → t ≡ true → p.column + p.repeat ≤ w
ends-columns p w h e t = leb-true _ _ (and_left _ (leb (p.row + 6) h) (sym e ∙ t))

pub ends-rows : {t : Bool} (p : Pen) (w h : ℕ) → t ≡ ends p w h → t ≡ true → p.row + 6 ≤ h
ends-rows p w h e t = leb-true _ _ (and_right (leb (p.column + p.repeat) w) _ (sym e ∙ t))

pub sixel-visible : {t : Bool} (p : Pen) (a : VisibleArea) (g : Ground) → t ≡ ends p a.width a.height → t ≡ true → Ok a ≡ sixel_area p a g
unfolding sixel_area
sixel-visible p a g e t = sym (cond_yes _ _ (sym e ∙ t))

-- ---- what an area that is needed has

-- an area grown to a size that has room
pub record Roomy (a : VisibleArea) (g : Ground) (w h : ℕ) : Type 0 where
  pub wider : a.width ≤ w
  pub higher : a.height ≤ h
  pub width : w ≤ g.stride
  pub height : h ≤ g.rows

-- an area that is had is one, with its width and its height
same-area : {a : VisibleArea} {w h : ℕ} → Ok a ≡ sized w h → (a.width ≡ w) × (a.height ≡ h)
same-area {a} {w} {h} e =
    let k : ◌≡◌ {A = VisibleArea} a (record { width = w; height = h }) = cc in
    (ap (λ (x : VisibleArea). x.width) k, ap (λ (x : VisibleArea). x.height) k)

refused-area : {r : Refusal} {w h : ℕ} → Err r ≡ sized w h → ⊥
refused-area e = let z : ◌≡◌ {A = ℕ} 0 1 = cc in omega arith

room-area : (g : Ground) (wide high w h : ℕ) → room_for g wide high ≡ sized w h
    → (wide ≡ w) × (high ≡ h) × (wide ≤ g.stride) × (high ≤ g.rows) × (wide * high ≤ g.limits.pixels)
unfolding room_for
room-area g wide high w h e =
    by-test (ltb g.limits.pixels (wide * high))
    (λ t. absurd (refused-area (sym (cond_yes _ _ t) ∙ e)))
    (λ t. by-test (ltb g.stride wide)
    (λ u. absurd (refused-area (sym (cond_no _ _ t ∙ cond_yes _ _ u) ∙ e)))
    (λ u. by-test (ltb g.rows high)
    (λ v. absurd (refused-area (sym (cond_no _ _ t ∙ cond_no _ _ u ∙ cond_yes _ _ v) ∙ e)))
    (λ v. let k = same-area (sym (cond_no _ _ t ∙ cond_no _ _ u ∙ cond_no _ _ v) ∙ e) in
    (k.0, k.1, ltb-false _ _ u, ltb-false _ _ v, ltb-false _ _ t))))

pub grown-roomy : (a : VisibleArea) (g : Ground) (x y w h : ℕ) → grown_area a g x y ≡ sized w h → Roomy a g w h × (x ≤ w) × (y ≤ h)
unfolding grown_area
grown-roomy a g x y w h e =
    let k = room-area g (max a.width x) (max a.height y) w h e in
    let p : max a.width x ≡ w = k.0 in
    let q : max a.height y ≡ h = k.1 in
    (record { wider = omega arith; higher = omega arith; width = omega (arith, k.2); height = omega (arith, k.3) }, omega arith, omega arith)

pub raster-roomy : (a : VisibleArea) (g : Ground) (x y w h : ℕ) → raster_area a g x y ≡ sized w h → Roomy a g w h
unfolding raster_area
raster-roomy a g x y w h e =
    by-test (ltb g.limits.width x)
    (λ t. absurd (refused-area (sym (cond_yes _ _ t) ∙ e)))
    (λ t. by-test (ltb g.limits.height y)
    (λ u. absurd (refused-area (sym (cond_no _ _ t ∙ cond_yes _ _ u) ∙ e)))
    (λ u. (grown-roomy a g x y w h (sym (cond_no _ _ t ∙ cond_no _ _ u) ∙ e)).0))

-- the next sixel's area has room, and the sixel in it
pub sixel-roomy : (p : Pen) (a : VisibleArea) (g : Ground) (w h : ℕ) → a.width ≤ g.stride → a.height ≤ g.rows → sixel_area p a g ≡ sized w h
    → Roomy a g w h × (p.column + p.repeat ≤ w) × (p.row + 6 ≤ h)
unfolding sixel_area
sixel-roomy p a g w h aw ah e =
    by-test (ends p a.width a.height)
    (λ t. let k = same-area (sym (cond_yes _ _ t) ∙ e) in
    let x : a.width ≡ w = k.0 in
    let y : a.height ≡ h = k.1 in (
      record { wider = omega arith; higher = omega arith; width = omega arith; height = omega arith },
      omega (arith, ends-columns p a.width a.height refl t),
      omega (arith, ends-rows p a.width a.height refl t),
    ))
    (λ t. by-test (ends p g.limits.width g.limits.height)
    (λ u. grown-roomy a g (p.column + p.repeat) (p.row + 6) w h (sym (cond_no _ _ t ∙ cond_yes _ _ u) ∙ e))
    (λ u. absurd (refused-area (sym (cond_no _ _ t ∙ cond_no _ _ u) ∙ e))))

-- ---- a part of a sixel's columns

-- the area that is needed reaches just so far
pub sixel-reach : (p : Pen) (a : VisibleArea) (g : Ground) (w h : ℕ) → sixel_area p a g ≡ sized w h
    → (w ≡ max a.width (p.column + p.repeat)) × (h ≡ max a.height (p.row + 6))
unfolding sixel_area grown_area
sixel-reach p a g w h e =
    by-test (ends p a.width a.height)
    (λ t. let k = same-area (sym (cond_yes _ _ t) ∙ e) in
    let x : a.width ≡ w = k.0 in
    let y : a.height ≡ h = k.1 in
    (omega (arith, ends-columns p a.width a.height refl t), omega (arith, ends-rows p a.width a.height refl t)))
    (λ t. by-test (ends p g.limits.width g.limits.height)
    (λ u. let k = room-area g (max a.width (p.column + p.repeat)) (max a.height (p.row + 6)) w h (sym (cond_no _ _ t ∙ cond_yes _ _ u) ∙ e) in
    (sym k.0, sym k.1))
    (λ u. absurd (refused-area (sym (cond_no _ _ t ∙ cond_no _ _ u) ∙ e))))

-- where an area is had for a sixel, one is had on the way there for a part of its columns
pub sixel-part : (p q : Pen) (a b : VisibleArea) (g : Ground) (w h : ℕ) → sixel_area p a g ≡ sized w h → q.row ≡ p.row
    → q.column + q.repeat ≤ p.column + p.repeat
    → a.width ≤ b.width → b.width ≤ w → a.height ≤ b.height → b.height ≤ h
    → sixel_area q b g ≡ sized (max b.width (q.column + q.repeat)) (max b.height (q.row + 6))
unfolding sixel_area grown_area room_for
sixel-part p q a b g w h e row columns w₁ w₂ h₁ h₂ =
    by-test (ends q b.width b.height)
    (λ t. cond_yes _ _ t
    ∙ ap₂ sized (omega (arith, ends-columns q b.width b.height refl t)) (omega (arith, ends-rows q b.width b.height refl t)))
    (λ t. by-test (ends p a.width a.height)
    (λ u. let x : q.column + q.repeat ≤ b.width = omega (arith, ends-columns p a.width a.height refl u) in
    let y : q.row + 6 ≤ b.height = omega (arith, ends-rows p a.width a.height refl u) in
    absurd (true≢false (sym (and_both (le-leb _ _ x) (le-leb _ _ y)) ∙ t)))
    (λ u. by-test (ends p g.limits.width g.limits.height)
    (λ v. let k = room-area g (max a.width (p.column + p.repeat)) (max a.height (p.row + 6)) w h (sym (cond_no _ _ u ∙ cond_yes _ _ v) ∙ e) in
    let wide : max b.width (q.column + q.repeat) ≤ max a.width (p.column + p.repeat) = omega (arith, k.0) in
    let high : max b.height (q.row + 6) ≤ max a.height (p.row + 6) = omega (arith, k.1) in
    let x : q.column + q.repeat ≤ g.limits.width = omega (arith, ends-columns p g.limits.width g.limits.height refl v) in
    let y : q.row + 6 ≤ g.limits.height = omega (arith, ends-rows p g.limits.width g.limits.height refl v) in
    let few : max b.width (q.column + q.repeat) * max b.height (q.row + 6) ≤ g.limits.pixels = le_trans (mul-le-mul wide high) k.4 in
    let wide' : max b.width (q.column + q.repeat) ≤ g.stride = omega (arith, k.2) in
    let high' : max b.height (q.row + 6) ≤ g.rows = omega (arith, k.3) in
    cond_no _ _ t
    ∙ cond_yes _ _ (and_both (le-leb _ _ x) (le-leb _ _ y))
    ∙ cond_no _ _ (le-ltb _ _ few)
    ∙ cond_no _ _ (le-ltb _ _ wide')
    ∙ cond_no _ _ (le-ltb _ _ high'))
    (λ v. absurd (refused-area (sym (cond_no _ _ u ∙ cond_no _ _ v) ∙ e)))))
