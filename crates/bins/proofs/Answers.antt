-- Laws of the answers: when a setting fits, and which of 12, 15, 16 or what is told a question comes to.
-- Assumes nothing.
use mathlib.Core.Path.{◌≡◌, refl, sym, ap, ◌∙◌}
use mathlib.Core.Bool.{Bool, true, false, ◌&&◌}
use mathlib.Core.Logic.{◌↔◌}
use mathlib.Core.Option.{none, some}
use Prim.Native.Nat.{ℕ, ◌+◌, ◌-◌, ◌*◌, ◌/◌, ◌≤◌, ◌<◌}
use native.Mathlib.Nat.{mul-le-mul_right, le-div_iff_mul-le}
use native.Mathlib.Omega.{arith}
use lib.Dec.{leb}
use borrow.Author.Tests.{leb-true, le-leb}
use Rattle.canvas.proofs.Covers.{and_left, and_right, and_both, by-test, same_test}
use Rattle.bins.specs.declared.Shape.{Shape}
use Rattle.bins.specs.declared.Setting.{Setting}
use Rattle.bins.specs.Bins.{Answer, told, refused, picture_fits, setting_fits, answered}
use Rattle.bins.specs.Facts.{Accepted}
use Rattle.bins.specs.Told.{judgement}

-- ---- when a setting fits

module _ (s : Setting) (width : ℕ) where
  pub fits_all : 1 ≤ s.width → 1 ≤ s.count → s.count ≤ 512 → s.origin + s.count * s.width ≤ width → setting_fits s width ≡ true
  unfolding setting_fits
  fits_all a b c d = and_both (le-leb _ _ a) (and_both (le-leb _ _ b) (and_both (le-leb _ _ c) (le-leb _ _ d)))

  module _ (t : setting_fits s width ≡ true) where
    pub fits_width : 1 ≤ s.width
    unfolding setting_fits
    fits_width = leb-true _ _ (and_left _ _ t)

    counted : (leb 1 s.count && (leb s.count 512 && leb (s.origin + s.count * s.width) width)) ≡ true
    unfolding setting_fits
    counted = and_right (leb 1 s.width) _ t

    bounded : (leb s.count 512 && leb (s.origin + s.count * s.width) width) ≡ true
    bounded = and_right (leb 1 s.count) _ counted

    pub fits_last : s.origin + s.count * s.width ≤ width
    fits_last = leb-true _ _ (and_right (leb s.count 512) _ bounded)

    -- so the columns of each bin lie in the picture
    pub fits-bin : (bin : ℕ) → bin < s.count → s.origin + bin * s.width + s.width ≤ width
    fits-bin bin h =
        let next : bin + 1 ≤ s.count = omega arith in
        omega (arith, mul-le-mul_right s.width next, fits_last)

-- the last test alone, where the others held: no product is formed
pub fits-divided : (s : Setting) (width quotient : ℕ) → quotient ≡ (width - s.origin) / s.width → 1 ≤ s.width → 1 ≤ s.count → s.count ≤ 512
    → s.origin ≤ width → leb s.count quotient ≡ setting_fits s width
fits-divided s width quotient at a b c d =
    ap (leb s.count) at
    ∙ same_test _ _
    (λ t.
    let product : s.count * s.width ≤ width - s.origin = (le-div_iff_mul-le a).0 (leb-true _ _ t) in
    fits_all s width a b c (omega arith))
    (λ t.
    let product : s.count * s.width ≤ width - s.origin = omega (arith, fits_last s width t) in
    le-leb _ _ ((le-div_iff_mul-le a).1 product))

-- ---- what a question comes to

module _ {A : Type 0} (p : Shape) (n : ℕ) (s : Setting) (inside : Bool) (a : A) where
  answered-twelve : picture_fits p n ≡ false → answered p n s inside a ≡ refused 12
  unfolding answered
  answered-twelve e = rw e refl

  module _ (e : picture_fits p n ≡ true) where
    answered-fifteen : setting_fits s p.width ≡ false → answered p n s inside a ≡ refused 15
    unfolding answered
    answered-fifteen f = rw (e, f) refl

    module _ (f : setting_fits s p.width ≡ true) where
      answered-sixteen : inside ≡ false → answered p n s inside a ≡ refused 16
      unfolding answered
      answered-sixteen i = rw (e, f, i) refl

      answered-all : inside ≡ true → answered p n s inside a ≡ told a
      unfolding answered
      answered-all i = rw (e, f, i) refl

-- ---- what is judged beforehand

module _ (p : Shape) (n : ℕ) (s : Setting) where
  judged-twelve : picture_fits p n ≡ false → judgement p n s ≡ some 12
  unfolding judgement
  judged-twelve e = rw e refl

  judged-fifteen : picture_fits p n ≡ true → setting_fits s p.width ≡ false → judgement p n s ≡ some 15
  unfolding judgement
  judged-fifteen e f = rw (e, f) refl

  judged-none : picture_fits p n ≡ true → setting_fits s p.width ≡ true → judgement p n s ≡ none
  unfolding judgement
  judged-none e f = rw (e, f) refl

  -- nothing is refused beforehand
  fine-accepted : none ≡ judgement p n s → Accepted p n s
  fine-accepted e =
      by-test (picture_fits p n)
      (λ t.
      by-test (setting_fits s p.width)
      (λ u. record { picture = t; setting = u })
      (λ u. let clash : none ≡ some 15 = e ∙ judged-fifteen t u in let never : ◌≡◌ {A = ℕ} 0 1 = cc in absurd (omega arith)))
      (λ t. let clash : none ≡ some 12 = e ∙ judged-twelve t in let never : ◌≡◌ {A = ℕ} 0 1 = cc in absurd (omega arith))

  pub fine-setting : none ≡ judgement p n s → setting_fits s p.width ≡ true
  fine-setting e = (fine-accepted e).setting

module _ {A : Type 0} (p : Shape) (n : ℕ) (s : Setting) (inside : Bool) (a : A) where
  -- what is refused before the question is looked at
  pub answered-judged : (m : ℕ) → some m ≡ judgement p n s → refused m ≡ answered p n s inside a
  answered-judged m e =
      by-test (picture_fits p n)
      (λ t.
      by-test (setting_fits s p.width)
      (λ u. let clash : some m ≡ none = e ∙ judged-none p n s t u in let never : ◌≡◌ {A = ℕ} 0 1 = cc in absurd (omega arith))
      (λ u.
      let fifteen : some m ≡ some 15 = e ∙ judged-fifteen p n s t u in
      let same : m ≡ 15 = cc in
      ap refused same ∙ sym (answered-fifteen p n s inside a t u)))
      (λ t.
      let twelve : some m ≡ some 12 = e ∙ judged-twelve p n s t in
      let same : m ≡ 12 = cc in
      ap refused same ∙ sym (answered-twelve p n s inside a t))

  -- what is asked for lies outside the setting
  pub answered-outside : none ≡ judgement p n s → inside ≡ false → refused 16 ≡ answered p n s inside a
  answered-outside e out = let h = fine-accepted p n s e in sym (answered-sixteen p n s inside a h.picture h.setting out)

  -- or it is told
  pub answered-told : none ≡ judgement p n s → inside ≡ true → told a ≡ answered p n s inside a
  answered-told e within = let h = fine-accepted p n s e in sym (answered-all p n s inside a h.picture h.setting within)

-- ---- either way

-- by what the three tests say
by_tests : {P : Type 0} (p : Shape) (n : ℕ) (s : Setting) (inside : Bool) → (picture_fits p n ≡ false → P)
    → (picture_fits p n ≡ true → setting_fits s p.width ≡ false → P) → (Accepted p n s → inside ≡ false → P) → (Accepted p n s → inside ≡ true → P) → P
by_tests p n s inside twelve fifteen sixteen all =
    by-test (picture_fits p n)
    (λ t.
    by-test (setting_fits s p.width)
    (λ u. by-test inside (all (record { picture = t; setting = u })) (sixteen (record { picture = t; setting = u })))
    (fifteen t))
    twelve

-- A question is told something exactly when nothing refuses it.
pub told-exactly : {A : Type 0} (p : Shape) (n : ℕ) (s : Setting) (inside : Bool) (a b : A)
    → (answered p n s inside a ≡ told b) ↔ (Accepted p n s × (inside ≡ true) × (a ≡ b))
told-exactly {A} p n s inside a b = (
  λ e.
      by_tests p n s inside
      (λ t. absurd (refused-told (sym (answered-twelve p n s inside a t) ∙ e)))
      (λ t u. absurd (refused-told (sym (answered-fifteen p n s inside a t u) ∙ e)))
      (λ h i. absurd (refused-told (sym (answered-sixteen p n s inside a h.picture h.setting i) ∙ e)))
      (λ h i. (h, i, told_same (sym (answered-all p n s inside a h.picture h.setting i) ∙ e))),
  λ h. answered-all p n s inside a h.0.picture h.0.setting h.1 ∙ ap told h.2,
)
  where
    refused-told : {m : ℕ} → ◌≡◌ {A = Answer A} (refused m) (told b) → ⊥
    refused-told e = let never : ◌≡◌ {A = ℕ} 0 1 = cc in omega arith

    told_same : ◌≡◌ {A = Answer A} (told a) (told b) → a ≡ b
    told_same e = cc

-- A refusal does not hang on what would be told.
pub refused-alike : {A B : Type 0} (p : Shape) (n : ℕ) (s : Setting) (inside : Bool) (a : A) (b : B) (m : ℕ) → refused m ≡ answered p n s inside a
    → refused m ≡ answered p n s inside b
refused-alike {A} {B} p n s inside a b m e =
    by_tests p n s inside
    (λ t. ap refused (same (e ∙ answered-twelve p n s inside a t)) ∙ sym (answered-twelve p n s inside b t))
    (λ t u. ap refused (same (e ∙ answered-fifteen p n s inside a t u)) ∙ sym (answered-fifteen p n s inside b t u))
    (λ h i.
    ap refused (same (e ∙ answered-sixteen p n s inside a h.picture h.setting i)) ∙ sym (answered-sixteen p n s inside b h.picture h.setting i))
    (λ h i. absurd (refused-told (e ∙ answered-all p n s inside a h.picture h.setting i)))
  where
    same : {k : ℕ} → ◌≡◌ {A = Answer A} (refused m) (refused k) → m ≡ k
    same q = cc

    refused-told : ◌≡◌ {A = Answer A} (refused m) (told a) → ⊥
    refused-told q = let never : ◌≡◌ {A = ℕ} 0 1 = cc in omega arith
