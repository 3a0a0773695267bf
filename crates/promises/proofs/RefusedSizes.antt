-- 5, 6 and 7 of one size, in this order: given exactly when rule 4.2 says.
use Prim.Native.Nat.{ℕ, ◌<◌}
use mathlib.Core.Bool.{Bool, true, false, cond, ◌||◌}
use mathlib.Core.Logic.{◌↔◌, ◌⊎◌}
use mathlib.Core.Option.{Option, none, some}
use mathlib.Core.Path.{◌≡◌}
use native.Mathlib.Omega.{arith}
use lib.Dec.{ltb}
use Rattle.canvas.specs.Picture.{Area, grown_to}
use Rattle.meaning.specs.Drawing.{Setting, pixels_of, size_refusal}
use Rattle.promises.proofs.Choices.{apart, Tells, tells-less, tells-or, first-case, later-case}

-- the size exceeds W or H
abbrev pub AboveLimits : Setting → Area → Type 0
AboveLimits s x = (s.limits.width < x.width) ⊎ (s.limits.height < x.height)

-- the visible area, grown to the size, would exceed M pixels
abbrev pub AbovePixels : Setting → Area → Area → Type 0
AbovePixels s a x = s.limits.pixels < pixels_of (grown_to a x.width x.height)

-- the width is above the stride, or the height above the rows
abbrev pub AboveRoom : Setting → Area → Type 0
AboveRoom s x = (s.stride < x.width) ⊎ (s.rows < x.height)

-- in their order: 6 where it is not 5, 7 where it is neither
abbrev pub SixNotFive : Setting → Area → Area → Type 0
SixNotFive s a x = (¬ AboveLimits s x) × AbovePixels s a x

abbrev pub SevenNotSix : Setting → Area → Area → Type 0
SevenNotSix s a x = (¬ AboveLimits s x) × ((¬ AbovePixels s a x) × AboveRoom s x)

module _ (s : Setting) (a x : Area) where
  limits-tell : Tells (ltb s.limits.width x.width || ltb s.limits.height x.height) (AboveLimits s x)
  limits-tell = tells-or (tells-less _ _) (tells-less _ _)

  pixels-tell : Tells (ltb s.limits.pixels (pixels_of (grown_to a x.width x.height))) (AbovePixels s a x)
  pixels-tell = tells-less _ _

  room-tells : Tells (ltb s.stride x.width || ltb s.rows x.height) (AboveRoom s x)
  room-tells = tells-or (tells-less _ _) (tells-less _ _)

  -- what a size is refused with
  abbrev pub refusal_of : Option ℕ
  refusal_of = size_refusal s a x.width x.height

  -- 5: above W or H
  pub size-five : (refusal_of ≡ some 5) ↔ AboveLimits s x
  unfolding size_refusal
  size-five = first-case limits-tell (λ e. go (ltb s.limits.pixels _) (ltb s.stride x.width || ltb s.rows x.height) e)
    where
      go : (t u : Bool) → ◌≡◌ {A = Option ℕ} (cond t (some 6) (cond u (some 7) none)) (some 5) → ⊥
      go true u e = apart (λ q. omega arith) e
      go false true e = apart (λ q. omega arith) e
      go false false e = let never : ◌≡◌ {A = ℕ} 0 1 = cc in omega arith

  -- 6: not that, and the visible area would exceed M
  pub size-six : (refusal_of ≡ some 6) ↔ SixNotFive s a x
  unfolding size_refusal
  size-six =
      later-case limits-tell (apart (λ q. omega arith))
      (first-case pixels-tell (λ e. go (ltb s.stride x.width || ltb s.rows x.height) e))
    where
      go : (u : Bool) → ◌≡◌ {A = Option ℕ} (cond u (some 7) none) (some 6) → ⊥
      go true e = apart (λ q. omega arith) e
      go false e = let never : ◌≡◌ {A = ℕ} 0 1 = cc in omega arith

  -- 7: neither, and it is above the stride or the rows
  pub size-seven : (refusal_of ≡ some 7) ↔ SevenNotSix s a x
  unfolding size_refusal
  size-seven =
      later-case limits-tell (apart (λ q. omega arith))
      (later-case pixels-tell (apart (λ q. omega arith)) (first-case room-tells (λ e. let never : ◌≡◌ {A = ℕ} 0 1 = cc in omega arith)))

  -- and no other number
  pub size-numbers : {n : ℕ} → refusal_of ≡ some n → n ≡ 4 → ⊥
  unfolding size_refusal
  size-numbers {n} e q =
      go (ltb s.limits.width x.width || ltb s.limits.height x.height) (ltb s.limits.pixels _)
      (ltb s.stride x.width || ltb s.rows x.height) e
    where
      go : (t u v : Bool) → ◌≡◌ {A = Option ℕ} (cond t (some 5) (cond u (some 6) (cond v (some 7) none))) (some n) → ⊥
      go true u v e = apart (λ r. omega arith) e
      go false true v e = apart (λ r. omega arith) e
      go false false true e = apart (λ r. omega arith) e
      go false false false e = let never : ◌≡◌ {A = ℕ} 0 1 = cc in omega arith
