-- 12 and 14 of a copy are given exactly when rules 10.1 and 10.2 say, and then the other buffer stays as it was.
use Prim.Native.Nat.{ℕ, ◌*◌, ◌≤◌, ◌<◌}
use mathlib.Core.Bool.{Bool, true, false, cond}
use mathlib.Core.List.{List, ◌++◌}
use mathlib.Core.Logic.{◌↔◌}
use mathlib.Core.Path.{◌≡◌, refl, sym, ap, ◌∙◌}
use native.Mathlib.Omega.{arith}
use lib.Dec.{leb}
use lib.ListN.{length, drop}
use Rattle.canvas.specs.Copy.{number_of, has_picture, packed, size_of, copied}
use Rattle.canvas.specs.Picture.{Area, rows_of, fits}
use Rattle.std.specs.Prelude.{Result, Ok, Err}
use Rattle.canvas.specs.declared.Uncopied.{Uncopied}
use Rattle.canvas.specs.declared.Uncopied.TheVariants.{Misfit, Short}
use Rattle.promises.proofs.Choices.{Tells, tells-less, tells-most, tells-and, later-case, only-case}

-- neither the stride nor the size is 0, and the canvas has room for the size
abbrev pub HasPicture : ℕ → ℕ → Area → Type 0
HasPicture stride size area =
    (0 < stride) × ((0 < area.width) × ((0 < area.height) × ((area.width ≤ stride) × (area.height ≤ rows_of size stride))))

pub tells-picture : (stride size : ℕ) (area : Area) → Tells (has_picture stride size area) (HasPicture stride size area)
unfolding has_picture fits
tells-picture stride size area =
    tells-and (tells-less 0 _) (tells-and (tells-less 0 _) (tells-and (tells-less 0 _) (tells-and (tells-most _ _) (tells-most _ _))))

module _ (stride : ℕ) (area : Area) (canvas out : List ℕ) where
  outcome : Bool → Bool → List ℕ → ℕ × List ℕ
  outcome t u xs = cond t (cond u (0, xs) (14, out)) (12, out)

  numbered : (t u : Bool) (xs : List ℕ) → (outcome t u xs).0 ≡ cond t (cond u 0 14) 12
  unfolding outcome
  numbered true true xs = refl
  numbered true false xs = refl
  numbered false u xs = refl

  kept : (t u : Bool) (xs : List ℕ) → ¬ ((outcome t u xs).0 ≡ 0) → (outcome t u xs).1 ≡ out
  unfolding outcome
  kept true true xs no_zero = absurd (no_zero refl)
  kept true false xs no_zero = refl
  kept false u xs no_zero = refl

  by_tests : (copied stride area canvas out).0
      ≡ cond (has_picture stride (length canvas) area) (cond (leb (size_of area) (length out)) 0 14) 12
  unfolding copied outcome
  by_tests =
      numbered (has_picture stride (length canvas) area) (leb (size_of area) (length out))
      (packed stride area.width area.height canvas ++ drop (size_of area) out)

  -- 12 is given exactly when the stride or the size is 0, or the size does not fit the canvas.
  pub copy-twelve : ((copied stride area canvas out).0 ≡ 12) ↔ (¬ HasPicture stride (length canvas) area)
  copy-twelve = (λ e. (k.0 (sym by_tests ∙ e)).0, λ h. by_tests ∙ k.1 (h, tt))
    where
      not-twelve : (u : Bool) → ◌≡◌ {A = ℕ} (cond u 0 14) 12 → ⊥
      not-twelve true e = omega arith
      not-twelve false e = omega arith

      k : ◌≡◌ {A = ℕ} (cond (has_picture stride (length canvas) area) (cond (leb (size_of area) (length out)) 0 14) 12) 12
          ↔ ((¬ HasPicture stride (length canvas) area) × Unit {0})
      k = later-case (tells-picture stride (length canvas) area) (not-twelve (leb (size_of area) (length out))) (λ e. tt, λ h. refl)

  -- 14 is given exactly when there is such a picture, and the buffer is shorter than 4 x width x height.
  pub copy-fourteen : ((copied stride area canvas out).0 ≡ 14)
      ↔ (HasPicture stride (length canvas) area × (length out < 4 * (area.width * area.height)))
  unfolding size_of
  copy-fourteen =
      (λ e. let h = k.0 (sym by_tests ∙ e) in (h.0, omega (arith, h.1.0)), λ h. by_tests ∙ k.1 (h.0, (λ q. omega arith, tt)))
    where
      k : ◌≡◌ {A = ℕ} (cond (has_picture stride (length canvas) area) (cond (leb (size_of area) (length out)) 0 14) 12) 14
          ↔ (HasPicture stride (length canvas) area × ((¬ (size_of area ≤ length out)) × Unit {0}))
      k =
          only-case (tells-picture stride (length canvas) area) (λ e. omega arith)
          (later-case (tells-most _ _) (λ e. omega arith) (λ e. tt, λ h. refl))

  -- A refused copy writes nothing.
  pub copy-keeps : ¬ ((copied stride area canvas out).0 ≡ 0) → (copied stride area canvas out).1 ≡ out
  unfolding copied outcome
  copy-keeps =
      kept (has_picture stride (length canvas) area) (leb (size_of area) (length out))
      (packed stride area.width area.height canvas ++ drop (size_of area) out)

  -- ---- of the code: its answer and what the buffer holds then are the definition's

  module _ (x : Result (Unit {0}) Uncopied) (l : List ℕ) (e : let a : ℕ × List ℕ = (number_of x, l) in a ≡ copied stride area canvas out) where
    named : number_of x ≡ (copied stride area canvas out).0
    named = ap (λ (a : ℕ × List ℕ). a.0) e

    misfit-number : (y : Result (Unit {0}) Uncopied) → (y ≡ Err Misfit) ↔ (number_of y ≡ 12)
    unfolding number_of
    misfit-number (Ok _) = (λ q. let never : ◌≡◌ {A = ℕ} 0 1 = cc in absurd (omega arith), λ q. absurd (omega arith))
    misfit-number (Err Misfit) = (λ q. refl, λ q. refl)
    misfit-number (Err Short) = (λ q. let never : ◌≡◌ {A = ℕ} 0 1 = cc in absurd (omega arith), λ q. absurd (omega arith))

    short-number : (y : Result (Unit {0}) Uncopied) → (y ≡ Err Short) ↔ (number_of y ≡ 14)
    unfolding number_of
    short-number (Ok _) = (λ q. let never : ◌≡◌ {A = ℕ} 0 1 = cc in absurd (omega arith), λ q. absurd (omega arith))
    short-number (Err Misfit) = (λ q. let never : ◌≡◌ {A = ℕ} 0 1 = cc in absurd (omega arith), λ q. absurd (omega arith))
    short-number (Err Short) = (λ q. refl, λ q. refl)

    done-number : (y : Result (Unit {0}) Uncopied) → number_of y ≡ 0 → y ≡ Ok tt
    unfolding number_of
    done-number (Ok _) q = refl
    done-number (Err Misfit) q = absurd (omega arith)
    done-number (Err Short) q = absurd (omega arith)

    -- 12 and 14 of the code, and the buffer after them
    pub copy-misfit : (x ≡ Err Misfit) ↔ (¬ HasPicture stride (length canvas) area)
    copy-misfit = (λ q. copy-twelve.0 (sym named ∙ (misfit-number x).0 q), λ h. (misfit-number x).1 (named ∙ copy-twelve.1 h))

    pub copy-short : (x ≡ Err Short) ↔ (HasPicture stride (length canvas) area × (length out < 4 * (area.width * area.height)))
    copy-short = (λ q. copy-fourteen.0 (sym named ∙ (short-number x).0 q), λ h. (short-number x).1 (named ∙ copy-fourteen.1 h))

    pub copy-unwritten : ¬ (x ≡ Ok tt) → l ≡ out
    copy-unwritten other = ap (λ (a : ℕ × List ℕ). a.1) e ∙ copy-keeps (λ q. other (done-number x (named ∙ q)))
