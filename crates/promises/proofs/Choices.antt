-- What tests tell, and which case of a choice was taken: the tools for "given exactly when" (rule 5.1).
use Prim.Native.Nat.{ℕ, ◌≤◌, ◌<◌}
use native.Mathlib.Omega.{arith}
use mathlib.Core.Bool.{Bool, true, false, cond, not, ◌&&◌, ◌||◌, true≢false}
use mathlib.Core.Logic.{◌↔◌, ◌⊎◌, inl, inr}
use mathlib.Core.Option.{none, some}
use mathlib.Core.Path.{◌≡◌, refl, sym, ap, ◌∙◌}
use borrow.Author.Tests.{ltb-true, leb-true, eqb-true, lt-ltb, le-leb, eq-eqb}
use lib.Dec.{leb, ltb, eqb}

-- a test holds exactly when a fact does
abbrev pub Tells : Bool → Type 0 → Type 0
Tells t T = (t ≡ true) ↔ T

-- and fails exactly when the fact does not hold
pub tells-fails : {t : Bool} {T : Type 0} → Tells t T → (t ≡ false) ↔ (¬ T)
tells-fails {t} {T} k = (λ e h. true≢false (sym (k.1 h) ∙ e), λ never. go t (λ e. never (k.0 e)))
  where
    go : (u : Bool) → (u ≡ true → ⊥) → u ≡ false
    go true never = absurd (never refl)
    go false never = refl

pub tells-itself : {t : Bool} → Tells t (t ≡ true)
tells-itself = (λ e. e, λ e. e)

pub tells-less : (m n : ℕ) → Tells (ltb m n) (m < n)
tells-less m n = (ltb-true m n, lt-ltb m n)

pub tells-most : (m n : ℕ) → Tells (leb m n) (m ≤ n)
tells-most m n = (leb-true m n, le-leb m n)

pub tells-equal : (m n : ℕ) → Tells (eqb m n) (m ≡ n)
tells-equal m n = (eqb-true m n, eq-eqb m n)

pub tells-not : {t : Bool} {T : Type 0} → Tells t T → Tells (not t) (¬ T)
tells-not {t} {T} k = (λ e. (tells-fails k).0 (go t e), λ never. ap not ((tells-fails k).1 never))
  where
    go : (u : Bool) → not u ≡ true → u ≡ false
    go true e = sym e
    go false e = refl

pub tells-or : {t u : Bool} {T U : Type 0} → Tells t T → Tells u U → Tells (t || u) (T ⊎ U)
tells-or {t} {u} {T} {U} k l = (to t k.0, from)
  where
    to : (v : Bool) → (v ≡ true → T) → (v || u) ≡ true → T ⊎ U
    to true h e = inl (h refl)
    to false h e = inr (l.0 e)

    right : (v w : Bool) → w ≡ true → (v || w) ≡ true
    right true w e = refl
    right false w e = e

    from : T ⊎ U → (t || u) ≡ true
    from (inl h) = ap (λ (v : Bool). v || u) (k.1 h)
    from (inr h) = right t u (l.1 h)

pub tells-and : {t u : Bool} {T U : Type 0} → Tells t T → Tells u U → Tells (t && u) (T × U)
tells-and {t} {u} {T} {U} k l = (to t k.0, λ h. ap (λ (v : Bool). v && u) (k.1 h.0) ∙ l.1 h.1)
  where
    to : (v : Bool) → (v ≡ true → T) → (v && u) ≡ true → T × U
    to true h e = (h refl, l.0 e)
    to false h e = absurd (true≢false (sym e))

module _ {A : Type 0} {t : Bool} {T : Type 0} (k : Tells t T) where
  -- the first of two cases, where the other is not it
  pub first-case : {x y : A} → (y ≡ x → ⊥) → (cond t x y ≡ x) ↔ T
  first-case {x} {y} other = (λ e. k.0 (go t e), λ h. ap (λ (u : Bool). cond u x y) (k.1 h))
    where
      go : (u : Bool) → cond u x y ≡ x → u ≡ true
      go true e = refl
      go false e = absurd (other e)

  -- something else than the first case: the test fails, and it is what the other case is
  pub later-case : {x y z : A} {U : Type 0} → (x ≡ z → ⊥) → (y ≡ z) ↔ U → (cond t x y ≡ z) ↔ ((¬ T) × U)
  later-case {x} {y} {z} {U} first rest = (λ e. go t refl e, λ h. ap (λ (u : Bool). cond u x y) ((tells-fails k).1 h.0) ∙ rest.1 h.1)
    where
      go : (u : Bool) → t ≡ u → cond u x y ≡ z → (¬ T) × U
      go true q e = absurd (first e)
      go false q e = ((tells-fails k).0 q, rest.0 e)

  -- both cases, each by what it is
  pub either-case : {x y z : A} {X Y : Type 0} → (x ≡ z) ↔ X → (y ≡ z) ↔ Y → (cond t x y ≡ z) ↔ ((T × X) ⊎ ((¬ T) × Y))
  either-case {x} {y} {z} {X} {Y} k₁ k₂ = (λ e. to t refl e, from)
    where
      to : (u : Bool) → t ≡ u → cond u x y ≡ z → (T × X) ⊎ ((¬ T) × Y)
      to true q e = inl (k.0 q, k₁.0 e)
      to false q e = inr ((tells-fails k).0 q, k₂.0 e)

      from : (T × X) ⊎ ((¬ T) × Y) → cond t x y ≡ z
      from (inl h) = ap (λ (u : Bool). cond u x y) (k.1 h.0) ∙ k₁.1 h.1
      from (inr h) = ap (λ (u : Bool). cond u x y) ((tells-fails k).1 h.0) ∙ k₂.1 h.1

  -- something else than the second case: the test holds, and it is what the first case is
  pub only-case : {x y z : A} {U : Type 0} → ¬ (y ≡ z) → (x ≡ z) ↔ U → (cond t x y ≡ z) ↔ (T × U)
  only-case {x} {y} {z} {U} other k₁ = (λ e. go t refl e, λ h. ap (λ (u : Bool). cond u x y) (k.1 h.0) ∙ k₁.1 h.1)
    where
      go : (u : Bool) → t ≡ u → cond u x y ≡ z → T × U
      go true q e = (k.0 q, k₁.0 e)
      go false q e = absurd (other e)

-- ---- numbers that may be

-- two that differ
pub apart : {m n : ℕ} → ¬ (m ≡ n) → some m ≡ some n → ⊥
apart differ e = differ (cc)

-- one and none
pub none-some : {n : ℕ} {X : Type 0} → none ≡ some n → X
none-some e = let never : ◌≡◌ {A = ℕ} 0 1 = cc in absurd (omega arith)
