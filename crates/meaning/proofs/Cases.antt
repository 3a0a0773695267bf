-- Tests and options, case by case.
use Prim.Native.Nat.{ℕ, ◌≤◌}
use mathlib.Core.Path.{◌≡◌, refl}
use mathlib.Core.Bool.{Bool, true, false, cond, ◌&&◌, ◌||◌, and-eq-true_iff, true≢false}
use mathlib.Core.Option.{Option, none, some}
use borrow.Author.Tests.{ltb-false}
use lib.Dec.{ltb}

-- both cases of a test
pub cond-case : {A : Type 0} (P : A → Type 0) (t : Bool) {x y : A} → (t ≡ true → P x) → (t ≡ false → P y) → P (cond t x y)
cond-case P true f g = f refl
cond-case P false f g = g refl

-- a function goes into a test
pub cond_map : {A B : Type 0} (f : A → B) (c : Bool) (x y : A) → f (cond c x y) ≡ cond c (f x) (f y)
cond_map f true x y = refl
cond_map f false x y = refl

-- a test that fails
pub cond_no : {A : Type 0} (c : Bool) (x y : A) → c ≡ false → cond c x y ≡ y
cond_no true x y e = cc
cond_no false x y e = refl

-- both cases of a refusal that may be
pub option-case : {A : Type 0} (P : A → Type 0) (o : Option ℕ) {x : A} {f : ℕ → A} → (o ≡ none → P x) → ((n : ℕ) → o ≡ some n → P (f n))
    → P (elim o [ none ↦ x | some n ↦ f n ])
option-case P none f g = f refl
option-case P (some n) f g = g n refl

-- neither of two tests holds
pub neither : (a b : Bool) → (a || b) ≡ false → (a ≡ false) × (b ≡ false)
neither true b e = absurd (true≢false e)
neither false b e = (refl, e)

-- neither of two numbers is exceeded
pub neither-exceeds : (m a n b : ℕ) → (ltb m a || ltb n b) ≡ false → (a ≤ m) × (b ≤ n)
neither-exceeds m a n b e =
    let p : (ltb m a ≡ false) × (ltb n b ≡ false) = neither (ltb m a) (ltb n b) e in
    (ltb-false m a p.0, ltb-false n b p.1)

-- both of two tests hold
pub both : (a b : Bool) → (a && b) ≡ true → (a ≡ true) × (b ≡ true)
both a b = (and-eq-true_iff a b).0

-- and together they are one that holds
pub and_both : (a b : Bool) → a ≡ true → b ≡ true → (a && b) ≡ true
and_both a b p q = (and-eq-true_iff a b).1 (p, q)
