-- What other proofs cite: what a test tells of a byte, what it picks, and what storing a number comes to.
use Prim.Native.Nat.{ℕ, ◌≤◌, ◌<◌}
use mathlib.Core.Bool.{Bool, true, false, ◌&&◌, cond}
use mathlib.Core.Path.{◌≡◌, refl, sym, ap, ap₂}
use borrow.Author.Tests.{lt-ltb, le-ltb, le-leb, lt-leb, eq-eqb, ne_eqb, leb-true}
use lib.Dec.{leb, ltb}
use Rattle.numbers.specs.Bytes.{digit}
use Rattle.numbers.specs.Step.{emptied, filled, stored}
use Rattle.numbers.specs.declared.Parameters.{Parameters}

-- a test's value, from the fact that it tells
pub ruleset tests = (lt-ltb, le-ltb, le-leb, lt-leb, eq-eqb, ne_eqb)

-- what a test picks
pub cond_yes {ℓ} : {A : Type ℓ} {t : Bool} (x y : A) → t ≡ true → cond t x y ≡ x
cond_yes x y e = ap (λ (s : Bool). cond s x y) e

pub cond_no {ℓ} : {A : Type ℓ} {t : Bool} (x y : A) → t ≡ false → cond t x y ≡ y
cond_no x y e = ap (λ (s : Bool). cond s x y) e

-- ---- a digit

both : (s t : Bool) → (s && t) ≡ true → (s ≡ true) × (t ≡ true)
both true t h = (refl, h)
both false t h = (h, cc)

pub digit-least : (b : ℕ) → digit b ≡ true → 0x30 ≤ b
unfolding digit
digit-least b e = leb-true 0x30 b (both (leb 0x30 b) (leb b 0x39) e).0

pub digit-top : (b : ℕ) → digit b ≡ true → b ≤ 0x39
unfolding digit
digit-top b e = leb-true b 0x39 (both (leb 0x30 b) (leb b 0x39) e).1

-- ---- storing a number

pub store-full : (p : Parameters) → p.places ≤ p.count → emptied p ≡ stored p
unfolding stored
store-full p h = sym (cond_no _ _ (ap (λ (t : Bool). t && ltb p.count 5) (le-ltb _ _ h)))

pub store-room : (p : Parameters) → p.count < p.places → p.count < 5 → filled p ≡ stored p
unfolding stored
store-room p g h = sym (cond_yes _ _ (ap₂ ◌&&◌ (lt-ltb _ _ g) (lt-ltb _ _ h)))
