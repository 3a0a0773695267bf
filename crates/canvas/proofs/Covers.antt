-- Laws of tests and covers: what a cover holds, as facts of numbers, and one pixel stored.
-- Assumes nothing.
use mathlib.Core.Path.{◌≡◌, refl, sym, ap, ◌∙◌}
use mathlib.Core.Bool.{Bool, true, false, cond, ◌&&◌, ◌||◌, true≢false}
use mathlib.Core.List.{List}
use Prim.Native.Nat.{ℕ, zero, suc, ◌+◌, ◌*◌, ◌/◌, ◌%◌, ◌≤◌, ◌<◌}
use native.Mathlib.Nat.{add-zero, not-suc-le-zero, le_of_suc-le-suc}
use native.Mathlib.Omega.{arith}
use lib.ListN.{length, get_or, set, length-set}
use lib.Seq.{ext_get_or, get_or-set_same, get_or-set_other}
use lib.Dec.{leb, ltb, lit<}
use borrow.Author.Tests.{ltb-true, ltb-false, leb-true, lt-ltb, le-leb}
use Rattle.canvas.specs.Picture.{span}
use Rattle.canvas.specs.Paint.{painted}
use Rattle.canvas.proofs.Bytes.{length-painted, get_or-painted, painted-both, painted-none}

-- ---- tests

pub and_left : (a b : Bool) → (a && b) ≡ true → a ≡ true
and_left true b h = refl
and_left false b h = h

pub and_right : (a b : Bool) → (a && b) ≡ true → b ≡ true
and_right true b h = h
and_right false b h = absurd (true≢false (sym h))

pub and_both : {a b : Bool} → a ≡ true → b ≡ true → (a && b) ≡ true
and_both {a} {b} p q = rw (p, q)

-- two tests that imply one another
pub same_test : (a b : Bool) → (a ≡ true → b ≡ true) → (b ≡ true → a ≡ true) → a ≡ b
same_test true true f g = refl
same_test true false f g = sym (f refl)
same_test false true f g = g refl
same_test false false f g = refl

-- a test that can't hold
pub no_test : (a : Bool) → (a ≡ true → ⊥) → a ≡ false
no_test true f = absurd (f refl)
no_test false f = refl

-- by what a test says
pub by-test {ℓ} : {P : Type ℓ} (a : Bool) → (a ≡ true → P) → (a ≡ false → P) → P
by-test true f g = f refl
by-test false f g = g refl

pub or_left : (a b : Bool) → a ≡ true → (a || b) ≡ true
or_left a b p = rw p

pub or_right : (a b : Bool) → b ≡ true → (a || b) ≡ true
or_right true b p = refl
or_right false b p = p

pub or_case {ℓ} : {P : Type ℓ} (a b : Bool) → (a || b) ≡ true → (a ≡ true → P) → (b ≡ true → P) → P
or_case true b h f g = f refl
or_case false b h f g = g h

-- one order or the other
pub split {ℓ} : {P : Type ℓ} (a b : ℕ) → (a < b → P) → (b ≤ a → P) → P
split a b f g = by-test (ltb a b) (λ t. f (ltb-true a b t)) (λ t. g (ltb-false a b t))

-- ---- spans

pub span-low : (a e p : ℕ) → span a e p ≡ true → a ≤ p
unfolding span
span-low a e p h = leb-true a p (and_left _ _ h)

pub span-high : (a e p : ℕ) → span a e p ≡ true → p < e
unfolding span
span-high a e p h = ltb-true p e (and_right (leb a p) _ h)

pub span-in : (a e p : ℕ) → a ≤ p → p < e → span a e p ≡ true
unfolding span
span-in a e p l h = and_both (le-leb a p l) (lt-ltb p e h)

pub span-empty : (a e p : ℕ) → e ≤ a → span a e p ≡ false
span-empty a e p h = no_test _ (λ s. omega (arith, span-low a e p s, span-high a e p s))

-- ---- one pixel stored, byte by byte

abbrev one : List ℕ → List ℕ → ℕ → List ℕ
one l px i = set l i (get_or px 0 0)

abbrev two : List ℕ → List ℕ → ℕ → List ℕ
two l px i = set (one l px i) (i + 1) (get_or px 1 0)

abbrev three : List ℕ → List ℕ → ℕ → List ℕ
three l px i = set (two l px i) (i + 2) (get_or px 2 0)

abbrev pub stored : List ℕ → List ℕ → ℕ → List ℕ
stored l px i = set (set (set (set l i (get_or px 0 0)) (i + 1) (get_or px 1 0)) (i + 2) (get_or px 2 0)) (i + 3) (get_or px 3 0)

by-four {ℓ} : (P : ℕ → Type ℓ) (r : ℕ) → r < 4 → P 0 → P 1 → P 2 → P 3 → P r
by-four P zero h a b c d = a
by-four P (suc zero) h a b c d = b
by-four P (suc (suc zero)) h a b c d = c
by-four P (suc (suc (suc zero))) h a b c d = d
by-four P (suc (suc (suc (suc r)))) h a b c d =
    absurd (not-suc-le-zero (le_of_suc-le-suc (le_of_suc-le-suc (le_of_suc-le-suc (le_of_suc-le-suc h)))))

-- at the pixel's own bytes
stored-own : (l px : List ℕ) (i : ℕ) → i + 3 < length l → (r : ℕ) → r < 4 → get_or (stored l px i) (i + r) 0 ≡ get_or px r 0
stored-own l px i h r hr =
    let long : i + 3 < length (three l px i) = simp length-set h in
    let long₂ : i + 2 < length (two l px i) = simp length-set (omega arith) in
    let long₁ : i + 1 < length (one l px i) = simp length-set (omega arith) in
    by-four (λ (r : ℕ). get_or (stored l px i) (i + r) 0 ≡ get_or px r 0) r hr
    (get_or-set_other (three l px i) (i + 3) (i + 0) (get_or px 3 0) 0 (λ e. omega arith)
    ∙ get_or-set_other (two l px i) (i + 2) (i + 0) (get_or px 2 0) 0 (λ e. omega arith)
    ∙ get_or-set_other (one l px i) (i + 1) (i + 0) (get_or px 1 0) 0 (λ e. omega arith)
    ∙ ap (λ (k : ℕ). get_or (one l px i) k 0) (add-zero i)
    ∙ get_or-set_same l i (get_or px 0 0) 0 (omega arith))
    (get_or-set_other (three l px i) (i + 3) (i + 1) (get_or px 3 0) 0 (λ e. omega arith)
    ∙ get_or-set_other (two l px i) (i + 2) (i + 1) (get_or px 2 0) 0 (λ e. omega arith)
    ∙ get_or-set_same (one l px i) (i + 1) (get_or px 1 0) 0 long₁)
    (get_or-set_other (three l px i) (i + 3) (i + 2) (get_or px 3 0) 0 (λ e. omega arith)
    ∙ get_or-set_same (two l px i) (i + 2) (get_or px 2 0) 0 long₂)
    (get_or-set_same (three l px i) (i + 3) (get_or px 3 0) 0 long)

-- at any other byte
stored_other : (l px : List ℕ) (i k : ℕ) → ((r : ℕ) → r < 4 → k ≡ i + r → ⊥) → get_or (stored l px i) k 0 ≡ get_or l k 0
stored_other l px i k e =
    get_or-set_other (three l px i) (i + 3) k (get_or px 3 0) 0 (λ q. e 3 (lit< tt) q)
    ∙ get_or-set_other (two l px i) (i + 2) k (get_or px 2 0) 0 (λ q. e 2 (lit< tt) q)
    ∙ get_or-set_other (one l px i) (i + 1) k (get_or px 1 0) 0 (λ q. e 1 (lit< tt) q)
    ∙ get_or-set_other l i k (get_or px 0 0) 0 (λ q. e 0 (lit< tt) (q ∙ sym (add-zero i)))

length-stored : (l px : List ℕ) (i : ℕ) → length (stored l px i) ≡ length l
length-stored l px i = simp length-set

pub stored-painted : (l px : List ℕ) (p : ℕ) → 4 * p + 3 < length l → stored l px (4 * p) ≡ painted (span p (p + 1)) px l
stored-painted l px p h =
    ext_get_or 0 (stored l px (4 * p)) (painted (span p (p + 1)) px l) (length-stored l px (4 * p) ∙ sym (length-painted _ px l))
    (λ k hk.
    let hk' : k < length l = rw (length-stored l px (4 * p)) at hk in
    by-test (span p (p + 1) (k / 4))
    (λ t.
    let at : k ≡ 4 * p + k % 4 = omega (arith, span-low p (p + 1) (k / 4) t, span-high p (p + 1) (k / 4) t) in
    ap (λ (n : ℕ). get_or (stored l px (4 * p)) n 0) at
    ∙ stored-own l px (4 * p) h (k % 4) (omega arith)
    ∙ sym (get_or-painted _ px l k hk' ∙ ap (λ (s : Bool). cond s (get_or px (k % 4) 0) (get_or l k 0)) t))
    (λ f.
    stored_other l px (4 * p) k (λ r hr e. true≢false (sym (span-in p (p + 1) (k / 4) (omega arith) (omega arith)) ∙ f))
    ∙ sym (get_or-painted _ px l k hk' ∙ ap (λ (s : Bool). cond s (get_or px (k % 4) 0) (get_or l k 0)) f)))

-- a span that is one pixel longer
pub span_more : (a p : ℕ) → a ≤ p → (q : ℕ) → span a (p + 1) q ≡ (span a p q || span p (p + 1) q)
span_more a p h q =
    same_test _ _
    (λ t.
    split q p
    (λ lt. or_left (span a p q) (span p (p + 1) q) (span-in a p q (span-low a (p + 1) q t) lt))
    (λ ge. or_right (span a p q) (span p (p + 1) q) (span-in p (p + 1) q ge (span-high a (p + 1) q t))))
    (λ t.
    or_case (span a p q) (span p (p + 1) q) t
    (λ s. span-in a (p + 1) q (span-low a p q s) (omega (arith, span-high a p q s)))
    (λ s. span-in a (p + 1) q (omega (arith, span-low p (p + 1) q s)) (span-high p (p + 1) q s)))

pub stored_more : (l px : List ℕ) (a p : ℕ) → a ≤ p → 4 * p + 3 < length l
    → stored (painted (span a p) px l) px (4 * p) ≡ painted (span a (p + 1)) px l
stored_more l px a p h k =
    stored-painted (painted (span a p) px l) px p (rw (length-painted (span a p) px l) k)
    ∙ painted-both (span a p) (span p (p + 1)) (span a (p + 1)) px l (span_more a p h)

-- ---- a span's pixels, one after the other

module _ (from : ℕ) (px l : List ℕ) where
  -- none yet
  pub span-first : l ≡ painted (span from from) px l
  span-first = sym (painted-none (span from from) px l (λ p. span-empty from from p (omega arith)))

  -- one more, by four stores
  pub span-next : {before : List ℕ} (p to : ℕ) → from ≤ p → p < to → 4 * to ≤ length l
      → before ≡ painted (span from p) px l → stored before px (4 * p) ≡ painted (span from (p + 1)) px l
  span-next p to h less room e =
      let long : 4 * p + 3 < length l = omega arith in
      ap (λ (m : List ℕ). stored m px (4 * p)) e ∙ stored_more l px from p h long

  -- all of them
  pub span_last : {after : List ℕ} (p to : ℕ) → p ≤ to → to ≤ p → after ≡ painted (span from p) px l → after ≡ painted (span from to) px l
  span_last p to h k e =
      let same : p ≡ to = omega arith in
      e ∙ ap (λ (q : ℕ). painted (span from q) px l) same

pub ruleset span-turns = (span-first, span-next, span_last)
