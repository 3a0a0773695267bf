-- Laws of the two searches: the first number for which a test holds, and whether one of a row's columns holds a colour.
-- Assumes nothing.
use mathlib.Core.Path.{◌≡◌, refl, sym, ap, ap₂, ◌∙◌}
use mathlib.Core.Bool.{Bool, true, false, cond, ◌||◌, true≢false}
use mathlib.Core.Option.{Option, none, some}
use mathlib.Core.List.{List}
use Prim.Native.Nat.{ℕ, zero, suc, ◌+◌, ◌-◌, ◌≤◌, ◌<◌}
use native.Mathlib.Numerals.{add-one}
use native.Mathlib.Omega.{arith}
use Rattle.canvas.proofs.Covers.{by-test, or_left, or_right, or_case, split}
use Rattle.std.specs.List.{list_any, range_with_len}
use Rattle.bins.specs.Bins.{same, row_has, first_from}

-- ---- the first number for which a test holds

module _ (test : ℕ → Bool) where
  -- it is one of them, the test holds there, and for none before it
  pub first-is : (n count y : ℕ) → n ≤ y → y < n + count → test y ≡ true → ((z : ℕ) → n ≤ z → z < y → test z ≡ false)
      → first_from test n count ≡ some y
  unfolding first_from
  first-is n zero y low high here before = absurd (omega arith)
  first-is n (suc count) y low high here before =
      split n y
      (λ later.
      ap (λ (t : Bool). cond t (some n) (first_from test (suc n) count)) (before n (omega arith) later)
      ∙ first-is (suc n) count y (omega arith) (omega arith) here (λ z l. before z (omega arith)))
      (λ now.
      let at : n ≡ y = omega arith in
      ap (λ (t : Bool). cond t (some n) (first_from test (suc n) count)) (ap test at ∙ here) ∙ ap some at)

  -- there is none where the test never holds
  pub first-none : (n count : ℕ) → ((z : ℕ) → n ≤ z → z < n + count → test z ≡ false) → first_from test n count ≡ none
  unfolding first_from
  first-none n zero never = refl
  first-none n (suc count) never =
      ap (λ (t : Bool). cond t (some n) (first_from test (suc n) count)) (never n (omega arith) (omega arith))
      ∙ first-none (suc n) count (λ z l h. never z (omega arith) (omega arith))

  pub record First (n count y : ℕ) : Type 0 where
    pub low : n ≤ y
    pub high : y < n + count
    pub here : test y ≡ true
    pub before : (z : ℕ) → n ≤ z → z < y → test z ≡ false

  -- what is found is the first
  pub first_found : (n count y : ℕ) → first_from test n count ≡ some y → First n count y
  unfolding first_from
  first_found n zero y e = let never : ◌≡◌ {A = ℕ} 0 1 = cc in absurd (omega arith)
  first_found n (suc count) y e =
      by-test (test n)
      (λ t.
      let found : some n ≡ some y = sym (ap (λ (u : Bool). cond u (some n) (first_from test (suc n) count)) t) ∙ e in
      let at : n ≡ y = cc in
      record { low = omega arith; high = omega arith; here = sym (ap test at) ∙ t; before = λ z l h. absurd (omega arith) })
      (λ t.
      let f : First (suc n) count y = first_found (suc n) count y (sym (ap (λ (u : Bool). cond u (some n) (first_from test (suc n) count)) t) ∙ e) in
      record {
        low = omega (arith, f.low);
        high = omega (arith, f.high);
        here = f.here;
        before = λ z l h. split n z (λ later. f.before z (omega arith) h) (λ now. let at : n ≡ z = omega arith in sym (ap test at) ∙ t);
      })

  -- where none is found the test never holds
  pub none_found : (n count : ℕ) → first_from test n count ≡ none → (z : ℕ) → n ≤ z → z < n + count → test z ≡ false
  unfolding first_from
  none_found n zero e z low high = absurd (omega arith)
  none_found n (suc count) e z low high =
      by-test (test n)
      (λ t.
      let found : some n ≡ none = sym (ap (λ (u : Bool). cond u (some n) (first_from test (suc n) count)) t) ∙ e in
      let never : ◌≡◌ {A = ℕ} 0 1 = cc in
      absurd (omega arith))
      (λ t.
      split n z
      (λ later. none_found (suc n) count (sym (ap (λ (u : Bool). cond u (some n) (first_from test (suc n) count)) t) ∙ e) z (omega arith) (omega arith))
      (λ now. let at : n ≡ z = omega arith in sym (ap test at) ∙ t))

-- two tests that agree on the numbers
pub first_alike : (t u : ℕ → Bool) (n count : ℕ) → ((z : ℕ) → n ≤ z → z < n + count → t z ≡ u z) → first_from t n count ≡ first_from u n count
unfolding first_from
first_alike t u n zero e = refl
first_alike t u n (suc count) e =
    ap₂ (λ (b : Bool) (o : Option ℕ). cond b (some n) o) (e n (omega arith) (omega arith))
    (first_alike t u (suc n) count (λ z l h. e z (omega arith) (omega arith)))

-- ---- a row

module _ (row : ℕ → List ℕ) (colour : List ℕ) where
  -- one of the columns holds the colour
  pub row_has_lem : (first count x : ℕ) → first ≤ x → x < first + count → same (row x) colour ≡ true → row_has row first count colour ≡ true
  unfolding row_has
  row_has_lem first zero x low high here = absurd (omega arith)
  row_has_lem first (suc count) x low high here =
      split first x
      (λ later. or_right (same (row first) colour) _ (row_has_lem (suc first) count x (omega arith) (omega arith) here))
      (λ now. let at : first ≡ x = omega arith in or_left _ _ (ap (λ (z : ℕ). same (row z) colour) at ∙ here))

  pub record Found (first count : ℕ) : Type 0 where
    pub column : ℕ
    pub low : first ≤ column
    pub high : column < first + count
    pub here : same (row column) colour ≡ true

  -- and there is one where the row has it
  pub row-found : (first count : ℕ) → row_has row first count colour ≡ true → Found first count
  unfolding row_has
  row-found first zero e = absurd (true≢false (sym e))
  row-found first (suc count) e =
      or_case (same (row first) colour) (row_has row (suc first) count colour) e
      (λ t. record { column = first; low = omega arith; high = omega arith; here = t })
      (λ t.
      let f : Found (suc first) count = row-found (suc first) count t in
      record { column = f.column; low = omega (arith, f.low); high = omega (arith, f.high); here = f.here })

-- two rows that agree on the columns
pub row-alike : (r q : ℕ → List ℕ) (colour : List ℕ) (first count : ℕ) → ((x : ℕ) → first ≤ x → x < first + count → r x ≡ q x)
    → row_has r first count colour ≡ row_has q first count colour
unfolding row_has
row-alike r q colour first zero e = refl
row-alike r q colour first (suc count) e =
    ap₂ (λ (a b : Bool). a || b) (ap (λ (p : List ℕ). same p colour) (e first (omega arith) (omega arith)))
    (row-alike r q colour (suc first) count (λ x l h. e x (omega arith) (omega arith)))

-- ---- the code's search through a row, by `any`

pub row_any : (row : ℕ → List ℕ) (colour : List ℕ) (first count : ℕ)
    → list_any (λ x. same (row x) colour) (range_with_len first count) ≡ row_has row first count colour
unfolding row_has
row_any row colour first zero = refl
row_any row colour first (suc count) =
    ap (λ (b : Bool). same (row first) colour || b)
    (row_any row colour (first + 1) count ∙ ap (λ (n : ℕ). row_has row n count colour) (add-one first))

-- ---- the search for a row, on its way: what is left of it decides

module _ (test : ℕ → Bool) (end n : ℕ) (whole : Option ℕ) (e : first_from test n (end - n) ≡ whole) where
  pub first_done : end ≤ n → none ≡ whole
  unfolding first_from
  first_done h = let none_left : end - n ≡ 0 = omega arith in sym (ap (λ (k : ℕ). first_from test n k) none_left) ∙ e

  module _ (h : n < end) where
    rest : cond (test n) (some n) (first_from test (n + 1) (end - (n + 1))) ≡ whole
    unfolding first_from
    rest =
        let one_less : end - n ≡ suc (end - (n + 1)) = omega arith in
        ap (λ (k : ℕ). cond (test n) (some n) (first_from test k (end - (n + 1)))) (add-one n)
        ∙ sym (ap (λ (k : ℕ). first_from test n k) one_less)
        ∙ e

    pub first-here : test n ≡ true → some n ≡ whole
    first-here t = sym (ap (λ (b : Bool). cond b (some n) (first_from test (n + 1) (end - (n + 1)))) t) ∙ rest

    pub first_next : test n ≡ false → first_from test (n + 1) (end - (n + 1)) ≡ whole
    first_next t = sym (ap (λ (b : Bool). cond b (some n) (first_from test (n + 1) (end - (n + 1)))) t) ∙ rest
