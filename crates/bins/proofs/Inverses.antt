-- Which bin a column belongs to and which columns a bin has are inverses: a column is covered exactly when some bin has it, and it belongs to a
-- bin exactly when that bin has it. So no column has two bins.
-- Assumes nothing.
use mathlib.Core.Path.{◌≡◌, refl, sym, ap, ◌∙◌}
use mathlib.Core.Bool.{true}
use mathlib.Core.Logic.{◌↔◌}
use Prim.Native.Nat.{ℕ, ◌+◌, ◌-◌, ◌*◌, ◌≤◌, ◌<◌}
use native.Mathlib.Nat.{mul-le-mul_right, div-mul-le_self, lt-div-mul-add, div-lt_iff_lt-mul, div-eq_of_lt-le}
use native.Mathlib.Omega.{arith}
use lib.Dec.{ltb}
use borrow.Author.Tests.{ltb-true, lt-ltb}
use Rattle.canvas.proofs.Covers.{span-low, span-high, span-in}
use Rattle.bins.specs.declared.Shape.{Shape}
use Rattle.bins.specs.declared.Setting.{Setting}
use Rattle.bins.specs.Bins.{bin_of, first_column, last_column, covered, told, setting_fits, asked_bin, asked_columns}
use Rattle.bins.specs.Facts.{Has, Covering, Among}
use Rattle.bins.proofs.Answers.{fits_width, fits-bin, told-exactly}

module _ (s : Setting) (column : ℕ) where
  -- ---- the columns of all bins, as facts of numbers

  pub covered-in : s.origin ≤ column → column < s.origin + s.count * s.width → covered s column ≡ true
  unfolding covered
  covered-in low high = span-in _ _ column (omega arith) (omega arith)

  pub covered-low : covered s column ≡ true → s.origin ≤ column
  unfolding covered
  covered-low t = omega (arith, span-low _ _ column t)

  pub covered-high : covered s column ≡ true → column < s.origin + s.count * s.width
  unfolding covered
  covered-high t = omega (arith, span-high s.origin _ column t)

  module _ (wide : 1 ≤ s.width) where
    -- ---- the columns of a bin: from its first on, the width of them

    pub has_in : (bin : ℕ) → first_column s bin ≤ column → column < first_column s bin + s.width → Has s bin column
    unfolding first_column last_column
    has_in bin low high = record { first = low; last = omega arith }

    pub has-below : (bin : ℕ) → Has s bin column → column < first_column s bin + s.width
    unfolding first_column last_column
    has-below bin h = omega (arith, h.first, h.last)

    -- ---- inverses

    -- From the origin on, a column belongs to a bin exactly when that bin has it.
    pub bin-exactly : (bin : ℕ) → ((s.origin ≤ column) × (bin_of s column ≡ bin)) ↔ Has s bin column
    unfolding bin_of first_column last_column
    bin-exactly bin = (
      λ e.
          let low : bin_of s column * s.width ≤ column - s.origin = div-mul-le_self _ s.width in
          let high : column - s.origin < bin_of s column * s.width + s.width = lt-div-mul-add wide in
          let same : bin_of s column * s.width ≡ bin * s.width = ap (λ (n : ℕ). n * s.width) e.1 in
          record { first = omega (arith, e.0, low, same); last = omega (arith, e.0, high, same) },
      λ h.
          let low : bin * s.width ≤ column - s.origin = omega (arith, h.first) in
          let high : column - s.origin < (bin + 1) * s.width = omega (arith, h.first, h.last) in
          (omega (arith, h.first), div-eq_of_lt-le s.width low high),
    )

    -- No column has two bins.
    pub one-bin : (bin other : ℕ) → Has s bin column → Has s other column → bin ≡ other
    one-bin bin other h k = sym ((bin-exactly bin).1 h).1 ∙ ((bin-exactly other).1 k).1

    -- its bin is one of the setting's
    counted : covered s column ≡ true → bin_of s column < s.count
    unfolding bin_of
    counted t =
        let below : column - s.origin < s.count * s.width = omega (arith, covered-low t, covered-high t) in
        (div-lt_iff_lt-mul wide).1 below

    -- A column is covered exactly when some bin of the setting has it.
    pub covered-exactly : (covered s column ≡ true) ↔ Covering s column
    unfolding first_column last_column
    covered-exactly = (
      λ t. record { bin = bin_of s column; counted = counted t; has = (bin-exactly (bin_of s column)).0 (covered-low t, refl) },
      λ c.
          let next : c.bin + 1 ≤ s.count = omega (arith, c.counted) in
          let last : (c.bin + 1) * s.width ≤ s.count * s.width = mul-le-mul_right s.width next in
          covered-in (omega (arith, c.has.first)) (omega (arith, c.has.first, c.has.last, last)),
    )

-- Where a setting fits, the columns of its bins lie in the picture.
pub has-inside : (s : Setting) (width bin column : ℕ) → setting_fits s width ≡ true → bin < s.count → Has s bin column → column < width
unfolding first_column
has-inside s width bin column f less h = omega (arith, fits-bin s width f bin less, has-below s column (fits_width s width f) bin h)

-- A column is told to belong to a bin exactly when it lies among the columns that the bin is told to have: each question is the other's inverse,
-- whatever picture and setting are asked about.
pub inverse : (p : Shape) (n : ℕ) (s : Setting) (column bin : ℕ) → (asked_bin p n s column ≡ told bin) ↔ Among p n s bin column
unfolding asked_bin asked_columns
inverse p n s column bin = (
  λ e.
      let h = (told-exactly p n s (covered s column) (bin_of s column) bin).0 e in
      let wide : 1 ≤ s.width = fits_width s p.width h.0.setting in
      let has : Has s bin column = (bin-exactly s column wide bin).0 (covered-low s column h.1, h.2) in
      let less : bin < s.count = omega (arith, counted s column wide h.1, h.2) in
      let ends : ℕ × ℕ = (first_column s bin, last_column s bin) in
      record {
        first = first_column s bin;
        last = last_column s bin;
        columns = (told-exactly p n s (ltb bin s.count) ends ends).1 (h.0, lt-ltb _ _ less, refl);
        low = has.first;
        high = has.last;
      },
  λ a.
      let ends : ℕ × ℕ = (first_column s bin, last_column s bin) in
      let h = (told-exactly p n s (ltb bin s.count) ends (a.first, a.last)).0 a.columns in
      let wide : 1 ≤ s.width = fits_width s p.width h.0.setting in
      let first : first_column s bin ≡ a.first = ap (λ (q : ℕ × ℕ). q.0) h.2 in
      let last : last_column s bin ≡ a.last = ap (λ (q : ℕ × ℕ). q.1) h.2 in
      let has : Has s bin column = record { first = omega (arith, first, a.low); last = omega (arith, last, a.high) } in
      let covering : Covering s column = record { bin = bin; counted = ltb-true _ _ h.1; has = has } in
      (told-exactly p n s (covered s column) (bin_of s column) bin).1
      (h.0, (covered-exactly s column wide).1 covering, ((bin-exactly s column wide bin).1 has).1),
)
