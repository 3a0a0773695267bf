-- One law for each path through `bin`, `first_column`, `columns` and `top`: what was judged, what the tests said, and so the answer.
-- Assumes nothing.
use mathlib.Core.Path.{◌≡◌, refl, sym, ap, ap₂, ◌∙◌}
use mathlib.Core.Bool.{true}
use mathlib.Core.Option.{none}
use mathlib.Core.List.{List}
use Prim.Native.Nat.{ℕ, ◌+◌, ◌-◌, ◌*◌, ◌/◌, ◌≤◌, ◌<◌}
use native.Mathlib.Nat.{div-lt_iff_lt-mul, le-div_iff_mul-le}
use native.Mathlib.Omega.{arith}
use lib.Dec.{ltb}
use lib.ListN.{length}
use borrow.Author.Tests.{ltb-true, lt-ltb, le-ltb}
use Rattle.canvas.specs.Picture.{rows_of}
use Rattle.canvas.proofs.Covers.{no_test}
use Rattle.canvas.proofs.Copies.{has-columns, has-rows}
use Rattle.bins.specs.declared.Shape.{Shape}
use Rattle.bins.specs.declared.Setting.{Setting}
use Rattle.bins.specs.declared.Refusal.{Refusal}
use Rattle.bins.specs.declared.Refusal.TheVariants.{Outside}
use Rattle.std.specs.Prelude as rust
use Rattle.std.specs.Prelude.{Result, Ok, Err}
use Rattle.bins.specs.Bins.{number_of, bin_of, first_column, last_column, covered, row_has, first_from, top_row, pixel_at, told, refused, answered, asked_bin, asked_columns, asked_top}
use Rattle.bins.specs.Facts.{Accepted}
use Rattle.bins.specs.Told.{judgement, judged_as, bin_told, columns_told, row_told, top_told}
use Rattle.bins.proofs.Answers.{answered-judged, answered-outside, answered-told, refused-alike, told-exactly, fine-setting, fits_width, fits-bin}
use Rattle.bins.proofs.Inverses.{covered-in, covered-low, covered-high}

module _ {j : Result (Unit {0}) Refusal} (p : Shape) (n : ℕ) (s : Setting) (e : judged_as j ≡ judgement p n s) where
  -- ---- refused before the question is looked at

  module _ {r : Refusal} (k : j ≡ Err r) where
    early : judged_as (Err r) ≡ judgement p n s
    early = ap judged_as (sym k) ∙ e

    pub bin-refused : (column : ℕ) → bin_told (Err r) ≡ asked_bin p n s column
    unfolding judged_as bin_told asked_bin
    bin-refused column = answered-judged p n s (covered s column) (bin_of s column) (number_of r) early

    pub place-refused : (bin : ℕ) → bin_told (Err r) ≡ answered p n s (ltb bin s.count) (first_column s bin)
    unfolding judged_as bin_told
    place-refused bin = answered-judged p n s (ltb bin s.count) (first_column s bin) (number_of r) early

  -- ---- looked at

  module _ (k : j ≡ Ok tt) where
    fine : none ≡ judgement p n s
    unfolding judged_as
    fine = ap judged_as (sym k) ∙ e

    pub wide : 0 < s.width
    wide = fits_width s p.width (fine-setting p n s fine)

    -- ---- the bin of a column

    module _ (column : ℕ) where
      pub bin-below : column < s.origin → bin_told (Err Outside) ≡ asked_bin p n s column
      unfolding bin_told number_of asked_bin
      bin-below h =
          answered-outside p n s (covered s column) (bin_of s column) fine (no_test _ (λ t. omega (arith, covered-low s column t)))

      -- the code's quotient
      module _ (found : ℕ) (at : found ≡ (column - s.origin) / s.width) (low : s.origin ≤ column) where
        pub bin-past : s.count ≤ found → bin_told (Err Outside) ≡ asked_bin p n s column
        unfolding bin_told number_of asked_bin
        bin-past h =
            let past : s.count * s.width ≤ column - s.origin = (le-div_iff_mul-le wide).0 (omega (arith, at)) in
            answered-outside p n s (covered s column) (bin_of s column) fine (no_test _ (λ t. omega (arith, covered-high s column t)))

        pub bin-told : found < s.count → bin_told (Ok found) ≡ asked_bin p n s column
        unfolding bin_told asked_bin bin_of
        bin-told h =
            let below : column - s.origin < s.count * s.width = (div-lt_iff_lt-mul wide).0 (omega (arith, at)) in
            ap told at ∙ answered-told p n s (covered s column) (bin_of s column) fine (covered-in s column low (omega arith))

    -- ---- the first column of a bin

    module _ (bin : ℕ) where
      pub place-past : s.count ≤ bin → bin_told (Err Outside) ≡ answered p n s (ltb bin s.count) (first_column s bin)
      unfolding bin_told number_of
      place-past h = answered-outside p n s (ltb bin s.count) (first_column s bin) fine (le-ltb bin s.count h)

      pub place-told : bin < s.count → (first : ℕ) → first ≡ s.origin + bin * s.width
          → bin_told (Ok first) ≡ answered p n s (ltb bin s.count) (first_column s bin)
      unfolding bin_told first_column
      place-told h first at = ap told at ∙ answered-told p n s (ltb bin s.count) (first_column s bin) fine (lt-ltb bin s.count h)

      -- its columns lie in the picture
      pub place_inside : bin < s.count → s.origin + bin * s.width + s.width ≤ p.width
      place_inside = fits-bin s p.width (fine-setting p n s fine) bin

-- ---- what is told of a bin, once its first column is known

module _ {x : Result ℕ Refusal} (p : Shape) (n : ℕ) (s : Setting) (bin : ℕ) (e : bin_told x ≡ answered p n s (ltb bin s.count) (first_column s bin)) where
  module _ {A : Type 0} (a : A) where
    -- a refusal of the one is a refusal of the other
    other-refused : {r : Refusal} → x ≡ Err r → refused (number_of r) ≡ answered p n s (ltb bin s.count) a
    unfolding bin_told
    other-refused {r} k = refused-alike p n s (ltb bin s.count) (first_column s bin) a (number_of r) (ap bin_told (sym k) ∙ e)

  module _ {first : ℕ} (k : x ≡ Ok first) where
    known : Accepted p n s × (ltb bin s.count ≡ true) × (first_column s bin ≡ first)
    unfolding bin_told
    known = (told-exactly p n s (ltb bin s.count) (first_column s bin) first).0 (sym e ∙ ap bin_told k)

    pub place_at : first ≡ s.origin + bin * s.width
    unfolding first_column
    place_at = sym known.2

    pub place-wide : 1 ≤ s.width
    place-wide = fits_width s p.width known.0.setting

    -- its columns lie in the picture, and these on the canvas
    pub place-room : first + s.width ≤ p.width
    place-room = omega (arith, fits-bin s p.width known.0.setting bin (ltb-true _ _ known.1), place_at)

    pub place-columns : first + s.width ≤ p.stride
    place-columns = omega (arith, place-room, has-columns p.stride n p.width p.height known.0.picture)

    pub place-rows : p.height ≤ rows_of n p.stride
    place-rows = has-rows p.stride n p.width p.height known.0.picture

    told-too : {A : Type 0} (a : A) → told a ≡ answered p n s (ltb bin s.count) a
    told-too a = sym ((told-exactly p n s (ltb bin s.count) a a).1 (known.0, known.1, refl))

  -- ---- the columns of a bin

  pub columns-refused : {r : Refusal} → x ≡ Err r → columns_told (Err r) ≡ asked_columns p n s bin
  unfolding columns_told asked_columns
  columns-refused k = other-refused (first_column s bin, last_column s bin) k

  pub columns-told : {first : ℕ} → x ≡ Ok first → (last : ℕ) → last + 1 ≡ first + s.width
      → columns_told (Ok (record { first = first; last = last })) ≡ asked_columns p n s bin
  unfolding columns_told asked_columns first_column last_column
  columns-told {first} k last end =
      let last-at : last ≡ s.origin + (bin + 1) * s.width - 1 = omega (arith, place_at k, end) in
      ap₂ (λ (f l : ℕ). told (f, l)) (place_at k) last-at ∙ told-too k (first_column s bin, last_column s bin)

-- ---- the topmost row

module _ {x : Result ℕ Refusal} (p : Shape) (canvas : List ℕ) (s : Setting) (bin : ℕ) (colour : List ℕ)
    (e : bin_told x ≡ answered p (length canvas) s (ltb bin s.count) (first_column s bin)) where
  pub top-refused : {r : Refusal} → x ≡ Err r → top_told (Err r) ≡ asked_top p canvas s bin colour
  unfolding top_told asked_top
  top-refused k = other-refused p (length canvas) s bin e (top_row (pixel_at p.stride canvas) p.height s bin colour) k

  pub top-told : {first : ℕ} → x ≡ Ok first → (r : rust.Option ℕ)
      → row_told r ≡ (first_from (λ y. row_has (λ x. pixel_at p.stride canvas x y) first s.width colour) 0 p.height)
      → top_told (Ok r) ≡ asked_top p canvas s bin colour
  unfolding top_told asked_top top_row first_column
  top-told {first} k r q =
      ap told q
      ∙ ap (λ (f : ℕ). told (first_from (λ y. row_has (λ x. pixel_at p.stride canvas x y) f s.width colour) 0 p.height))
      (place_at p (length canvas) s bin e k)
      ∙ told-too p (length canvas) s bin e k (top_row (pixel_at p.stride canvas) p.height s bin colour)
