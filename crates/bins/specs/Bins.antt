-- The bin reader (docs/RULES.md, section 11): which bin a column belongs to, which columns a bin has, and the topmost row of a picture in which
-- one of a bin's columns holds a colour. Numbers have no bound here, so that no sum and no product overflows.
use Rattle.std.specs.Prelude.{ℕ, zero, suc, ◌+◌, ◌-◌, ◌*◌, ◌/◌, Bool, false, cond, ◌&&◌, ◌||◌, List, length, get_or, take, drop, leb, ltb, eqb}
use Rattle.std.proofs.Math.Option.{Option, none, some}
use Rattle.canvas.specs.Copy.{has_picture}
use Rattle.canvas.specs.Picture.{area_of, span}
use Rattle.bins.specs.declared.Shape.{Shape}
use Rattle.bins.specs.declared.Setting.{Setting}
use Rattle.bins.specs.declared.Refusal.{Refusal}
use Rattle.bins.specs.declared.Refusal.TheVariants.{Misfit, Range, Outside}

-- rule 5.1: the number of each refusal
unfoldable pub number_of : Refusal → ℕ
number_of Misfit = 12
number_of Range = 15
number_of Outside = 16

-- ---- bins and columns

-- rule 11.1: the bin that a column belongs to, bins counted from 0
unfoldable pub bin_of : Setting → ℕ → ℕ
bin_of s column = (column - s.origin) / s.width

-- rule 11.2: the first column that a bin has
unfoldable pub first_column : Setting → ℕ → ℕ
first_column s bin = s.origin + bin * s.width

-- rule 11.2: the last one, counted in
unfoldable pub last_column : Setting → ℕ → ℕ
last_column s bin = s.origin + (bin + 1) * s.width - 1

-- rule 11.3: the columns of all bins: from the origin on, the count times the width of them
unfoldable pub covered : Setting → ℕ → Bool
covered s column = span s.origin (s.origin + s.count * s.width) column

-- ---- colours and rows

-- rule 11.4: two pixels are the same: all four bytes are, alpha too
unfoldable pub same : List ℕ → List ℕ → Bool
same a b =
    eqb (get_or a 0 0) (get_or b 0 0) && (eqb (get_or a 1 0) (get_or b 1 0) && (eqb (get_or a 2 0) (get_or b 2 0) && eqb (get_or a 3 0) (get_or b 3 0)))

-- rule 11.4: one of so many columns from the first on holds the colour, in a row of pixels
unfoldable pub row_has : (ℕ → List ℕ) → ℕ → ℕ → List ℕ → Bool
row_has row first zero colour = false
row_has row first (suc count) colour = same (row first) colour || row_has row (suc first) count colour

-- the first of so many numbers from n on for which a test holds
unfoldable pub first_from : (ℕ → Bool) → ℕ → ℕ → Option ℕ
first_from test n zero = none
first_from test n (suc count) = cond (test n) (some n) (first_from test (suc n) count)

-- rule 11.4: the topmost of so many rows in which one of a bin's columns holds the colour; `shows` gives the pixel of a column and a row
unfoldable pub top_row : (ℕ → ℕ → List ℕ) → ℕ → Setting → ℕ → List ℕ → Option ℕ
top_row shows height s bin colour = first_from (λ y. row_has (λ x. shows x y) (first_column s bin) s.width colour) 0 height

-- pixel p of a canvas: four of its bytes
unfoldable pub pixel : List ℕ → ℕ → List ℕ
pixel canvas p = take 4 (drop (4 * p) canvas)

-- the pixel of a column and a row
unfoldable pub pixel_at : ℕ → List ℕ → ℕ → ℕ → List ℕ
pixel_at stride canvas x y = pixel canvas (y * stride + x)

-- ---- the three questions

-- what is told, or a refusal's number
pub data Answer (A : Type 0) : Type 0 where
  told : A → Answer A
  refused : ℕ → Answer A

-- a canvas of so many bytes has the picture, as in copying
abbrev pub picture_fits : Shape → ℕ → Bool
picture_fits p length = has_picture p.stride length (area_of p.width p.height)

-- rule 11.5: a width of 1 or more, 1 to 512 bins, and the last column in the picture
unfoldable pub setting_fits : Setting → ℕ → Bool
setting_fits s width = leb 1 s.width && (leb 1 s.count && (leb s.count 512 && leb (s.origin + s.count * s.width) width))

-- rule 11.5: 12 as in copying, then 15 where the setting does not fit, then 16 where what is asked for does not lie in the setting
unfoldable pub answered : {A : Type 0} → Shape → ℕ → Setting → Bool → A → Answer A
answered p length s inside a =
    cond (picture_fits p length)
    (cond (setting_fits s p.width) (cond inside (told a) (refused 16)) (refused 15))
    (refused 12)

-- rule 11.1: of a canvas of so many bytes: the bin of a column
unfoldable pub asked_bin : Shape → ℕ → Setting → ℕ → Answer ℕ
asked_bin p length s column = answered p length s (covered s column) (bin_of s column)

-- rule 11.2: the columns of a bin
unfoldable pub asked_columns : Shape → ℕ → Setting → ℕ → Answer (ℕ × ℕ)
asked_columns p length s bin = answered p length s (ltb bin s.count) (first_column s bin, last_column s bin)

-- rule 11.4: of a canvas: the topmost row of the picture in which one of the bin's columns holds the colour, or none
unfoldable pub asked_top : Shape → List ℕ → Setting → ℕ → List ℕ → Answer (Option ℕ)
asked_top p canvas s bin colour =
    answered p (length canvas) s (ltb bin s.count) (top_row (pixel_at p.stride canvas) p.height s bin colour)
