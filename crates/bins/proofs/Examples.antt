-- Worked examples, computed over the definitions: each table has questions and their answers.
use Prim.Native.Nat.{ℕ, ◌^◌, ◌-◌}
use mathlib.Core.List.{List, [], ◌∷◌, ◌++◌, map}
use mathlib.Core.Option.{none, some}
use mathlib.Core.Path.{◌≡◌, refl}
use Rattle.canvas.specs.Copy.{has_picture}
use Rattle.canvas.specs.Picture.{span, fits, rows_of}
use Rattle.bins.specs.declared.Shape.{Shape}
use Rattle.bins.specs.declared.Setting.{Setting}
use Rattle.bins.specs.Bins.{told, refused, bin_of, first_column, last_column, covered, same, row_has, first_from, top_row, pixel, pixel_at, setting_fits, answered, asked_bin, asked_columns, asked_top}

abbrev shape : ℕ → ℕ → ℕ → Shape
shape stride width height = record { stride = stride; width = width; height = height }

abbrev setting : ℕ → ℕ → ℕ → Setting
setting origin width count = record { origin = origin; width = width; count = count }

-- ---- two bins of two columns each, from column 1 on, in a picture of six columns

-- columns 0 to 6
bins-of-columns : map (asked_bin (shape 6 6 1) 24 (setting 1 2 2)) (0 ∷ 1 ∷ 2 ∷ 3 ∷ 4 ∷ 5 ∷ 6 ∷ [])
    ≡ refused 16 ∷ told 0 ∷ told 0 ∷ told 1 ∷ told 1 ∷ refused 16 ∷ refused 16 ∷ []
unfolding asked_bin answered has_picture fits rows_of setting_fits covered span bin_of
bins-of-columns = refl

-- bins 0 to 2
columns-of-bins : map (asked_columns (shape 6 6 1) 24 (setting 1 2 2)) (0 ∷ 1 ∷ 2 ∷ []) ≡ told (1, 2) ∷ told (3, 4) ∷ refused 16 ∷ []
unfolding asked_columns answered has_picture fits rows_of setting_fits first_column last_column
columns-of-bins = refl

-- ---- settings

-- in a picture of 600 columns: 512 bins and 513; no bins; no columns; up to the last column and one past it; products and sums of more than 64 bits
pub ranges : map (λ s. asked_columns (shape 600 600 1) 2400 s 0)
    (setting 0 1 512
    ∷ setting 0 1 513
    ∷ setting 0 1 0
    ∷ setting 0 0 8
    ∷ setting 88 1 512
    ∷ setting 89 1 512
    ∷ setting 0 (2 ^ 61) 8
    ∷ setting (2 ^ 64 - 1) 1 1
    ∷ [])
    ≡ told (0, 0) ∷ refused 15 ∷ refused 15 ∷ refused 15 ∷ told (88, 88) ∷ refused 15 ∷ refused 15 ∷ refused 15 ∷ []
unfolding asked_columns answered has_picture fits rows_of setting_fits first_column last_column
ranges = refl

-- 12 before 15, and 15 before 16
orders : asked_columns (shape 0 600 1) 2400 (setting 0 0 0) 9 ∷ asked_columns (shape 600 600 1) 2400 (setting 0 0 0) 9 ∷ []
    ≡ refused 12 ∷ refused 15 ∷ []
unfolding asked_columns answered has_picture fits rows_of setting_fits
orders = refl

-- ---- a picture of three columns and two rows in a canvas of four columns and three rows

red : List ℕ
red = 255 ∷ 0 ∷ 0 ∷ 255 ∷ []

black : List ℕ
black = 0 ∷ 0 ∷ 0 ∷ 255 ∷ []

clear : List ℕ
clear = 0 ∷ 0 ∷ 0 ∷ 0 ∷ []

-- red stands beside the picture in row 0 and in it in row 1, black in row 0 and below the picture
canvas : List ℕ
canvas = clear ++ black ++ clear ++ red ++ clear ++ clear ++ red ++ clear ++ clear ++ clear ++ black ++ clear

-- in bin 0 of one column red, black, clear; in bin 1 red, black, clear
rows : map (λ (q : ℕ × List ℕ). asked_top (shape 4 3 2) canvas (setting 1 1 2) q.0 q.1)
    ((0, red) ∷ (0, black) ∷ (0, clear) ∷ (1, red) ∷ (1, black) ∷ (1, clear) ∷ [])
    ≡ told none ∷ told (some 0) ∷ told (some 1) ∷ told (some 1) ∷ told none ∷ told (some 0) ∷ []
unfolding asked_top answered has_picture fits rows_of setting_fits top_row first_from row_has same pixel_at pixel first_column canvas red black clear
rows = refl

-- one bin of all three columns: clear in both rows, red in the lower one; and of the last two, in whose last column red stands
topmost : map (λ (q : Setting × List ℕ). asked_top (shape 4 3 2) canvas q.0 0 q.1)
    ((setting 0 3 1, clear) ∷ (setting 0 3 1, red) ∷ (setting 1 2 1, red) ∷ [])
    ≡ told (some 0) ∷ told (some 1) ∷ told (some 1) ∷ []
unfolding asked_top answered has_picture fits rows_of setting_fits top_row first_from row_has same pixel_at pixel first_column canvas red black clear
topmost = refl
