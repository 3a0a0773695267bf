-- The text of rule 13.4, computed: two columns and six rows, of which the upper two are red, on a canvas of three columns.
use Rattle.std.specs.Prelude.{◌≡◌, refl, false, List, [], ◌∷◌, ◌++◌, ℕ, None}
use Rattle.text.specs.Text.{digits, decimal, hex_digit, hex, words}
use Rattle.canvas.specs.Picture.{fits, rows_of}
use Rattle.canvas.specs.Copy.{has_picture}
use Rattle.payload.specs.declared.Ratio.TheVariants as ratios
use Rattle.payload.specs.declared.Report.{Report}
use Rattle.dcs.specs.declared.Ending.TheVariants as endings
use Rattle.dump.specs.Dump.{count_line, pair_line, status_line, size_line, extent_line, ratio_line, background_line, ink_line, pixel_text, further_text, row_text, rows_text, picture_rows, picture_text}

unfoldable pub report : Report
report =
    record {
      width = 2;
      height = 6;
      right = 2;
      bottom = 2;
      ratio = ratios.LeftToP1 None;
      transparent = false;
      defined = 1;
      declared_width = 0;
      declared_height = 0;
      held = 0;
    }

-- a row of each colour, and what lies beside it
unfoldable pub red : List ℕ
red = 255 ∷ 0 ∷ 0 ∷ 255 ∷ 255 ∷ 0 ∷ 0 ∷ 255 ∷ 1 ∷ 2 ∷ 3 ∷ 4 ∷ []

unfoldable pub black : List ℕ
black = 0 ∷ 0 ∷ 0 ∷ 255 ∷ 0 ∷ 0 ∷ 0 ∷ 255 ∷ 1 ∷ 2 ∷ 3 ∷ 4 ∷ []

unfoldable pub canvas : List ℕ
canvas = red ++ red ++ black ++ black ++ black ++ black

pub sample : picture_text endings.Complete 20 4 report 3 canvas
    ≡ words "complete 20\nsize 2 6\nextent 2 2\nratio p1 none\nbackground opaque\nink 4\n"
    ++ words "FF0000FF FF0000FF\nFF0000FF FF0000FF\n"
    ++ words "000000FF 000000FF\n000000FF 000000FF\n000000FF 000000FF\n000000FF 000000FF\n"
unfolding picture_text status_line size_line extent_line ratio_line background_line ink_line count_line pair_line
    picture_rows rows_text row_text further_text pixel_text has_picture fits rows_of decimal digits hex hex_digit words
    report canvas red black
sample = refl
