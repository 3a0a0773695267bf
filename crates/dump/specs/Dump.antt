-- What `sixdump` prints (docs/RULES.md, section 13): for a picture a line for each field and one for each row; a refusal is one line.
-- A text that is longer than the buffer is truncated.
use Rattle.std.specs.Prelude.{ℕ, zero, suc, ◌+◌, ◌-◌, ◌*◌, Bool, true, false, cond, List, [], ◌++◌, length, get_or, Some, None}
use Rattle.text.specs.Text.{decimal, hex, words}
use Rattle.canvas.specs.Picture.{area_of}
use Rattle.canvas.specs.Copy.{has_picture}
use Rattle.frame.specs.declared.Refusal.{Refusal}
use Rattle.frame.specs.Numbers.{number_of}
use Rattle.payload.specs.declared.Ratio.{Ratio}
use Rattle.payload.specs.declared.Ratio.TheVariants as ratios
use Rattle.payload.specs.declared.Report.{Report}
use Rattle.dcs.specs.declared.Ending.{Ending}
use Rattle.dcs.specs.declared.Ending.TheVariants as endings

-- ---- lines

-- words and a number
unfoldable pub count_line : List ℕ → ℕ → List ℕ
count_line name n = name ++ decimal n ++ words "\n"

-- words and two numbers
unfoldable pub pair_line : List ℕ → ℕ → ℕ → List ℕ
pair_line name a b = name ++ decimal a ++ words " " ++ decimal b ++ words "\n"

-- words, a number, and a byte as two upper-case hex digits
unfoldable pub stop_line : List ℕ → ℕ → ℕ → List ℕ
stop_line name n byte = name ++ decimal n ++ words " " ++ hex byte ++ words "\n"

-- the status and the bytes consumed; `cancelled` and `interrupted` add the byte
unfoldable pub status_line : Ending → ℕ → List ℕ
status_line endings.Complete n = count_line (words "complete ") n
status_line (endings.Cancelled byte) n = stop_line (words "cancelled ") n byte
status_line (endings.Interrupted byte) n = stop_line (words "interrupted ") n byte

-- width and height
unfoldable pub size_line : ℕ → ℕ → List ℕ
size_line w h = pair_line (words "size ") w h

-- the extent's columns and rows
unfoldable pub extent_line : ℕ → ℕ → List ℕ
extent_line x y = pair_line (words "extent ") x y

-- the ratio as `2:1`, or `p1` and its number or `none`
unfoldable pub ratio_line : Ratio → List ℕ
ratio_line (ratios.Raster n) = words "ratio " ++ decimal n ++ words ":1\n"
ratio_line (ratios.LeftToP1 None) = words "ratio p1 none\n"
ratio_line (ratios.LeftToP1 (Some n)) = count_line (words "ratio p1 ") n

-- the background: is it transparent?
unfoldable pub background_line : Bool → List ℕ
background_line true = words "background transparent\n"
background_line false = words "background opaque\n"

-- the ink
unfoldable pub ink_line : ℕ → List ℕ
ink_line n = count_line (words "ink ") n

-- ---- rows

-- pixel p of the canvas as RRGGBBAA
unfoldable pub pixel_text : List ℕ → ℕ → List ℕ
pixel_text canvas p =
    hex (get_or canvas (4 * p) 0) ++ hex (get_or canvas (4 * p + 1) 0) ++ hex (get_or canvas (4 * p + 2) 0) ++ hex (get_or canvas (4 * p + 3) 0)

-- so many pixels from pixel p on, a space before each
unfoldable pub further_text : List ℕ → ℕ → ℕ → List ℕ
further_text canvas p zero = []
further_text canvas p (suc n) = words " " ++ pixel_text canvas p ++ further_text canvas (p + 1) n

-- a row of pixels from pixel p on, one space between pixels
unfoldable pub row_text : List ℕ → ℕ → ℕ → List ℕ
row_text canvas p width = pixel_text canvas p ++ further_text canvas (p + 1) (width - 1) ++ words "\n"

-- so many rows from row y on
unfoldable pub rows_text : List ℕ → ℕ → ℕ → ℕ → ℕ → List ℕ
rows_text canvas stride width y zero = []
rows_text canvas stride width y (suc n) = row_text canvas (y * stride) width ++ rows_text canvas stride width (y + 1) n

-- the picture's rows, where the canvas has such a picture; else none
unfoldable pub picture_rows : List ℕ → ℕ → ℕ → ℕ → List ℕ
picture_rows canvas stride w h = cond (has_picture stride (length canvas) (area_of w h)) (rows_text canvas stride w 0 h) []

-- ---- the whole text

unfoldable pub picture_text : Ending → ℕ → ℕ → Report → ℕ → List ℕ → List ℕ
picture_text ending consumed ink report stride canvas =
    status_line ending consumed
    ++ size_line report.width report.height
    ++ extent_line report.right report.bottom
    ++ ratio_line report.ratio
    ++ background_line report.transparent
    ++ ink_line ink
    ++ picture_rows canvas stride report.width report.height

unfoldable pub refusal_text : Refusal → List ℕ
refusal_text refusal = count_line (words "refused ") (number_of refusal)
