-- The rows that are printed, pixel by pixel, and the example of rule 13.4, computed from its bytes.
use Prim.Native.Nat.{ℕ, zero, suc, ◌+◌, ◌-◌, ◌*◌, ◌≤◌, ◌<◌}
use native.Mathlib.Omega.{arith}
use mathlib.Core.Bool.{true}
use mathlib.Core.Option.{Option, none, some}
use mathlib.Core.List.{List, [], ◌++◌}
use mathlib.Core.Path.{◌≡◌, refl, ap, ap₂, ◌∙◌}
use borrow.Author.Tests.{lt-ltb}
use lib.ListN.{length, drop, get_or}
use Rattle.text.specs.Text.{digits, decimal, hex_digit, hex, words}
use Rattle.canvas.specs.Picture.{Stroke, Area, fits, visible, shown_colour, picture}
use Rattle.canvas.proofs.Covers.{and_both}
use Rattle.canvas.proofs.Pictures.{picture-pixel}
use Rattle.colours.specs.Palette.{standard}
use Rattle.meaning.specs.Commands.{ended_commands}
use Rattle.meaning.specs.Drawing.{Drawing}
use Rattle.meaning.specs.Payload.{Parameters, no_parameters, payload, drawn_so_far, Report, report_of, finished}
use Rattle.meaning.specs.Sessions.{End, complete}
use Rattle.meaning.specs.Sequence.{sequence_payload, sequence_end, sequence_consumed, sequence_refusal, sequence_ink, sequence_finish}
use Rattle.meaning.specs.Calls.{shown, drawing_found}
use Rattle.meaning.specs.Demands.{Whole, sequence_whole}
use Rattle.meaning.proofs.Trials.{computed}
use Rattle.pieces.specs.Pieces.{held}
use Rattle.dump.specs.Dump.{count_line, pair_line, size_line, extent_line, background_line, ink_line, pixel_text, further_text, row_text, rows_text}
use Rattle.promises.specs.Sixdump.{sixdump_setting, sixdump_opening, status_line, ratio_line, report_text, sixdump_text}
use Rattle.promises.proofs.SixdumpText.{text-ended, opening-long}

-- ---- rows

-- four bytes as RRGGBBAA
unfoldable pub colour_text : List ℕ → List ℕ
colour_text px = hex (get_or px 0 0) ++ hex (get_or px 1 0) ++ hex (get_or px 2 0) ++ hex (get_or px 3 0)

-- the colours shown from (x, y) on to the right, a space before each
unfoldable pub further_colours : (ℕ → ℕ → List ℕ) → ℕ → ℕ → ℕ → List ℕ
unfolding colour_text
further_colours shown x y zero = []
further_colours shown x y (suc n) = words " " ++ colour_text (shown x y) ++ further_colours shown (x + 1) y n

-- those of so many rows from row y on
unfoldable pub colour_rows : (ℕ → ℕ → List ℕ) → ℕ → ℕ → ℕ → List ℕ
unfolding further_colours
colour_rows shown width y zero = []
colour_rows shown width y (suc n) =
    (colour_text (shown 0 y) ++ further_colours shown 1 y (width - 1) ++ words "\n") ++ colour_rows shown width (y + 1) n

module _ (stride : ℕ) (area : Area) (background : List ℕ) (strokes : List Stroke) (opening : List ℕ)
    (room : fits stride (length opening) area ≡ true) where
  abbrev canvas : List ℕ
  canvas = picture stride area background strokes opening

  abbrev colours : ℕ → ℕ → List ℕ
  colours = shown_colour background strokes

  pixel-shown : (x y p : ℕ) → p ≡ y * stride + x → x < area.width → y < area.height → pixel_text canvas p ≡ colour_text (colours x y)
  unfolding pixel_text colour_text visible
  pixel-shown x y p at left above =
      let seen : visible area x y ≡ true = and_both (lt-ltb x area.width left) (lt-ltb y area.height above) in
      let byte : (c : ℕ) → c < 4 → get_or canvas (4 * p + c) 0 ≡ get_or (colours x y) c 0 =
      λ c h. ap (λ (q : ℕ). get_or canvas (4 * q + c) 0) at ∙ picture-pixel stride area background strokes opening x y c room seen h in
      let first : get_or canvas (4 * p) 0 ≡ get_or (colours x y) 0 0 = ap (λ (k : ℕ). get_or canvas k 0) (omega arith) ∙ byte 0 (omega arith) in
      rw (first, byte 1 (omega arith), byte 2 (omega arith), byte 3 (omega arith)) refl

  further-shown : (n x y p : ℕ) → p ≡ y * stride + x → x + n ≤ area.width → y < area.height
      → further_text canvas p n ≡ further_colours colours x y n
  unfolding further_text further_colours
  further-shown zero x y p at left above = refl
  further-shown (suc n) x y p at left above =
      ap₂ (λ (one more : List ℕ). words " " ++ one ++ more) (pixel-shown x y p at (omega arith) above)
      (further-shown n (x + 1) y (p + 1) (omega arith) (omega arith) above)

  -- the rows of a picture are the colours that its strokes show
  pub rows-shown : (n y : ℕ) → 1 ≤ area.width → y + n ≤ area.height
      → rows_text canvas stride area.width y n ≡ colour_rows colours area.width y n
  unfolding rows_text row_text colour_rows
  rows-shown zero y wide tall = refl
  rows-shown (suc n) y wide tall =
      ap₂ (λ (one more : List ℕ). one ++ more)
      (ap₂ (λ (one more : List ℕ). one ++ more ++ words "\n") (pixel-shown 0 y (y * stride) (omega arith) (omega arith) (omega arith))
      (further-shown (area.width - 1) 1 y (y * stride + 1) refl (omega arith) (omega arith)))
      (rows-shown n (y + 1) wide (omega arith))

-- ---- the text of a drawing that is reported

-- it has nothing of the canvas
unfoldable pub drawn_text : End → ℕ → ℕ → Parameters → Drawing → List ℕ
unfolding colour_rows status_line ratio_line
drawn_text end consumed ink o d =
    let r : Report = report_of o d in
    status_line end consumed
    ++ size_line r.size.width r.size.height
    ++ extent_line r.extent.width r.extent.height
    ++ ratio_line r.ratio
    ++ background_line r.clear
    ++ ink_line ink
    ++ colour_rows (shown_colour d.background d.strokes) r.size.width 0 r.size.height

drawn-text : (end : End) (consumed ink : ℕ) (o : Parameters) (d : Drawing) (stride : ℕ) (opening : List ℕ)
    → fits stride (length opening) d.area ≡ true → 1 ≤ d.area.width
    → report_text end consumed ink (report_of o d) stride (shown stride (some d) opening) ≡ drawn_text end consumed ink o d
unfolding report_text drawn_text report_of shown
drawn-text end consumed ink o d stride opening room wide =
    ap
    (λ (rows : List ℕ).
    status_line end consumed
    ++ size_line d.area.width d.area.height
    ++ extent_line (report_of o d).extent.width (report_of o d).extent.height
    ++ ratio_line (report_of o d).ratio
    ++ background_line (report_of o d).clear
    ++ ink_line ink
    ++ rows)
    (rows-shown stride d.area d.background d.strokes opening room d.area.height 0 wide (omega arith))

-- ---- the example of rule 13.4

-- 1B `Pq#1;2;100;0;0!2B` 1B `\`
unfoldable pub input : List ℕ
unfolding words
input = words "\u{1b}Pq#1;2;100;0;0!2B\u{1b}\\"

-- the drawing of its payload; its header gives no number
unfoldable drawing : Drawing
unfolding input
drawing = (payload sixdump_setting no_parameters standard (drop 3 input)).drawing

input-refusal : sequence_refusal sixdump_setting standard input ≡ none
unfolding computed sequence_refusal drawn_so_far ended_commands input sixdump_setting
input-refusal = refl

input-end : sequence_end input ≡ some complete
unfolding computed sequence_end input
input-end = refl

input-consumed : sequence_consumed input ≡ 20
unfolding computed sequence_consumed input
input-consumed = refl

input-ink : sequence_ink sixdump_setting standard input ≡ 4
unfolding computed sequence_ink input sixdump_setting
input-ink = refl

input-finish : sequence_finish sixdump_setting standard input ≡ finished (report_of no_parameters drawing)
unfolding computed sequence_finish drawing input sixdump_setting
input-finish = refl

input-drawing : drawing_found sixdump_setting standard (sequence_payload input) ≡ some drawing
unfolding computed sequence_payload drawing_found drawing input sixdump_setting
input-drawing = refl

drawing-fits : fits 128 65536 drawing.area ≡ true
unfolding computed drawing input sixdump_setting
drawing-fits = refl

drawing-wide : drawing.area.width ≡ 2
unfolding computed drawing input sixdump_setting
drawing-wide = refl

-- what it prints, line by line
unfoldable pub output : List ℕ
unfolding words
output =
    words "complete 20\n"
    ++ words "size 2 6\n"
    ++ words "extent 2 2\n"
    ++ words "ratio p1 none\n"
    ++ words "background opaque\n"
    ++ words "ink 4\n"
    ++ words "FF0000FF FF0000FF\n"
    ++ words "FF0000FF FF0000FF\n"
    ++ words "000000FF 000000FF\n"
    ++ words "000000FF 000000FF\n"
    ++ words "000000FF 000000FF\n"
    ++ words "000000FF 000000FF\n"

drawing-text : drawn_text complete 20 4 no_parameters drawing ≡ output
unfolding computed drawing input sixdump_setting drawn_text size_line extent_line background_line ink_line count_line pair_line
    decimal digits hex hex_digit output
drawing-text = refl

-- Rule 13.4. It prints exactly this.
pub sixdump-example : sixdump_text input ≡ output
unfolding sixdump_text sequence_whole sixdump_setting held
sixdump-example =
    let w : Whole End = sequence_whole sixdump_setting standard sixdump_opening input in
    let r : Report = report_of no_parameters drawing in
    let room : fits 128 (length sixdump_opening) drawing.area ≡ true =
    ap (λ (n : ℕ). fits 128 n drawing.area) opening-long ∙ drawing-fits in
    text-ended 128 w input-refusal input-end input-finish
    ∙ ap₂ (λ (n i : ℕ). report_text complete (held n) (held i) r 128 w.settled) input-consumed input-ink
    ∙ ap (λ (d : Option Drawing). report_text complete 20 4 r 128 (shown 128 d sixdump_opening)) input-drawing
    ∙ drawn-text complete 20 4 no_parameters drawing 128 sixdump_opening room (omega (arith, drawing-wide))
    ∙ drawing-text
