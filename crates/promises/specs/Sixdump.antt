-- What the program `sixdump` prints (docs/RULES.md, section 13): the text that the bytes of its input mean, said over the definition of a
-- DCS sequence. Of the code only its words for numbers, bytes and rows of a canvas are used. A text is the list of its bytes.
use Rattle.std.specs.Prelude.{ℕ, List, ◌++◌, replicate}
use Rattle.std.proofs.Math.Option.{none, some}
use Rattle.text.specs.Text.{decimal, words}
use Rattle.colours.specs.Palette.{standard}
use Rattle.meaning.specs.Drawing.{Limits, Setting}
use Rattle.meaning.specs.Payload.{Ratio, by_raster, left_to_p1, Report, finished, turned_down}
use Rattle.meaning.specs.Sessions.{End, complete, cancelled, interrupted}
use Rattle.meaning.specs.Calls.{setting_for}
use Rattle.meaning.specs.Demands.{Whole, sequence_whole}
use Rattle.pieces.specs.Pieces.{held}
use Rattle.dump.specs.Dump.{count_line, stop_line, size_line, extent_line, background_line, ink_line, rows_text}

-- ---- what the program is opened with

-- rule 13.1: W, H, R and M
unfoldable pub sixdump_limits : Limits
sixdump_limits = record { width = 128; height = 128; repeats = 128; pixels = 16384 }

-- a canvas of 128 x 128 pixels, four bytes each
unfoldable pub sixdump_stride : ℕ
sixdump_stride = 128

unfoldable pub sixdump_size : ℕ
sixdump_size = 65536

-- rule 13.1: these together
unfoldable pub sixdump_setting : Setting
unfolding sixdump_limits sixdump_stride sixdump_size setting_for
sixdump_setting = setting_for sixdump_limits sixdump_stride sixdump_size

-- at the opening each of its bytes is 0
unfoldable pub sixdump_opening : List ℕ
sixdump_opening = replicate sixdump_size 0

-- ---- lines

-- rule 13.3: a refusal is this line alone
unfoldable pub refused_line : ℕ → List ℕ
refused_line n = count_line (words "refused ") n

-- rule 13.2: status and bytes consumed; `cancelled`, `interrupted` add the byte as two upper-case hex digits
unfoldable pub status_line : End → ℕ → List ℕ
status_line complete n = count_line (words "complete ") n
status_line (cancelled byte) n = stop_line (words "cancelled ") n byte
status_line (interrupted byte) n = stop_line (words "interrupted ") n byte

-- rule 13.2: the ratio as `2:1`, or `p1` and its number or `none`
unfoldable pub ratio_line : Ratio → List ℕ
ratio_line (by_raster n) = words "ratio " ++ decimal n ++ words ":1\n"
ratio_line (left_to_p1 none) = words "ratio p1 none\n"
ratio_line (left_to_p1 (some n)) = count_line (words "ratio p1 ") n

-- ---- the text

-- rule 13.2: of a report: status, size, extent, ratio, background, ink, and the picture's rows, which start at the canvas's first pixel
unfoldable pub report_text : End → ℕ → ℕ → Report → ℕ → List ℕ → List ℕ
unfolding status_line ratio_line
report_text end consumed ink report stride canvas =
    status_line end consumed
    ++ size_line report.size.width report.size.height
    ++ extent_line report.extent.width report.extent.height
    ++ ratio_line report.ratio
    ++ background_line report.clear
    ++ ink_line ink
    ++ rows_text canvas stride report.size.width 0 report.size.height

-- rule 13.3: of what a stream means: its refusal; else 8 where it has not ended; else the report of its finish, with the counts
-- saturated at 2^64 - 1 and the rows of the canvas that the finish leaves. At an end there always is a report: the last refusal
-- never comes.
unfoldable pub whole_text : ℕ → Whole End → List ℕ
unfolding refused_line report_text
whole_text stride w =
    elim w.refusal [
      | none ↦
          elim w.end [
            | none ↦ refused_line 8
            | some end ↦
                elim w.finish [
                  | finished report ↦ report_text end (held w.consumed) (held w.ink) report stride w.settled
                  | turned_down n ↦ refused_line n
                ]
          ]
      | some n ↦ refused_line n
    ]

-- rule 13.1: of an input
unfoldable pub sixdump_text : List ℕ → List ℕ
sixdump_text bytes = whole_text sixdump_stride (sequence_whole sixdump_setting standard sixdump_opening bytes)
