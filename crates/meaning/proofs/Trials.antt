-- How a worked example is computed: an input is read, and what a row says of the outcome is tested.
use Prim.Native.Nat.{ℕ, ◌+◌, ◌-◌, ◌*◌}
use Prim.Native.Char.{code}
use Prim.Native.String.{String, [] as nil, ◌∷◌ as cons}
use mathlib.Core.Bool.{Bool, true, false, not, ◌&&◌}
use mathlib.Core.Option.{Option, none, some}
use mathlib.Core.List.{List, [], ◌∷◌}
use lib.Count.{ones}
use lib.Dec.{eqb}
use lib.Ieee as Ieee
use lib.ListN.{length, drop, get_or}
use Rattle.numbers.specs.Bytes as Bytes
use Rattle.numbers.specs.Values as Values
use Rattle.hls.specs.Hls as Hls
use Rattle.hls.specs.Turn as Turn
use Rattle.hls.specs.Percent as Percent
use Rattle.colours.specs.Packing as Packing
use Rattle.colours.specs.Standard as Standard
use Rattle.colours.specs.Palette as Registers
use Rattle.colours.specs.Palette.{standard}
use Rattle.colours.specs.Marks as Marks
use Rattle.colours.specs.Marks.{is_marked}
use Rattle.canvas.specs.Picture as Picture
use Rattle.canvas.specs.Picture.{Area, shown_colour}
use Rattle.meaning.specs.Commands as Commands
use Rattle.meaning.specs.Drawing as Strokes
use Rattle.meaning.specs.Drawing.{house_limits, Limits, Setting, Drawing, Outcome, ink_of_all, blank}
use Rattle.meaning.specs.Payload.{no_parameters, Ratio, by_raster, left_to_p1, Report, Finished, finished, turned_down, payload, drawn_so_far, payload_ink, report_of, finish}
use Rattle.meaning.specs.Reader.{Run, How, read_all, stopped, halted, refused_by, read_from, call}
use Rattle.meaning.specs.Sessions.{Reading, opened, payload_step, rested, End, complete, cancelled, interrupted, Phase, start, dcs_step, finish_dcs}
use Rattle.meaning.specs.OneShot.{Found, found, lacking, refused_with, find_payload, part_of, one_shot}
use Rattle.meaning.specs.Sequence.{sequence_end, sequence_consumed, sequence_refusal, sequence_drawn, sequence_finish, sequence_ink}
use Rattle.meaning.specs.Calls.{drawing_of, dcs_end, Session, Opened, is_open, not_opened, Answer, Fed, open_payload, feed_payload, finish_payload}

-- ---- rows

-- a text's characters as bytes, each the number that it has in Unicode
unfoldable pub bytes : String → List ℕ
bytes nil = []
bytes (cons c cs) = code c ∷ bytes cs

-- how an input is read: as a payload, to its finish or no further than its bytes; as a DCS sequence; or all at once
pub data Way : Type 0 where
  as_payload so_far as_dcs at_once : Way

-- what a row says: the size's or the extent's width and height, or those of the extent of what was drawn up to a refusal; ink; the pixel at
-- a column and a row, as RRGGBBAA; the ratio; the background; how many registers were defined, and how many definitions had a held value; the
-- declared width and height; a register that is marked, or is not; a refusal's number; that a DCS sequence has come to an end, or has not; and
-- what stays unread, or is the part handed back
pub data Says : Type 0 where
  size extent up_to : ℕ → ℕ → Says
  ink : ℕ → Says
  shows : ℕ → ℕ → ℕ → Says
  ratio : Ratio → Says
  transparent opaque : Says
  defines holding marked unmarked : ℕ → Says
  declares : ℕ → ℕ → Says
  refusal : ℕ → Says
  ends : End → Says
  goes_on : Says
  leaves : String → Says

pub record Row : Type 0 where
  pub way : Way
  pub setting : Setting
  pub input : String
  pub says : List Says

-- W, H, R and M, on a canvas of 1,024 x 768
abbrev pub limited : ℕ → ℕ → ℕ → ℕ → Setting
limited w h r m =
    record { limits = record { width = w; height = h; repeats = r; pixels = m }; stride = 1024; rows = 768 }

abbrev pub house : Setting
house = record { limits = house_limits; stride = 1024; rows = 768 }

-- house limits but for M, on a canvas of another stride and other rows
abbrev pub on_canvas : ℕ → ℕ → ℕ → Setting
on_canvas m stride rows =
    record {
      limits = record { width = house_limits.width; height = house_limits.height; repeats = house_limits.repeats; pixels = m };
      stride = stride;
      rows = rows;
    }

-- a payload under house limits, or under others; what has been drawn of one; a DCS sequence; an input read at once
abbrev pub row : String → List Says → Row
row t says = record { way = as_payload; setting = house; input = t; says = says }

abbrev pub under : Setting → String → List Says → Row
under s t says = record { way = as_payload; setting = s; input = t; says = says }

abbrev pub partly : String → List Says → Row
partly t says = record { way = so_far; setting = house; input = t; says = says }

abbrev pub dcs : String → List Says → Row
dcs t says = record { way = as_dcs; setting = house; input = t; says = says }

abbrev pub once : String → List Says → Row
once t says = record { way = at_once; setting = house; input = t; says = says }

-- ---- the outcome of a row

-- `presented` is the length of the input; what stays unread is `left`
pub record Result : Type 0 where
  pub answer : Finished
  pub drawing : Drawing
  pub ink : ℕ
  pub end : Option End
  pub presented : ℕ
  pub consumed : ℕ
  pub left : List ℕ

-- an answer, a drawing and its ink, an end, and so many bytes consumed of an input
unfoldable pub resulting : Finished → Drawing → ℕ → Option End → ℕ → List ℕ → Result
resulting f d i e n bs = record { answer = f; drawing = d; ink = i; end = e; presented = length bs; consumed = n; left = drop n bs }

-- the payload as a whole, and byte by byte for its ink and what stays unread
unfoldable pub payload_result : Setting → List ℕ → Result
unfolding resulting
payload_result s bs =
    let out : Outcome = payload s no_parameters standard bs in
    let run : Run Reading = read_from (payload_step s) (opened no_parameters standard) bs in
    resulting (finish no_parameters out) out.drawing run.ink none run.consumed bs

-- all of it as a whole
unfoldable pub payload_meant : Setting → List ℕ → Result
unfolding resulting payload_ink Commands.body
payload_meant s bs =
    let out : Outcome = payload s no_parameters standard bs in
    resulting (finish no_parameters out) out.drawing (payload_ink s no_parameters standard bs) none (length (Commands.body bs)) bs

-- a drawing, blank where there is none
unfoldable pub or_blank : Option Drawing → Drawing
or_blank none = blank standard none
or_blank (some d) = d

-- the refusal that ended the reading, or else what finishing answers
unfoldable pub refusal_or : How → Finished → Finished
refusal_or read_all f = f
refusal_or stopped f = f
refusal_or halted f = f
refusal_or (refused_by n) f = turned_down n

-- the refusal that reading comes to, or else what finishing answers
unfoldable pub refused_or : Option ℕ → Finished → Finished
refused_or none f = f
refused_or (some n) f = turned_down n

-- what has been drawn of a payload, byte by byte; its size is the visible area then
unfoldable pub so_far_result : Setting → List ℕ → Result
unfolding resulting refusal_or
so_far_result s bs =
    let run : Run Reading = read_from (payload_step s) (opened no_parameters standard) bs in
    resulting (refusal_or run.how (finished (report_of no_parameters run.state.drawing))) run.state.drawing run.ink none
    run.consumed bs

-- and as a whole
unfoldable pub so_far_meant : Setting → List ℕ → Result
unfolding resulting drawn_so_far Commands.ended_commands Commands.body
so_far_meant s bs =
    let out : Outcome = drawn_so_far s no_parameters standard bs in
    resulting (finish no_parameters out) out.drawing (ink_of_all out.drawing.strokes) none (length (Commands.body bs)) bs

-- a DCS sequence byte by byte
unfoldable pub dcs_result : Setting → List ℕ → Result
unfolding resulting or_blank refusal_or
dcs_result s bs =
    let run : Run Phase = read_from (dcs_step s standard) start bs in
    resulting (refusal_or run.how (finish_dcs s run.state)) (or_blank (drawing_of run.state)) run.ink (dcs_end run.state)
    run.consumed bs

-- and as a whole
unfoldable pub dcs_meant : Setting → List ℕ → Result
unfolding resulting or_blank refused_or sequence_end sequence_consumed sequence_refusal sequence_drawn sequence_finish sequence_ink
    Commands.ended_commands
dcs_meant s bs =
    resulting (refused_or (sequence_refusal s standard bs) (sequence_finish s standard bs)) (or_blank (sequence_drawn s standard bs))
    (sequence_ink s standard bs) (sequence_end bs) (sequence_consumed bs) bs

unfoldable pub found_drawing : Setting → Found → Drawing
found_drawing s (found o part) = (payload s o standard part).drawing
found_drawing s lacking = blank standard none
found_drawing s (refused_with n) = blank standard none

-- what is left is the part handed back
unfoldable pub at_once_result : Setting → List ℕ → Result
unfolding found_drawing
at_once_result s bs =
    let d : Drawing = found_drawing s (find_payload bs) in
    record {
      answer = one_shot s standard bs;
      drawing = d;
      ink = ink_of_all d.strokes;
      end = none;
      presented = length bs;
      consumed = length bs - length (part_of (find_payload bs));
      left = part_of (find_payload bs);
    }

-- a payload and a sequence come to two results, byte by byte and as a whole, and a row must say what is so of each
unfoldable pub results_of : Way → Setting → List ℕ → List Result
unfolding payload_result payload_meant so_far_result so_far_meant dcs_result dcs_meant at_once_result
results_of as_payload s bs = payload_result s bs ∷ payload_meant s bs ∷ []
results_of so_far s bs = so_far_result s bs ∷ so_far_meant s bs ∷ []
results_of as_dcs s bs = dcs_result s bs ∷ dcs_meant s bs ∷ []
results_of at_once s bs = at_once_result s bs ∷ []

-- ---- the test of a row

unfoldable pub same_bytes : List ℕ → List ℕ → Bool
same_bytes [] [] = true
same_bytes [] (c ∷ cs) = false
same_bytes (b ∷ bs) [] = false
same_bytes (b ∷ bs) (c ∷ cs) = eqb b c && same_bytes bs cs

unfoldable pub same_area : Area → ℕ → ℕ → Bool
same_area a w h = eqb a.width w && eqb a.height h

unfoldable pub same_option : Option ℕ → Option ℕ → Bool
same_option none none = true
same_option none (some n) = false
same_option (some m) none = false
same_option (some m) (some n) = eqb m n

unfoldable pub same_ratio : Ratio → Ratio → Bool
unfolding same_option
same_ratio (by_raster m) (by_raster n) = eqb m n
same_ratio (by_raster m) (left_to_p1 n) = false
same_ratio (left_to_p1 m) (by_raster n) = false
same_ratio (left_to_p1 m) (left_to_p1 n) = same_option m n

unfoldable pub same_end : End → End → Bool
same_end complete complete = true
same_end complete (cancelled c) = false
same_end complete (interrupted c) = false
same_end (cancelled b) complete = false
same_end (cancelled b) (cancelled c) = eqb b c
same_end (cancelled b) (interrupted c) = false
same_end (interrupted b) complete = false
same_end (interrupted b) (cancelled c) = false
same_end (interrupted b) (interrupted c) = eqb b c

-- a pixel's four bytes as one number
unfoldable pub as_number : List ℕ → ℕ
as_number px = ((get_or px 0 0 * 256 + get_or px 1 0) * 256 + get_or px 2 0) * 256 + get_or px 3 0

unfoldable pub reports : Finished → (Report → Bool) → Bool
reports (finished r) test = test r
reports (turned_down n) test = false

unfoldable pub refuses : Finished → ℕ → Bool
refuses (finished r) m = false
refuses (turned_down n) m = eqb n m

unfoldable pub ends_by : Option End → End → Bool
unfolding same_end
ends_by none e = false
ends_by (some d) e = same_end d e

unfoldable pub unended : Option End → Bool
unended none = true
unended (some d) = false

-- what is said is so; ink is both that of the strokes and that of the bytes, and all but what is left was consumed
unfoldable pub is_so : Result → Says → Bool
unfolding same_bytes same_area same_ratio as_number reports refuses ends_by unended bytes
is_so r (size w h) = reports r.answer (λ a. same_area a.size w h)
is_so r (extent w h) = reports r.answer (λ a. same_area a.extent w h)
is_so r (up_to w h) = same_area (Strokes.extent_of r.drawing.strokes) w h
is_so r (ink n) = eqb (ink_of_all r.drawing.strokes) n && eqb r.ink n
is_so r (shows x y n) = eqb (as_number (shown_colour r.drawing.background r.drawing.strokes x y)) n
is_so r (ratio q) = reports r.answer (λ a. same_ratio a.ratio q)
is_so r transparent = reports r.answer (λ a. a.clear)
is_so r opaque = reports r.answer (λ a. not a.clear)
is_so r (defines n) = reports r.answer (λ a. eqb a.defined n)
is_so r (holding n) = reports r.answer (λ a. eqb a.held n)
is_so r (declares w h) = reports r.answer (λ a. same_area a.declared w h)
is_so r (marked n) = reports r.answer (λ a. is_marked a.palette n)
is_so r (unmarked n) = reports r.answer (λ a. not (is_marked a.palette n))
is_so r (refusal n) = refuses r.answer n
is_so r (ends e) = ends_by r.end e
is_so r goes_on = unended r.end
is_so r (leaves t) = same_bytes r.left (bytes t) && eqb r.consumed (r.presented - length (bytes t))

unfoldable pub all_so : Result → List Says → Bool
unfolding is_so
all_so r [] = true
all_so r (x ∷ xs) = elim (is_so r x) [ true ↦ all_so r xs | false ↦ false ]

unfoldable pub all_results : List Result → List Says → Bool
unfolding all_so
all_results [] xs = true
all_results (r ∷ rs) xs = elim (all_so r xs) [ true ↦ all_results rs xs | false ↦ false ]

unfoldable pub row_holds : Row → Bool
unfolding all_results results_of
row_holds w = all_results (results_of w.way w.setting (bytes w.input)) w.says

-- the test of a table
unfoldable pub rows_hold : List Row → Bool
unfolding row_holds
rows_hold [] = true
rows_hold (w ∷ ws) = elim (row_holds w) [ true ↦ rows_hold ws | false ↦ false ]

-- ---- calls

-- what a caller does with a session: feed it, on a canvas of so many bytes and with an allowance, or finish it on such a canvas
pub data Act : Type 0 where
  feeding : ℕ → ℕ → String → Act
  finishing : ℕ → Act

-- what the caller hears: a feed's answer, a finish's size, or the refusal of a finish or an opening
pub data Heard : Type 0 where
  fed : Answer ℕ → Heard
  sized : ℕ → ℕ → Heard
  declined : ℕ → Heard

-- a payload session's limits and its canvas's stride and bytes; the acts; and what each must hear
pub record Calls : Type 0 where
  pub limits : Limits
  pub stride : ℕ
  pub length : ℕ
  pub acts : List Act
  pub hears : List Heard

-- house limits but for W 8, on a canvas of 1,024 x 768
abbrev pub house_calls : List Act → List Heard → Calls
house_calls acts hears =
    record {
      limits = record { width = 8; height = 768; repeats = 1024; pixels = 786432 };
      stride = 1024;
      length = 3145728;
      acts = acts;
      hears = hears;
    }

-- W, H 12, R 8 and M 96, on a canvas of 8 x 12
abbrev pub calls : ℕ → List Act → List Heard → Calls
calls w acts hears =
    record {
      limits = record { width = w; height = 12; repeats = 8; pixels = 96 };
      stride = 8;
      length = 384;
      acts = acts;
      hears = hears;
    }

unfoldable pub finish_heard : Finished → Heard
finish_heard (finished r) = sized r.size.width r.size.height
finish_heard (turned_down n) = declined n

unfoldable pub acts_heard : Session Reading → List Act → List Heard
unfolding finish_heard bytes
acts_heard s [] = []
acts_heard s (feeding n a t ∷ acts) =
    let f : Fed Reading ℕ = feed_payload s n a (bytes t) in fed f.answer ∷ acts_heard f.session acts
acts_heard s (finishing n ∷ acts) = finish_heard (finish_payload s n) ∷ acts_heard s acts

unfoldable pub opened_heard : Opened Reading → List Act → List Heard
unfolding acts_heard
opened_heard (is_open s) acts = acts_heard s acts
opened_heard (not_opened n) acts = declined n ∷ []

unfoldable pub heard : Calls → List Heard
unfolding opened_heard
heard c = opened_heard (open_payload c.limits c.stride c.length no_parameters standard) c.acts

-- ---- what the tests compute through

-- to unfold this is to unfold every operation below
unfoldable pub computed : Bool
unfolding payload finish finish_dcs one_shot find_payload part_of read_from call payload_step rested dcs_step dcs_end drawing_of opened blank
    open_payload feed_payload finish_payload ink_of_all Strokes.strokes_since shown_colour standard Commands.commands Strokes.draw_all Strokes.extent_of
    Bytes.ends Bytes.skipped Bytes.sixel Bytes.digit Values.decimal Values.values Values.held16
    Picture.reach Picture.grown_to Picture.rows_of Picture.fits Picture.colour_at Picture.last_stroke Picture.or_here Picture.covers Picture.in_sixel
    Picture.span Picture.bit Picture.depth
    Registers.of_table Registers.register_of Registers.rgb_colour Registers.hls_colour Registers.packed_bytes
    Registers.recoloured Registers.stored Registers.set_rgb Registers.set_hls Registers.rgb_held Registers.hls_held
    Marks.is_marked Marks.is_defined Marks.defined Marks.defined_rgb Marks.defined_hls Marks.lasting Marks.counted Marks.defined_count
    Standard.listed Standard.standard_at Standard.base Standard.cube Standard.grey Standard.percents
    Packing.packed Packing.pixel_of Percent.percent_byte Percent.held Percent.outside Turn.turned Turn.modulo360
    Hls.hls_bytes Hls.grey Hls.coloured Hls.between Hls.channel_byte Hls.hue_to_rgb Hls.placed Hls.channel Hls.lowered Hls.raised Hls.over Hls.upper
    Hls.upper_by Ieee.to_unsigned Ieee.add Ieee.sub Ieee.mul Ieee.div Ieee.lt Ieee.of_int ones
computed = true
