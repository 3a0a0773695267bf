-- The text that `sixdump` prints has room in the program's buffer of 147,583 bytes: no text is truncated.
use Prim.Native.Nat.{ℕ, zero, suc, ◌+◌, ◌-◌, ◌*◌, ◌/◌, ◌%◌, ◌^◌, max, ◌≤◌, ◌<◌}
use native.Mathlib.Nat.{pow-suc, mul-le-mul}
use native.Mathlib.Omega.{arith}
use mathlib.Core.Bool.{Bool, true, false}
use mathlib.Core.Option.{Option, none, some, map}
use mathlib.Core.List.{List, [], ◌∷◌, ◌++◌}
use mathlib.Core.Path.{◌≡◌, refl, sym, ap, ◌∙◌, subst}
use borrow.Author.Tests.{ltb-false}
use lib.Dec.{leb, ltb, eqb}
use lib.ListN.{length, drop, get_or, get_elem?, length-append}
use Rattle.text.specs.Text.{digits, decimal, hex, words}
use Rattle.text.proofs.Laws.{put-room}
use Rattle.numbers.specs.Bytes.{skipped, ends}
use Rattle.numbers.specs.Values as values
use Rattle.numbers.specs.Values.{held16}
use Rattle.canvas.specs.Picture.{rows_of}
use Rattle.colours.specs.declared.Palette.{Palette}
use Rattle.colours.specs.Palette.{standard}
use Rattle.meaning.specs.Commands.{repeat, colour, raster, Command, argued, return, line, draw, Placed, of_values, commands}
use Rattle.meaning.specs.Drawing.{Setting, Raster, Drawing, Drawn, drawn, refused, size_refusal, unless, quotient, ratio_after, raster_after, draw_command, and_then, draw_all, blank}
use Rattle.meaning.specs.OneShot.{Found, found, lacking, refused_with, after_introducer, header_from, find_payload, answer_of, one_shot}
use Rattle.meaning.specs.Payload.{Parameters, no_parameters, payload, Ratio, by_raster, left_to_p1, ratio_of, Report, report_of, Finished, finished, turned_down, finish}
use Rattle.meaning.specs.Sessions.{End, complete, cancelled, interrupted, HeaderByte, goes_on, settles, wrong, parameters_of, header_byte}
use Rattle.meaning.specs.Sequence.{sequence_payload, sequence_finish}
use Rattle.meaning.specs.Calls as calls
use Rattle.meaning.specs.Demands.{Whole, sequence_whole}
use Rattle.meaning.proofs.Cases.{cond-case}
use Rattle.meaning.specs.Sizes.{Roomy}
use Rattle.meaning.proofs.AreaLaws.{opens-roomy, payload-sound, outcome-reports, extent-inside}
use Rattle.meaning.proofs.SequenceLaws.{ended-found}
use Rattle.pieces.specs.declared.Standing.TheVariants as standings
use Rattle.pieces.specs.Pieces.{held}
use Rattle.pieces.specs.Stream.{joined}
use Rattle.dump.specs.Outcome.{dumped_by}
use Rattle.dump.specs.Dump.{count_line, pair_line, stop_line, size_line, extent_line, background_line, ink_line, pixel_text, further_text, row_text, rows_text}
use Rattle.promises.proofs.SixdumpText.{text-refused, text-unended, text-ended, text-declined, reader_after, canvas_after, sixdump-prints-input}
use Rattle.promises.specs.Sixdump.{sixdump_limits, sixdump_stride, sixdump_size, sixdump_setting, sixdump_opening, refused_line, status_line, ratio_line, report_text, whole_text, sixdump_text}

-- ---- numbers

-- no more digits than places
places-most : (places n : ℕ) → length (digits places n) ≤ places
unfolding digits
places-most zero n = omega arith
places-most (suc places) n =
    cond-case (λ (ds : List ℕ). length ds ≤ suc places) (ltb n 10) (λ _. omega arith)
    (λ _. omega (arith, length-append (digits places (n / 10)) ((48 + n % 10) ∷ []), places-most places (n / 10)))

-- and below 10^k no more than k
digits-most : (places k n : ℕ) → n < 10 ^ suc k → length (digits places n) ≤ suc k
unfolding digits
digits-most zero k n h = omega arith
digits-most (suc places) zero n h =
    cond-case (λ (ds : List ℕ). length ds ≤ 1) (ltb n 10) (λ _. omega arith)
    (λ e. absurd (let big : 10 ≤ n = ltb-false n 10 e in omega arith))
digits-most (suc places) (suc k) n h =
    let few : n < 10 ^ suc k * 10 = rw (pow-suc 10 (suc k)) at h in
    cond-case (λ (ds : List ℕ). length ds ≤ suc (suc k)) (ltb n 10) (λ _. omega arith)
    (λ _. omega (arith, length-append (digits places (n / 10)) ((48 + n % 10) ∷ []), digits-most places k (n / 10) (omega arith)))

decimal-most : (n : ℕ) → length (decimal n) ≤ 20
unfolding decimal
decimal-most n = places-most 20 n

decimal-small : (n : ℕ) → n ≤ 128 → length (decimal n) ≤ 3
unfolding decimal
decimal-small n h = digits-most 20 2 n (omega arith)

decimal-16 : (n : ℕ) → n ≤ 65535 → length (decimal n) ≤ 5
unfolding decimal
decimal-16 n h = digits-most 20 4 n (omega arith)

-- ---- lines

count_most : (name : List ℕ) (n : ℕ) {k : ℕ} → length (decimal n) ≤ k → length (count_line name n) ≤ length name + k + 1
unfolding count_line words
count_most name n h = simp length-append (omega (arith, h))

pair-most : (name : List ℕ) (a b : ℕ) → a ≤ 128 → b ≤ 128 → length (pair_line name a b) ≤ length name + 8
unfolding pair_line words
pair-most name a b h k = simp length-append (omega (arith, decimal-small a h, decimal-small b k))

stop-most : (name : List ℕ) (n byte : ℕ) → length (stop_line name n byte) ≤ length name + 24
unfolding stop_line words hex
stop-most name n byte = simp length-append (omega (arith, decimal-most n))

status-most : (e : End) (n : ℕ) → length (status_line e n) ≤ 36
unfolding status_line words
status-most complete n = omega (arith, count_most (words "complete ") n (decimal-most n))
status-most (cancelled byte) n = omega (arith, stop-most (words "cancelled ") n byte)
status-most (interrupted byte) n = omega (arith, stop-most (words "interrupted ") n byte)

-- the numbers that a ratio has: a raster's is at most 5, and P1 has 16 bits
abbrev UpTo : ℕ → Option ℕ → Type 0
UpTo most none = Unit {0}
UpTo most (some n) = n ≤ most

abbrev RatioLow : Ratio → Type 0
RatioLow (by_raster n) = n ≤ 5
RatioLow (left_to_p1 p1) = UpTo 65535 p1

ratio-most : (r : Ratio) → RatioLow r → length (ratio_line r) ≤ 15
unfolding ratio_line words
ratio-most (by_raster n) h = simp length-append (omega (arith, decimal-16 n (omega arith)))
ratio-most (left_to_p1 none) h = omega arith
ratio-most (left_to_p1 (some n)) h = omega (arith, count_most (words "ratio p1 ") n (decimal-16 n h))

background-most : (clear : Bool) → length (background_line clear) ≤ 23
unfolding background_line words
background-most true = omega arith
background-most false = omega arith

-- ---- rows

-- a pixel is eight bytes, and a further one nine
pixel-long : (canvas : List ℕ) (p : ℕ) → length (pixel_text canvas p) ≡ 8
unfolding pixel_text hex
pixel-long canvas p = simp length-append (omega arith)

further-long : (canvas : List ℕ) (p n : ℕ) → length (further_text canvas p n) ≡ 9 * n
unfolding further_text words
further-long canvas p zero = omega arith
further-long canvas p (suc n) =
    simp length-append (omega (arith, pixel-long canvas p, further-long canvas (p + 1) n))

row-long : (canvas : List ℕ) (p width : ℕ) → 1 ≤ width → length (row_text canvas p width) ≡ 9 * width
unfolding row_text words
row-long canvas p width h =
    simp length-append (omega (arith, pixel-long canvas p, further-long canvas (p + 1) (width - 1)))

rows_long : (canvas : List ℕ) (stride width y n : ℕ) → 1 ≤ width → length (rows_text canvas stride width y n) ≡ n * (9 * width)
unfolding rows_text
rows_long canvas stride width y zero h = omega arith
rows_long canvas stride width y (suc n) h =
    simp length-append (omega (arith, row-long canvas (y * stride) width h, rows_long canvas stride width (y + 1) n h))

-- ---- the text of a report

-- what it is to be small: 128 columns and rows at most, the extent inside, and a ratio as above
record Small (r : Report) : Type 0 where
  wide : 1 ≤ r.size.width
  width : r.size.width ≤ 128
  height : r.size.height ≤ 128
  right : r.extent.width ≤ 128
  bottom : r.extent.height ≤ 128
  ratio : RatioLow r.ratio

report-most : (e : End) (consumed ink : ℕ) (r : Report) (stride : ℕ) (canvas : List ℕ) → Small r
    → length (report_text e consumed ink r stride canvas) ≤ 147583
unfolding report_text size_line extent_line ink_line words
report-most e consumed ink r stride canvas h =
    let columns : 9 * r.size.width ≤ 1152 = omega (arith, h.width) in
    let rows : r.size.height * (9 * r.size.width) ≤ 128 * 1152 = mul-le-mul h.height columns in
    simp length-append
    (omega (
      arith,
      status-most e consumed,
      pair-most (words "size ") r.size.width r.size.height h.width h.height,
      pair-most (words "extent ") r.extent.width r.extent.height h.right h.bottom,
      ratio-most r.ratio h.ratio,
      background-most r.clear,
      count_most (words "ink ") ink (decimal-most ink),
      rows_long canvas stride r.size.width 0 r.size.height h.wide,
      rows,
    ))

refused-most : (n : ℕ) → length (refused_line n) ≤ 147583
unfolding refused_line words
refused-most n = omega (arith, count_most (words "refused ") n (decimal-most n))

-- ---- the ratio of a drawing

-- a raster's is 1, 2, 3 or 5
quotient-low : (v h : ℕ) → UpTo 5 (quotient v h)
unfolding quotient
quotient-low v h =
    cond-case (UpTo 5) (eqb v h) (λ _. omega arith)
    λ _. cond-case (UpTo 5) (eqb v (2 * h)) (λ _. omega arith)
    λ _. cond-case (UpTo 5) (eqb v (3 * h)) (λ _. omega arith)
    λ _. cond-case (UpTo 5) (eqb v (5 * h)) (λ _. omega arith) (λ _. tt)

after-low : (old : Option ℕ) (vs : List ℕ) → UpTo 5 old → UpTo 5 (ratio_after old vs)
unfolding ratio_after
after-low old vs h = cond-case (UpTo 5) (leb 2 (length vs)) (λ _. quotient-low (max 1 (get_or vs 0 0)) (max 1 (get_or vs 1 0))) (λ _. h)

abbrev Low : Drawing → Type 0
Low d = UpTo 5 d.raster.ratio

abbrev DrawnLow : Drawn → Type 0
DrawnLow (drawn d) = Low d
DrawnLow (refused n) = Unit {0}

unless-low : (o : Option ℕ) (d : Drawing) → Low d → DrawnLow (unless o d)
unfolding unless
unless-low none d h = h
unless-low (some n) d h = tt

-- no other command changes it
command-low : (s : Setting) (c : Command) (d : Drawing) → Low d → DrawnLow (draw_command s c d)
unfolding draw_command
command-low s (argued repeat bs) d h = cond-case DrawnLow (ltb s.limits.repeats (values.decimal bs)) (λ _. tt) (λ _. h)
command-low s (argued colour bs) d h = h
command-low s (argued raster bs) d h =
    let r : Raster = raster_after d.raster (values.values 4 bs) in
    let low : UpTo 5 r.ratio = after-low d.raster.ratio (values.values 4 bs) h in
    cond-case DrawnLow (eqb (r.width + r.height) 0) (λ _. low)
    (λ _. unless-low (size_refusal s d.area (max 1 r.width) (max 1 r.height)) _ low)
command-low s return d h = h
command-low s line d h = h
command-low s (draw bits) d h = unless-low (size_refusal s d.area (d.pen.column + d.pen.repeats) (d.pen.row + 6)) _ h

all-low : (s : Setting) (cs : List Placed) (d : Drawing) → Low d → Low (draw_all s cs d).drawing
unfolding draw_all
all-low s [] d h = h
all-low s (c ∷ cs) d h = go (draw_command s c.command d) (command-low s c.command d h) (λ e k. all-low s cs e k)
  where
    go : (x : Drawn) → DrawnLow x → ((e : Drawing) → Low e → Low (draw_all s cs e).drawing) → Low (and_then d x (draw_all s cs)).drawing
    go (drawn e) k later = later e k
    go (refused n) k later = h

-- ---- P1 has 16 bits

held_low : (o : Option ℕ) → UpTo 65535 (map held16 o)
unfolding held16
held_low none = tt
held_low (some n) = omega arith

abbrev FoundLow : Found → Type 0
FoundLow (found o part) = UpTo 65535 o.p1
FoundLow lacking = Unit {0}
FoundLow (refused_with n) = Unit {0}

abbrev HeaderLow : HeaderByte → Type 0
HeaderLow (goes_on more) = Unit {0}
HeaderLow (settles o) = UpTo 65535 o.p1
HeaderLow (wrong n) = Unit {0}

byte_low : (got : List ℕ) (b : ℕ) → HeaderLow (header_byte got b)
unfolding header_byte parameters_of
byte_low got b =
    cond-case HeaderLow (skipped b) (λ _. tt)
    λ _. cond-case HeaderLow (of_values b) (λ _. tt)
    λ _. cond-case HeaderLow (eqb b 0x71) (λ _. held_low (get_elem? (values.values 3 got) 0))
    λ _. cond-case HeaderLow (ends b) (λ _. tt) (λ _. tt)

header-low : (got bs : List ℕ) → FoundLow (header_from got bs)
unfolding header_from
header-low got [] = tt
header-low got (b ∷ bs) = go (header_byte got b) (byte_low got b) (λ more. header-low more bs)
  where
    go : (x : HeaderByte) → HeaderLow x → ((more : List ℕ) → FoundLow (header_from more bs))
        → FoundLow (elim x as (λ _. Found) [ goes_on more ↦ header_from more bs | settles o ↦ found o bs | wrong n ↦ refused_with n ])
    go (goes_on more) h later = later more
    go (settles o) h later = h
    go (wrong n) h later = tt

payload-low : (bs : List ℕ) → FoundLow (find_payload bs)
unfolding find_payload
payload-low bs = go (after_introducer bs)
  where
    go : (x : Option (List ℕ)) → FoundLow (elim x as (λ _. Found) [ none ↦ found no_parameters bs | some later ↦ header_from [] later ])
    go none = tt
    go (some later) = header-low [] later

-- ---- a report of the program

roomy : Roomy sixdump_setting
unfolding sixdump_setting calls.opens calls.limits_hold calls.ranges rows_of
roomy = opens-roomy sixdump_limits sixdump_stride sixdump_size refl

ratio-low : (p1 o : Option ℕ) → UpTo 65535 p1 → UpTo 5 o → RatioLow (ratio_of p1 o)
unfolding ratio_of
ratio-low p1 none h k = h
ratio-low p1 (some n) h k = k

drawing-small : (p : Palette) (o : Parameters) (part : List ℕ) → UpTo 65535 o.p1
    → Small (report_of o (payload sixdump_setting o p part).drawing)
unfolding sixdump_setting report_of payload blank
drawing-small p o part low =
    let sound = payload-sound roomy o p part in
    let inside = extent-inside sound in
    record {
      wide = sound.fits.wide;
      width = sound.fits.width;
      height = sound.fits.height;
      right = omega (arith, inside.width, sound.fits.width);
      bottom = omega (arith, inside.height, sound.fits.height);
      ratio =
          ratio-low o.p1 (payload sixdump_setting o p part).drawing.raster.ratio low
          (all-low sixdump_setting (commands part) (blank p o.p2) tt);
    }

report-small : (p : Palette) (bs : List ℕ) {r : Report} → one_shot sixdump_setting p bs ≡ finished r → Small r
unfolding one_shot answer_of finish
report-small p bs {r} e = go (find_payload bs) (payload-low bs) e
  where
    at : (o : Parameters) (part : List ℕ) → UpTo 65535 o.p1 → (refusal : Option ℕ) → (payload sixdump_setting o p part).refusal ≡ refusal
        → finish o (payload sixdump_setting o p part) ≡ finished r → Small r
    at o part low none q h =
        let first : Report = report_of o (payload sixdump_setting o p part).drawing in
        let same : finished first ≡ finished r = sym (outcome-reports o (payload sixdump_setting o p part) q) ∙ h in
        subst Small (ap (λ (x : Finished). elim x as (λ _. Report) [ finished a ↦ a | turned_down n ↦ r ]) same) (drawing-small p o part low)
    at o part low (some n) q h =
        let down : turned_down n ≡ finished r =
        ap
        (λ (x : Option ℕ).
        elim x as (λ _. Finished) [ none ↦ finished (report_of o (payload sixdump_setting o p part).drawing) | some m ↦ turned_down m ])
        (sym q)
        ∙ h in
        absurd (let never : ◌≡◌ {A = ℕ} 0 1 = cc in omega arith)

    go : (f : Found) → FoundLow f → answer_of sixdump_setting p f ≡ finished r → Small r
    go (found o part) low h = at o part low (payload sixdump_setting o p part).refusal refl h
    go lacking low h = absurd (let never : ◌≡◌ {A = ℕ} 0 1 = cc in omega arith)
    go (refused_with n) low h = absurd (let never : ◌≡◌ {A = ℕ} 0 1 = cc in omega arith)

-- ---- the whole text

-- it has room where each report of its finish has
whole-most : (stride : ℕ) (w : Whole End) → ((e : End) (r : Report) → w.end ≡ some e → w.finish ≡ finished r → Small r)
    → length (whole_text stride w) ≤ 147583
whole-most stride w small = go w.refusal refl w.end refl w.finish refl
  where
    go : (n : Option ℕ) → w.refusal ≡ n → (e : Option End) → w.end ≡ e → (x : Finished) → w.finish ≡ x
        → length (whole_text stride w) ≤ 147583
    go (some n) a e b x c = rw (text-refused stride w a) (refused-most n)
    go none a none b x c = rw (text-unended stride w a b) (refused-most 8)
    go none a (some e) b (finished r) c =
        rw (text-ended stride w a b c) (report-most e (held w.consumed) (held w.ink) r stride w.settled (small e r b c))
    go none a (some e) b (turned_down n) c = rw (text-declined stride w a b c) (refused-most n)

-- Every text has room.
pub sixdump-fits : (bs : List ℕ) → length (sixdump_text bs) ≤ 147583
unfolding sixdump_text sequence_whole sequence_finish one_shot
sixdump-fits bs =
    whole-most sixdump_stride (sequence_whole sixdump_setting standard sixdump_opening bs)
    λ e r end finish.
    report-small standard bs
    (ap (answer_of sixdump_setting standard) (ended-found bs end)
    ∙ sym
    (ap
    (λ (o : Option End).
    elim o as (λ _. Finished) [ none ↦ turned_down 8 | some d ↦ answer_of sixdump_setting standard (sequence_payload bs) ])
    end)
    ∙ finish)

-- So the length that is answered is the text's, and the buffer's prefix of that length, which the program prints, is the text of
-- the whole input.
pub sixdump-prints-all : (zs : List (List ℕ)) (rest out : List ℕ) → ((reader_after zs).standing ≡ standings.Reading → rest ≡ [])
    → length out ≡ 147583
    → let text : List ℕ = sixdump_text (joined zs ++ rest) in
    (dumped_by (reader_after zs) standard 128 (canvas_after zs) out).0 ≡ (length text, text ++ drop (length text) out)
sixdump-prints-all zs rest out none_left room =
    let text : List ℕ = sixdump_text (joined zs ++ rest) in
    sixdump-prints-input zs rest out none_left
    ∙ put-room text 0 out (omega (arith, sixdump-fits (joined zs ++ rest), room))
    ∙ ap (λ (n : ℕ). (n, text ++ drop n out)) (omega arith)
