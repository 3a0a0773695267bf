-- Laws of marks: what a finish reports of them follows from the commands alone, and nothing else that is answered or shown depends on them.
use Prim.Native.Nat.{ℕ, ◌+◌, ◌≤◌, min, max}
use native.Mathlib.Omega.{arith}
use mathlib.Core.Path.{◌≡◌, refl, sym, ap, ◌∙◌, subst}
use mathlib.Core.Bool.{Bool, true, false, cond, ◌&&◌, ◌||◌, or-false, or_assoc, or_comm}
use mathlib.Core.Option.{Option, none, some}
use mathlib.Core.List.{List, [], ◌∷◌}
use lib.Dec.{eqb, ltb, lit≤}
use lib.IntN.{pos}
use lib.ListN.{length, get_or}
use Rattle.numbers.specs.Values.{decimal, values}
use Rattle.colours.specs.declared.Palette.{Palette}
use Rattle.colours.specs.Palette.{register_of, rgb_colour, hls_colour}
use Rattle.colours.specs.Marks.{is_marked, is_defined, defined, defined_rgb, defined_hls, lasting, defined_count}
use Rattle.colours.proofs.MarkLaws.{IsWhole, lasting-whole, lasting-register, lasting-marked, lasting-defined, defined-whole, command-marked, command-defined, command-register, counted_same, counted-most}
use Rattle.canvas.specs.Picture.{Stroke, Area, grown_to}
use Rattle.meaning.specs.Commands.{repeat, colour, raster, Command, argued, return, line, draw, Placed, commands, ended_commands}
use Rattle.meaning.specs.Drawing.{Setting, Pen, Raster, Drawing, Drawn, drawn, refused, background_of, blank, with_pen, with_repeats, moved, repeated, selected, redefined, coloured, size_refusal, unless, with_raster, rastered, stretched, raster_after, stroke_of, stroked, sixelled, draw_command, Outcome, and_then, draw_all, ink_of_all}
use Rattle.meaning.specs.Payload.{Parameters, payload, drawn_so_far, payload_ink, Finished, finished, turned_down, report_of, finish}
use Rattle.meaning.specs.Reader.{Turn, stream}
use Rattle.meaning.specs.Sessions.{End}
use Rattle.meaning.specs.OneShot.{Found, found, lacking, refused_with, find_payload, answer_of, one_shot}
use Rattle.meaning.specs.Sequence.{sequence_payload, sequence_end, sequence_refusal, sequence_drawn, sequence_finish, sequence_ink}
use Rattle.meaning.specs.Calls.{Answer, shown, drawing_found}
use Rattle.meaning.specs.Callers.{Feed}
use Rattle.meaning.specs.Demands.{Concluded, concluded, Whole, payload_whole, sequence_whole, DemandTwo}
use Rattle.meaning.specs.Definitions.{values_define, defines, some_defines, commands_found, MarksFollow, ReportMarks, FinishMarks, MarksKept, SameColours, SameDrawn, SameFinishes, SameWholes}
use Rattle.meaning.proofs.Cases.{cond-case, option-case}
use Rattle.meaning.proofs.CommandLaws.{Gives, rastered-gives, unless-case}

-- ---- what commands mark

-- palette q is p with these registers defined
record Adds (p : Palette) (f : ℕ → Bool) (q : Palette) : Type 0 where
  whole : IsWhole q
  marked : (n : ℕ) → is_marked q n ≡ (is_marked p n || f (min n 255))
  defined : (n : ℕ) → is_defined q n ≡ (is_defined p n || f (min n 255))

adds_none : {p : Palette} → IsWhole p → Adds p (λ n. false) p
adds_none h = record { whole = h; marked = λ n. sym (or-false _); defined = λ n. sym (or-false _) }

-- one register
adds_one : {p : Palette} (k color : ℕ) → IsWhole p → Adds p (λ n. eqb n k) (defined p k color)
adds_one {p} k color h =
    record {
      whole = defined-whole p k color h;
      marked = λ n. command-marked p k color n h ∙ or_comm (eqb (min n 255) k) (is_marked p n);
      defined = λ n. command-defined p k color n h ∙ or_comm (eqb (min n 255) k) (is_defined p n);
    }

-- and then others
adds-more : {p q r : Palette} {f g : ℕ → Bool} → Adds p f q → Adds q g r → Adds p (λ n. f n || g n) r
adds-more {p} {f = f} {g = g} x y =
    record {
      whole = y.whole;
      marked = λ n. y.marked n ∙ rw (x.marked n) (or_assoc (is_marked p n) (f (min n 255)) (g (min n 255)));
      defined = λ n. y.defined n ∙ rw (x.defined n) (or_assoc (is_defined p n) (f (min n 255)) (g (min n 255)));
    }

-- a colour command defines its register where its values say so
redefined-adds : (p : Palette) (vs : List ℕ) → IsWhole p → Adds p (values_define vs) (redefined p (selected vs) vs)
unfolding values_define redefined defined_hls defined_rgb
redefined-adds p vs h = go (eqb (length vs) 5) (eqb (get_or vs 1 0) 1) (eqb (get_or vs 1 0) 2)
  where
    hls : ℕ
    hls = hls_colour (pos (get_or vs 2 0)) (pos (get_or vs 3 0)) (pos (get_or vs 4 0))

    rgb : ℕ
    rgb = rgb_colour (pos (get_or vs 2 0)) (pos (get_or vs 3 0)) (pos (get_or vs 4 0))

    go : (five one two : Bool)
        → Adds p (λ n. five && ((one || two) && eqb n (selected vs)))
        (cond five (cond one (defined p (selected vs) hls) (cond two (defined p (selected vs) rgb) p)) p)
    go true true two = adds_one (selected vs) hls h
    go true false true = adds_one (selected vs) rgb h
    go true false false = adds_none h
    go false one two = adds_none h

-- a command defines the registers that it is said to
command-adds : (s : Setting) (c : Command) (d : Drawing) → IsWhole d.palette
    → Gives (λ e. Adds d.palette (defines c) e.palette) (draw_command s c d)
unfolding defines draw_command repeated with_pen coloured with_raster sixelled stroked
command-adds s (argued repeat bs) d h =
    cond-case (Gives (λ e. Adds d.palette (λ n. false) e.palette)) (ltb s.limits.repeats (decimal bs)) (λ _. (lit≤ tt, lit≤ tt))
    (λ _. adds_none h)
command-adds s (argued colour bs) d h = redefined-adds d.palette (values 5 bs) h
command-adds s (argued raster bs) d h =
    rastered-gives (λ e. Adds d.palette (λ n. false) e.palette) s (raster_after d.raster (values 4 bs)) d (λ a. adds_none h)
command-adds s return d h = adds_none h
command-adds s line d h = adds_none h
command-adds s (draw bits) d h =
    unless-case (Gives (λ e. Adds d.palette (λ n. false) e.palette)) s d.area _ _ _ (λ n low high. (low, high)) (λ _. adds_none h)

-- and so do all of them, where none is refused
draw_all-adds : (s : Setting) (cs : List Placed) (d : Drawing) → IsWhole d.palette → (draw_all s cs d).refusal ≡ none
    → Adds d.palette (some_defines cs) (draw_all s cs d).drawing.palette
unfolding some_defines draw_all and_then
draw_all-adds s [] d h ok = adds_none h
draw_all-adds s (c ∷ cs) d h ok = go (draw_command s c.command d) (command-adds s c.command d h) ok (λ e. draw_all-adds s cs e)
  where
    go : (x : Drawn) → Gives (λ e. Adds d.palette (defines c.command) e.palette) x → (and_then d x (draw_all s cs)).refusal ≡ none
        → ((e : Drawing) → IsWhole e.palette → (draw_all s cs e).refusal ≡ none → Adds e.palette (some_defines cs) (draw_all s cs e).drawing.palette)
        → Adds d.palette (λ n. defines c.command n || some_defines cs n) (and_then d x (draw_all s cs)).drawing.palette
    go (drawn e) one none-refused later = adds-more one (later e one.whole none-refused)
    go (refused n) one none-refused later = absurd (let never : ◌≡◌ {A = ℕ} 0 1 = cc in omega arith)

-- What a report hands on says nothing of which registers the frame defined.
pub reported-none : (o : Parameters) (d : Drawing) (n : ℕ) → is_defined (report_of o d).palette n ≡ false
unfolding report_of
reported-none o d n = lasting-defined d.palette n

-- It has the marks that the drawing has then, and its colours.
pub reported-marked : (o : Parameters) (d : Drawing) (n : ℕ) → is_marked (report_of o d).palette n ≡ is_marked d.palette n
unfolding report_of
reported-marked o d n = lasting-marked d.palette n

pub reported-colours : (o : Parameters) (d : Drawing) → SameColours (report_of o d).palette d.palette
unfolding report_of
reported-colours o d = lasting-register d.palette

-- It counts each register once at most.
pub reported-most : (o : Parameters) (d : Drawing) → (report_of o d).defined ≤ 256
unfolding report_of defined_count
reported-most o d = counted-most (is_defined d.palette) 256

-- What finishing after some commands reports of marks follows from them.
outcome-marks : (s : Setting) (o : Parameters) (p : Palette) (cs : List Placed) → ReportMarks p cs (finish o (draw_all s cs (blank p o.p2)))
unfolding finish report_of defined_count blank
outcome-marks s o p cs = option-case (ReportMarks p cs) (draw_all s cs (blank p o.p2)).refusal (λ ok. marks (adds ok)) (λ n _. tt)
  where
    end : Drawing
    end = (draw_all s cs (blank p o.p2)).drawing

    adds : (draw_all s cs (blank p o.p2)).refusal ≡ none → Adds (lasting p) (some_defines cs) end.palette
    adds ok = draw_all-adds s cs (blank p o.p2) (lasting-whole p) ok

    marks : Adds (lasting p) (some_defines cs) end.palette → MarksFollow p cs (report_of o end)
    marks a =
        record {
          marks = λ n. reported-marked o end n ∙ a.marked n ∙ ap (λ (t : Bool). t || some_defines cs (min n 255)) (lasting-marked p n);
          count = counted_same (is_defined end.palette) (some_defines cs) 256
              (λ k less. let here : min k 255 ≡ k = omega arith in a.defined k ∙ rw (lasting-defined p k, here) refl);
          handed = reported-none o end;
        }

module _ (s : Setting) (p : Palette) where
  -- Of a payload.
  pub payload-marks : (o : Parameters) (bs : List ℕ) → ReportMarks p (commands bs) (finish o (payload s o p bs))
  unfolding payload
  payload-marks o bs = outcome-marks s o p (commands bs)

  -- what a found payload answers
  answer-marks : (f : Found) → ReportMarks p (commands_found f) (answer_of s p f)
  unfolding answer_of commands_found
  answer-marks (found o part) = payload-marks o part
  answer-marks lacking = tt
  answer-marks (refused_with n) = tt

  -- Of a DCS sequence.
  pub sequence-marks : (bs : List ℕ) → ReportMarks p (commands_found (sequence_payload bs)) (sequence_finish s p bs)
  unfolding sequence_finish
  sequence-marks bs = go (sequence_end bs)
    where
      go : (e : Option End)
          → ReportMarks p (commands_found (sequence_payload bs)) (elim e [ none ↦ turned_down 8 | some _ ↦ answer_of s p (sequence_payload bs) ])
      go none = tt
      go (some e) = answer-marks (sequence_payload bs)

  -- Of an input read all at once.
  pub one-shot-marks : (bs : List ℕ) → ReportMarks p (commands_found (find_payload bs)) (one_shot s p bs)
  unfolding one_shot
  one-shot-marks bs = answer-marks (find_payload bs)

-- what concluding a finish leaves
pub concluded-marks : (picture canvas : List ℕ) (p owner : Palette) (cs : List Placed) (f : Finished) → ReportMarks p cs f
    → FinishMarks p owner cs (concluded picture owner canvas f)
unfolding concluded
concluded-marks picture canvas p owner cs (finished r) m =
    record { reported = m; handed = λ t e. cc; kept = λ n e. absurd (let never : ◌≡◌ {A = ℕ} 0 1 = cc in omega arith) }
concluded-marks picture canvas p owner cs (turned_down n) m =
    record { reported = tt; handed = λ r e. absurd (let never : ◌≡◌ {A = ℕ} 0 1 = cc in omega arith); kept = λ k e. refl }

-- So it is of any reader that keeps demand 2, where it is of what a stream means.
pub reader-marks : {H E : Type 0} {feed : Feed H (Answer E)} {canvas : H → List ℕ} {finish : H → Palette → Concluded} {meant : List ℕ → Whole E}
    {h : H} {ts : List Turn} (p : Palette) (said : List ℕ → List Placed) → ((bs : List ℕ) → ReportMarks p (said bs) (meant bs).finish)
    → DemandTwo feed canvas finish meant h ts → MarksKept feed finish p said h ts
reader-marks {feed = feed} {canvas} {finish} {meant} {h} {ts} p said marks two through owner =
    subst (FinishMarks p owner (said (stream ts))) (sym (two.finishes through owner))
    (concluded-marks _ _ p owner (said (stream ts)) (meant (stream ts)).finish (marks (stream ts)))

-- ---- marks do not show

-- a drawing with another palette
unfoldable swapped : Drawing → Palette → Drawing
swapped d q =
    record { pen = d.pen; strokes = d.strokes; area = d.area; raster = d.raster; held = d.held; palette = q; background = d.background }

-- two drawings that differ in marks alone
record Alike (d e : Drawing) : Type 0 where
  same : e ≡ swapped d e.palette
  colours : SameColours d.palette e.palette
  whole : IsWhole d.palette
  other : IsWhole e.palette

-- what a command makes of them: such drawings again, or one refusal
data BothAlike : Drawn → Drawn → Type 0 where
  both_drawn : {d e : Drawing} → Alike d e → BothAlike (drawn d) (drawn e)
  both_refused : {n : ℕ} → BothAlike (refused n) (refused n)

cond-alike : (t : Bool) {x y v w : Drawn} → BothAlike x y → BothAlike v w → BothAlike (cond t x v) (cond t y w)
cond-alike true h k = h
cond-alike false h k = k

unless-alike : {d e : Drawing} (o : Option ℕ) → Alike d e → BothAlike (unless o d) (unless o e)
unfolding unless
unless-alike none h = both_drawn h
unless-alike (some n) h = both_refused

-- palettes of the same colours, with the same register redefined
redefined-colours : (p q : Palette) (vs : List ℕ) → IsWhole p → IsWhole q → SameColours p q
    → SameColours (redefined p (selected vs) vs) (redefined q (selected vs) vs)
unfolding redefined defined_hls defined_rgb
redefined-colours p q vs wp wq h n = go (eqb (length vs) 5) (eqb (get_or vs 1 0) 1) (eqb (get_or vs 1 0) 2)
  where
    one-colour : (color : ℕ) → register_of (defined p (selected vs) color) n ≡ register_of (defined q (selected vs) color) n
    one-colour color = command-register p (selected vs) color n wp ∙ rw (h n) (sym (command-register q (selected vs) color n wq))

    hls : ℕ
    hls = hls_colour (pos (get_or vs 2 0)) (pos (get_or vs 3 0)) (pos (get_or vs 4 0))

    rgb : ℕ
    rgb = rgb_colour (pos (get_or vs 2 0)) (pos (get_or vs 3 0)) (pos (get_or vs 4 0))

    after : Bool → Bool → Bool → Palette → Palette
    after five one two x = cond five (cond one (defined x (selected vs) hls) (cond two (defined x (selected vs) rgb) x)) x

    go : (five one two : Bool) → register_of (after five one two p) n ≡ register_of (after five one two q) n
    go true true two = one-colour hls
    go true false true = one-colour rgb
    go true false false = h n
    go false one two = h n

-- a command makes the same of a drawing and of one with another palette of its colours
module _ (s : Setting) (d : Drawing) (q : Palette) (whole : IsWhole d.palette) (other : IsWhole q) (h : SameColours d.palette q) where
  pen-alike : (x : Pen) → Alike (with_pen d x) (with_pen (swapped d q) x)
  unfolding with_pen swapped
  pen-alike x = record { same = refl; colours = h; whole = whole; other = other }

  raster-alike : (r : Raster) (a : Area) → Alike (with_raster d r a) (with_raster (swapped d q) r a)
  unfolding with_raster swapped
  raster-alike r a = record { same = refl; colours = h; whole = whole; other = other }

  -- a stroke has its colour from the palette
  stroke-alike : (bits : ℕ) → Alike (stroked d (stroke_of bits d)) (stroked (swapped d q) (stroke_of bits (swapped d q)))
  unfolding stroked stroke_of swapped
  stroke-alike bits =
      record {
        same = ap (λ (px : List ℕ). swapped (stroked d (in_colour px)) q) (sym (h d.pen.register));
        colours = h;
        whole = whole;
        other = other;
      }
    where
      in_colour : List ℕ → Stroke
      in_colour px =
          record {
            column = d.pen.column;
            row = d.pen.row;
            repeat = d.pen.repeats;
            bits = bits;
            colour = px;
            register = d.pen.register;
          }

  command-swapped : (c : Command) → BothAlike (draw_command s c d) (draw_command s c (swapped d q))
  unfolding draw_command repeated coloured rastered stretched sixelled swapped
  command-swapped (argued repeat bs) =
      cond-alike (ltb s.limits.repeats (decimal bs)) both_refused (both_drawn (pen-alike (with_repeats d.pen (max 1 (decimal bs)))))
  command-swapped (argued colour bs) =
      both_drawn
      (record {
        same = refl;
        colours = redefined-colours d.palette q (values 5 bs) whole other h;
        whole = (redefined-adds d.palette (values 5 bs) whole).whole;
        other = (redefined-adds q (values 5 bs) other).whole;
      })
  command-swapped (argued raster bs) =
      let r : Raster = raster_after d.raster (values 4 bs) in
      let w : ℕ = max 1 r.width in
      let n : ℕ = max 1 r.height in
      cond-alike (eqb (r.width + r.height) 0) (both_drawn (raster-alike r d.area))
      (unless-alike (size_refusal s d.area w n) (raster-alike r (grown_to d.area w n)))
  command-swapped return = both_drawn (pen-alike (moved d.pen 0 d.pen.row))
  command-swapped line = both_drawn (pen-alike (moved d.pen 0 (d.pen.row + 6)))
  command-swapped (draw bits) =
      unless-alike (size_refusal s d.area (d.pen.column + d.pen.repeats) (d.pen.row + 6)) (stroke-alike bits)

command-alike : (s : Setting) (c : Command) {d e : Drawing} → Alike d e → BothAlike (draw_command s c d) (draw_command s c e)
command-alike s c {d} {e} a =
    subst (λ (x : Drawing). BothAlike (draw_command s c d) (draw_command s c x)) (sym a.same)
    (command-swapped s d e.palette a.whole a.other a.colours c)

-- what commands in their order come to: such drawings, and one refusal
record OutcomesAlike (x y : Outcome) : Type 0 where
  refusal : x.refusal ≡ y.refusal
  drawing : Alike x.drawing y.drawing

draw_all-alike : (s : Setting) (cs : List Placed) {d e : Drawing} → Alike d e → OutcomesAlike (draw_all s cs d) (draw_all s cs e)
unfolding draw_all and_then
draw_all-alike s [] a = record { refusal = refl; drawing = a }
draw_all-alike s (c ∷ cs) {d} {e} a = go (command-alike s c.command a) (λ f g. draw_all-alike s cs)
  where
    go : {x y : Drawn} → BothAlike x y → ((f g : Drawing) → Alike f g → OutcomesAlike (draw_all s cs f) (draw_all s cs g))
        → OutcomesAlike (and_then d x (draw_all s cs)) (and_then e y (draw_all s cs))
    go (both_drawn {d = f} {e = g} b) later = later f g b
    go both_refused later = record { refusal = refl; drawing = a }

-- the drawings before the first byte
blank-alike : (p q : Palette) (p2 : Option ℕ) → SameColours p q → Alike (blank p p2) (blank q p2)
unfolding blank background_of swapped
blank-alike p q p2 h =
    let lasts : SameColours (lasting p) (lasting q) = λ n. lasting-register p n ∙ h n ∙ sym (lasting-register q n) in
    record { same = ap on (rw (lasts 0) refl); colours = lasts; whole = lasting-whole p; other = lasting-whole q }
  where
    first : Drawing
    first = blank p p2

    on : List ℕ → Drawing
    on background =
        record { pen = first.pen; strokes = []; area = first.area; raster = first.raster; held = first.held; palette = lasting q; background = background }

-- drawings that differ in marks alone, told part by part
parts : {x y : Outcome} → OutcomesAlike x y → SameDrawn x y
unfolding swapped
parts {x} {y} a =
    let same : y.drawing ≡ swapped x.drawing y.drawing.palette = a.drawing.same in
    record {
      refusal = a.refusal;
      pen = sym (ap (λ (d : Drawing). d.pen) same);
      strokes = sym (ap (λ (d : Drawing). d.strokes) same);
      area = sym (ap (λ (d : Drawing). d.area) same);
      raster = sym (ap (λ (d : Drawing). d.raster) same);
      held = sym (ap (λ (d : Drawing). d.held) same);
      background = sym (ap (λ (d : Drawing). d.background) same);
      palette = a.drawing.colours;
    }

-- two outcomes that are the same but for marks finish so, with the count that their commands give
finishes-alike : (o : Parameters) (p q : Palette) (cs : List Placed) (x y : Outcome) → SameDrawn x y
    → ReportMarks p cs (finish o x) → ReportMarks q cs (finish o y) → SameFinishes (finish o x) (finish o y)
unfolding finish report_of
finishes-alike o p q cs x y same = go x.refusal y.refusal same.refusal
  where
    ending : Option ℕ → Outcome → Finished
    ending a out = elim a [ none ↦ finished (report_of o out.drawing) | some n ↦ turned_down n ]

    go : (a b : Option ℕ) → a ≡ b → ReportMarks p cs (ending a x) → ReportMarks q cs (ending b y) → SameFinishes (ending a x) (ending b y)
    go none none e f g =
        record {
          size = same.area;
          held = rw same.held refl;
          ratio = rw same.raster refl;
          clear = refl;
          extent = rw same.strokes refl;
          defined = f.count ∙ sym g.count;
          declared = rw same.raster refl;
          palette = λ n. reported-colours o x.drawing n ∙ same.palette n ∙ sym (reported-colours o y.drawing n);
        }
    go none (some n) e f g = absurd (let never : ◌≡◌ {A = ℕ} 0 1 = cc in omega arith)
    go (some m) none e f g = absurd (let never : ◌≡◌ {A = ℕ} 0 1 = cc in omega arith)
    go (some m) (some n) e f g = cc

module _ (s : Setting) (p q : Palette) (h : SameColours p q) where
  -- Owners that show the same colours get the same drawing of a payload.
  pub payload_same : (o : Parameters) (bs : List ℕ) → SameDrawn (payload s o p bs) (payload s o q bs)
  unfolding payload
  payload_same o bs = parts (draw_all-alike s (commands bs) (blank-alike p q o.p2 h))

  pub drawn-same : (o : Parameters) (bs : List ℕ) → SameDrawn (drawn_so_far s o p bs) (drawn_so_far s o q bs)
  unfolding drawn_so_far
  drawn-same o bs = parts (draw_all-alike s (ended_commands bs) (blank-alike p q o.p2 h))

  -- They get the same answer of a finish.
  pub payload-finish-same : (o : Parameters) (bs : List ℕ) → SameFinishes (finish o (payload s o p bs)) (finish o (payload s o q bs))
  payload-finish-same o bs =
      finishes-alike o p q (commands bs) (payload s o p bs) (payload s o q bs) (payload_same o bs) (payload-marks s p o bs) (payload-marks s q o bs)

  answer-same : (f : Found) → SameFinishes (answer_of s p f) (answer_of s q f)
  unfolding answer_of
  answer-same (found o part) = payload-finish-same o part
  answer-same lacking = refl
  answer-same (refused_with n) = refl

  pub sequence-finish-same : (bs : List ℕ) → SameFinishes (sequence_finish s p bs) (sequence_finish s q bs)
  unfolding sequence_finish
  sequence-finish-same bs = go (sequence_end bs)
    where
      ending : Option End → Palette → Finished
      ending e x = elim e [ none ↦ turned_down 8 | some _ ↦ answer_of s x (sequence_payload bs) ]

      go : (e : Option End) → SameFinishes (ending e p) (ending e q)
      go none = refl
      go (some e) = answer-same (sequence_payload bs)

  pub one-shot-same : (bs : List ℕ) → SameFinishes (one_shot s p bs) (one_shot s q bs)
  unfolding one_shot
  one-shot-same bs = answer-same (find_payload bs)

  -- what the canvas shows of two such drawings
  shown-same : {x y : Outcome} → SameDrawn x y → (opening : List ℕ)
      → shown s.stride (some x.drawing) opening ≡ shown s.stride (some y.drawing) opening
  unfolding shown
  shown-same e opening = rw (e.area, e.background, e.strokes) refl

  -- All that a payload comes to is the same for both: refusal, end, bytes consumed, ink, canvas and finish.
  pub payload-whole-same : (o : Parameters) (opening bs : List ℕ) → SameWholes (payload_whole s o p opening bs) (payload_whole s o q opening bs)
  unfolding payload_whole payload_ink
  payload-whole-same o opening bs =
      record {
        refusal = (drawn-same o bs).refusal;
        end = refl;
        consumed = refl;
        ink = ap ink_of_all (payload_same o bs).strokes;
        shown = shown-same (drawn-same o bs) opening;
        settled = shown-same (payload_same o bs) opening;
        finish = payload-finish-same o bs;
      }

  -- So is all that a DCS sequence comes to.
  pub sequence-whole-same : (opening bs : List ℕ) → SameWholes (sequence_whole s p opening bs) (sequence_whole s q opening bs)
  unfolding sequence_whole sequence_refusal sequence_drawn sequence_ink payload_ink drawing_found shown
  sequence-whole-same opening bs =
      record {
        refusal = refusal (sequence_payload bs);
        end = refl;
        consumed = refl;
        ink = ink (sequence_payload bs);
        shown = read (sequence_payload bs);
        settled = settled (sequence_payload bs);
        finish = sequence-finish-same bs;
      }
    where
      refusal : (f : Found)
          → ◌≡◌ {A = Option ℕ} (elim f [ found o part ↦ (drawn_so_far s o p part).refusal | lacking ↦ none | refused_with n ↦ some n ])
          (elim f [ found o part ↦ (drawn_so_far s o q part).refusal | lacking ↦ none | refused_with n ↦ some n ])
      refusal (found o part) = (drawn-same o part).refusal
      refusal lacking = refl
      refusal (refused_with n) = refl

      ink : (f : Found)
          → ◌≡◌ {A = ℕ} (elim f [ found o part ↦ payload_ink s o p part | lacking ↦ 0 | refused_with n ↦ 0 ])
          (elim f [ found o part ↦ payload_ink s o q part | lacking ↦ 0 | refused_with n ↦ 0 ])
      ink (found o part) = ap ink_of_all (payload_same o part).strokes
      ink lacking = refl
      ink (refused_with n) = refl

      read : (f : Found)
          → shown s.stride (elim f [ found o part ↦ some (drawn_so_far s o p part).drawing | lacking ↦ none | refused_with n ↦ none ]) opening
          ≡ shown s.stride (elim f [ found o part ↦ some (drawn_so_far s o q part).drawing | lacking ↦ none | refused_with n ↦ none ]) opening
      read (found o part) = shown-same (drawn-same o part) opening
      read lacking = refl
      read (refused_with n) = refl

      settled : (f : Found) → shown s.stride (drawing_found s p f) opening ≡ shown s.stride (drawing_found s q f) opening
      settled (found o part) = shown-same (payload_same o part) opening
      settled lacking = refl
      settled (refused_with n) = refl
