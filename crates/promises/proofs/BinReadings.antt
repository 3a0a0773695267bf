-- What the bin reader tells of a picture that was read, from the promises alone: of any reader that keeps demand 2, and of a
-- reading all at once. No definition of the reader's code is unfolded.
use Prim.Native.Nat.{ℕ, ◌+◌, ◌≤◌, ◌<◌}
use native.Mathlib.Omega.{arith}
use mathlib.Core.Bool.{Bool, true, false, cond}
use mathlib.Core.List.{List, ◌∷◌, ◌++◌}
use mathlib.Core.Option.{Option, none, some}
use mathlib.Core.Path.{◌≡◌, refl, sym, ap, subst, ◌∙◌}
use lib.ListN.{length}
use Rattle.canvas.specs.Picture.{Stroke, Area, all_inside, picture, shown_colour}
use Rattle.canvas.proofs.Strokes.{inside-row}
use Rattle.colours.specs.declared.Palette.{Palette}
use Rattle.meaning.specs.Calls.{opens, setting_for, shown, drawing_found, one_shot_shown, read_one_shot, Answer}
use Rattle.meaning.specs.Callers.{Feed}
use Rattle.meaning.specs.Demands.{Concluded, concluded, payload_whole, sequence_whole, DemandTwo}
use Rattle.meaning.specs.Drawing.{Limits, Setting, Drawing, Outcome}
use Rattle.meaning.specs.OneShot.{Found, found, lacking, refused_with, find_payload, answer_of, one_shot}
use Rattle.meaning.specs.Payload.{Parameters, payload, Report, report_of, Finished, finished, turned_down, finish}
use Rattle.meaning.specs.Reader.{Turn, stream}
use Rattle.meaning.specs.Sequence.{sequence_payload, sequence_end, sequence_finish}
use Rattle.meaning.specs.Sessions.{End}
use Rattle.meaning.specs.Sizes.{Roomy}
use Rattle.meaning.proofs.AreaLaws.{opens-roomy, Sound, payload-sound, all-parts}
use Rattle.oneshot.specs.OneShot.{read_whole}
use Rattle.bins.specs.declared.Setting as bins
use Rattle.bins.specs.Bins.{setting_fits}
use Rattle.bins.specs.Facts.{Tells, shape_of, FourStrokes}
use Rattle.bins.proofs.Shown.{top-tells}
use Rattle.bins.proofs.StrokeBins.{stroke-four, stroke-bins, stroke-top}
use Rattle.promises.specs.BinReadings.{ToldByBins, FoundByBins, PayloadBins, SequenceBins}
use Rattle.promises.proofs.FourBytes.{payload-strokes-four, payload-background-four}

-- ---- a picture

-- one of the strokes inside an area is inside
one_inside : (a : Area) (before : List Stroke) (k : Stroke) (later : List Stroke) → all_inside a (before ++ k ∷ later) ≡ true
    → k.row + 6 ≤ a.height
one_inside a List.[] k later t = inside-row a k (all-parts a k later t).0
one_inside a (j ∷ before) k later t = one_inside a before k later (all-parts a j (before ++ k ∷ later) t).1

module _ (l : Limits) (stride : ℕ) (opening : List ℕ) (opening-holds : opens l stride (length opening) ≡ true) where
  abbrev setting : Setting
  setting = setting_for l stride (length opening)

  roomy : Roomy setting
  roomy = opens-roomy l stride (length opening) opening-holds

  module _ (o : Parameters) (p : Palette) (bs : List ℕ) where
    abbrev drawing : Drawing
    drawing = (payload setting o p bs).drawing

    abbrev canvas : List ℕ
    canvas = picture stride drawing.area drawing.background drawing.strokes opening

    sound : Sound setting drawing
    sound = payload-sound roomy o p bs

    top-told : (b : bins.Setting) (bin : ℕ) (colour : List ℕ) → setting_fits b drawing.area.width ≡ true → bin < b.count
        → length colour ≡ 4
        → Tells (shown_colour drawing.background drawing.strokes) (shape_of stride drawing.area) canvas b bin colour
    unfolding setting_for
    top-told b bin colour f less four =
        top-tells stride drawing.area drawing.background drawing.strokes opening sound.fits.stride sound.fits.rows
        (payload-background-four setting o p bs) (payload-strokes-four setting o p bs) b bin colour sound.fits.wide
        sound.fits.tall f less four

    -- of a stroke and those before and after it
    module _ (before : List Stroke) (k : Stroke) (later : List Stroke) (e : drawing.strokes ≡ before ++ k ∷ later) where
      abbrev parts : List Stroke
      parts = before ++ k ∷ later

      in-height : k.row + 6 ≤ drawing.area.height
      in-height =
          one_inside drawing.area before k later (subst (λ (ks : List Stroke). all_inside drawing.area ks ≡ true) e sound.strokes)

      four_bytes : length k.colour ≡ 4
      four_bytes = stroke-four before k later (subst FourStrokes e (payload-strokes-four setting o p bs))

      parts-told : (b : bins.Setting) (bin : ℕ) → setting_fits b drawing.area.width ≡ true → bin < b.count
          → Tells (shown_colour drawing.background parts) (shape_of stride drawing.area) canvas b bin k.colour
      parts-told b bin f less =
          subst
          (λ (ks : List Stroke). Tells (shown_colour drawing.background ks) (shape_of stride drawing.area) canvas b bin k.colour)
          e
          (top-told b bin k.colour f less four_bytes)

    -- Of the picture of a payload's drawing.
    picture-told : ToldByBins stride drawing.area canvas drawing
    picture-told =
        record {
          top = top-told;
          held = λ b bin before k later j e u. rw e (stroke-bins before k later j u b bin);
          stroke = λ b bin before k later j f less e u m.
              stroke-top before k later j u drawing.background (shape_of stride drawing.area) canvas b bin
              (omega (arith, u.six, in-height before k later e)) m (parts-told before k later e b bin f less);
        }

-- ---- a finish that reports

-- what it reports is the drawing's size
finish-size : (o : Parameters) (out : Outcome) (r : Report) → finish o out ≡ finished r → r.size ≡ out.drawing.area
unfolding finish report_of
finish-size o out r = go out.refusal
  where
    go : (n : Option ℕ) → elim n [ none ↦ finished (report_of o out.drawing) | some n ↦ turned_down n ] ≡ finished r
        → r.size ≡ out.drawing.area
    go none e = let same : report_of o out.drawing ≡ r = cc in sym (ap (λ (x : Report). x.size) same)
    go (some n) e = let never : ◌≡◌ {A = ℕ} 0 1 = cc in absurd (omega arith)

-- it is the definition's, and the canvas shows the picture
pub record Reported (picture : List ℕ) (meant : Finished) (x : Concluded) (r : Report) : Type 0 where
  pub answer : meant ≡ finished r
  pub canvas : x.canvas ≡ picture

concluded-reports : (picture : List ℕ) (owner : Palette) (before : List ℕ) (meant : Finished) (x : Concluded) (r : Report)
    → x ≡ concluded picture owner before meant → x.answer ≡ finished r → Reported picture meant x r
unfolding concluded
concluded-reports picture owner before (finished q) x r e a =
    record { answer = sym (ap (λ (c : Concluded). c.answer) e) ∙ a; canvas = ap (λ (c : Concluded). c.canvas) e }
concluded-reports picture owner before (turned_down n) x r e a =
    let never : turned_down n ≡ finished r = sym (ap (λ (c : Concluded). c.answer) e) ∙ a in
    let clash : ◌≡◌ {A = ℕ} 0 1 = cc in absurd (omega arith)

module _ (l : Limits) (stride : ℕ) (opening : List ℕ) (opening-holds : opens l stride (length opening) ≡ true) (p : Palette) where
  abbrev under : Setting
  under = setting_for l stride (length opening)

  -- a payload's
  payload-told : (o : Parameters) (bs : List ℕ) (r : Report) (canvas : List ℕ) → finish o (payload under o p bs) ≡ finished r
      → canvas ≡ shown stride (some (payload under o p bs).drawing) opening
      → ToldByBins stride r.size canvas (payload under o p bs).drawing
  unfolding shown
  payload-told o bs r canvas e c =
      rw (finish-size o (payload under o p bs) r e, c) (picture-told l stride opening opening-holds o p bs)

  -- of a payload that was found
  found-told : (f : Found) (r : Report) (canvas : List ℕ) → answer_of under p f ≡ finished r
      → canvas ≡ shown stride (drawing_found under p f) opening
      → FoundByBins under p f r.size canvas
  unfolding answer_of drawing_found setting_for
  found-told (found o part) r canvas e c = record { parameters = o; part = part; is_found = refl; told = payload-told o part r canvas e c }
  found-told lacking r canvas e c = let clash : ◌≡◌ {A = ℕ} 0 1 = cc in absurd (omega arith)
  found-told (refused_with n) r canvas e c = let clash : ◌≡◌ {A = ℕ} 0 1 = cc in absurd (omega arith)

  -- a sequence that reports has ended
  ended-answer : (bs : List ℕ) (r : Report) → sequence_finish under p bs ≡ finished r → answer_of under p (sequence_payload bs) ≡ finished r
  unfolding sequence_finish
  ended-answer bs r = go (sequence_end bs)
    where
      go : (n : Option End) → elim n [ none ↦ turned_down 8 | some e ↦ answer_of under p (sequence_payload bs) ] ≡ finished r
          → answer_of under p (sequence_payload bs) ≡ finished r
      go none e = let clash : ◌≡◌ {A = ℕ} 0 1 = cc in absurd (omega arith)
      go (some n) e = e

  -- ---- any reader that keeps demand 2

  module _ {H : Type 0} (canvas : H → List ℕ) (finish : H → Palette → Concluded) (h : H) (ts : List Turn) where
    -- A payload session.
    pub payload-bins : (feed : Feed H (Answer ℕ)) (o : Parameters) → DemandTwo feed canvas finish (payload_whole under o p opening) h ts
        → PayloadBins finish under p h ts feed o
    unfolding payload_whole setting_for
    payload-bins feed o demand through owner r a =
        let picture : List ℕ = shown stride (some (payload under o p (stream ts)).drawing) opening in
        let x : Reported picture _ _ r = concluded-reports picture owner _ _ _ r (demand.finishes through owner) a in
        payload-told o (stream ts) r _ x.answer x.canvas

    -- A DCS session.
    pub sequence-bins : (feed : Feed H (Answer End)) → DemandTwo feed canvas finish (sequence_whole under p opening) h ts
        → SequenceBins finish under p h ts feed
    unfolding sequence_whole setting_for
    sequence-bins feed demand through owner r a =
        let picture : List ℕ = shown stride (drawing_found under p (sequence_payload (stream ts))) opening in
        let x : Reported picture _ _ r = concluded-reports picture owner _ _ _ r (demand.finishes through owner) a in
        found-told (sequence_payload (stream ts)) r _ (ended-answer (stream ts) r x.answer) x.canvas

-- ---- a reading all at once; where it is not opened, it reports nothing

module _ (l : Limits) (stride : ℕ) (p : Palette) (opening bytes : List ℕ) (r : Report) where
  abbrev set : Setting
  set = setting_for l stride (length opening)

  if-opened : (t : Bool) → opens l stride (length opening) ≡ t → cond t (answer_of set p (find_payload bytes)) (turned_down 11) ≡ finished r
      → FoundByBins set p (find_payload bytes) r.size (cond t (shown stride (drawing_found set p (find_payload bytes)) opening) opening)
  if-opened true holds e = found-told l stride opening holds p (find_payload bytes) r _ e refl
  if-opened false holds e = let clash : ◌≡◌ {A = ℕ} 0 1 = cc in absurd (omega arith)

  -- A reading all at once.
  pub read-bins : (read_whole l stride p opening bytes).answer ≡ finished r
      → FoundByBins set p (find_payload bytes) r.size (read_whole l stride p opening bytes).canvas
  unfolding read_whole read_one_shot one_shot one_shot_shown
  read-bins = if-opened (opens l stride (length opening)) refl
