-- What the program `sixdump` prints is the text of its input (`specs/Sixdump`), however the input arrives in pieces.
use Rattle.std.specs.Prelude.{Ok, Err, Some, None}
use Prim.Native.Nat.{ℕ, ◌*◌, ◌≤◌}
use native.Mathlib.Omega.{arith}
use mathlib.Core.Bool.{true, false, true≢false}
use mathlib.Core.Option.{Option, none, some}
use mathlib.Core.List.{List, [], ◌∷◌, ◌++◌, append-nil}
use mathlib.Core.Path.{◌≡◌, refl, sym, ap, ap₂, ◌∙◌, subst}
use borrow.Author.Tests.{le-leb, lt-ltb}
use lib.ListN.{length, length-replicate}
use Rattle.text.specs.Text.{put}
use Rattle.numbers.proofs.Laws.{cond_yes}
use Rattle.canvas.specs.Copy.{has_picture}
use Rattle.canvas.specs.Picture.{area_of, rows_of, fits}
use Rattle.canvas.proofs.Covers.{and_both}
use Rattle.colours.specs.declared.Palette.{Palette}
use Rattle.colours.specs.Palette.{standard}
use Rattle.frame.specs.declared.Limits.{Limits}
use Rattle.frame.specs.declared.Refusal.{Refusal}
use Rattle.frame.specs.Numbers.{number_of}
use Rattle.meaning.specs.Calls as calls
use Rattle.meaning.specs.Demands.{Whole, sequence_whole}
use Rattle.meaning.specs.Drawing.{Setting, Drawing}
use Rattle.meaning.specs.OneShot.{Found, found, lacking, refused_with, answer_of, one_shot}
use Rattle.meaning.specs.Payload as meant
use Rattle.meaning.specs.Reader.{How, read_all, stopped, halted, refused_by, is_refused, Run, stream, ran_by}
use Rattle.meaning.specs.Sequence.{sequence_payload, sequence_end, sequence_consumed, sequence_refusal, sequence_ink, sequence_finish}
use Rattle.meaning.specs.Sessions.{End, Phase, start, dcs_step}
use Rattle.meaning.specs.Sizes.{Roomy, Fits}
use Rattle.meaning.proofs.AreaLaws.{opens-roomy}
use Rattle.meaning.proofs.DcsLaws.{read_sequence, sequence-lacking, sequence-refused-before, sequence-refused-within}
use Rattle.meaning.proofs.DcsParts.{no_end, before-open}
use Rattle.meaning.proofs.RunLaws.{ended-prefix}
use Rattle.meaning.proofs.SequenceLaws.{sequence-ended, sequence-consumed, sequence-refusal, ended-found}
use Rattle.meaning.proofs.ToldLaws.{end_told, told_more, told-refusal}
use Rattle.payload.specs.declared.Finished.{Finished}
use Rattle.payload.specs.declared.Ratio.{Ratio}
use Rattle.payload.specs.declared.Ratio.TheVariants as ratios
use Rattle.payload.specs.declared.Report.{Report}
use Rattle.payload.specs.Meant.{given_meant, ratio_meant, limits_meant, setting_meant, report_meant}
use Rattle.payload.specs.Refusals.{openable}
use Rattle.payload.specs.Session.{turned_away}
use Rattle.payload.proofs.Openings.{opens-meant}
use Rattle.dcs.specs.declared.Ending.{Ending}
use Rattle.dcs.specs.declared.Ending.TheVariants as endings
use Rattle.dcs.specs.Meant.{end_meant}
use Rattle.dcs.proofs.History as history
use Rattle.pieces.specs.declared.Reader.{Reader}
use Rattle.pieces.specs.declared.Standing.{Standing}
use Rattle.pieces.specs.declared.Standing.TheVariants as standings
use Rattle.pieces.specs.Pieces.{opened_by, held, taken_as, taken_by, finished_by}
use Rattle.pieces.specs.Stream.{joined, taken_all, how_stood}
use Rattle.pieces.proofs.Copies.{report-fits, length-shown}
use Rattle.pieces.proofs.Ends.{stood-going}
use Rattle.pieces.proofs.Promise as promise
use Rattle.pieces.proofs.Taking.{joined-append, start-follows, Taken, taken-all}
use Rattle.pieces.proofs.Turns.{now}
use Rattle.dump.specs.Dump as dump
use Rattle.dump.specs.Outcome.{ending_of, finish_text, dumped_by}
use Rattle.promises.specs.Sixdump.{refused_line, status_line, ratio_line, report_text, whole_text, sixdump_limits, sixdump_stride, sixdump_size, sixdump_setting, sixdump_opening, sixdump_text}

-- ---- lines of the code's values are those of what they mean

status-same : (e : Ending) (n : ℕ) → dump.status_line e n ≡ status_line (end_meant e) n
unfolding dump.status_line status_line end_meant
status-same endings.Complete n = refl
status-same (endings.Cancelled byte) n = refl
status-same (endings.Interrupted byte) n = refl

ratio-same : (r : Ratio) → dump.ratio_line r ≡ ratio_line (ratio_meant r)
unfolding dump.ratio_line ratio_line ratio_meant given_meant
ratio-same (ratios.Raster n) = refl
ratio-same (ratios.LeftToP1 None) = refl
ratio-same (ratios.LeftToP1 (Some n)) = refl

-- where the canvas has the picture, the whole text of a report is
report-same : (e : Ending) (consumed ink : ℕ) (r : Report) (p : Palette) (stride : ℕ) (canvas : List ℕ)
    → has_picture stride (length canvas) (area_of r.width r.height) ≡ true
    → dump.picture_text e consumed ink r stride canvas ≡ report_text (end_meant e) consumed ink (report_meant r p) stride canvas
unfolding dump.picture_text dump.picture_rows report_text report_meant
report-same e consumed ink r p stride canvas has =
    rw (status-same e consumed, ratio-same r.ratio, has) refl

-- ---- the text of a whole, by cases

module _ (stride : ℕ) (w : Whole End) where
  pub text-refused : {n : ℕ} → w.refusal ≡ some n → whole_text stride w ≡ refused_line n
  unfolding whole_text
  text-refused e = rw e refl

  pub text-unended : w.refusal ≡ none → w.end ≡ none → whole_text stride w ≡ refused_line 8
  unfolding whole_text
  text-unended e f = rw (e, f) refl

  pub text-ended : {e : End} {r : meant.Report} → w.refusal ≡ none → w.end ≡ some e → w.finish ≡ meant.finished r
      → whole_text stride w ≡ report_text e (held w.consumed) (held w.ink) r stride w.settled
  unfolding whole_text
  text-ended e f g = rw (e, f, g) refl

  pub text-declined : {e : End} {n : ℕ} → w.refusal ≡ none → w.end ≡ some e → w.finish ≡ meant.turned_down n → whole_text stride w ≡ refused_line n
  unfolding whole_text
  text-declined e f g = rw (e, f, g) refl

-- ---- a sequence that is not refused

module _ (s : Setting) (p : Palette) (bs : List ℕ) where
  -- so it is where it has come to an end
  ended-fine : {e : End} → calls.dcs_end (read_sequence s p bs).state ≡ some e → is_refused (read_sequence s p bs).how ≡ false
  unfolding is_refused calls.dcs_end
  ended-fine {e} z = go (sequence_payload bs) refl (read_sequence s p bs).how refl
    where
      go : (f : Found) → sequence_payload bs ≡ f → (h : How) → (read_sequence s p bs).how ≡ h → is_refused h ≡ false
      go lacking q h k = absurd (no_end (sym (before-open (read_sequence s p bs).state (sequence-lacking s p bs q).0) ∙ z))
      go (refused_with n) q h k = absurd (no_end (sym (before-open (read_sequence s p bs).state (sequence-refused-before s p bs q).0) ∙ z))
      go (found o part) q read_all k = refl
      go (found o part) q stopped k = refl
      go (found o part) q halted k = refl
      go (found o part) q (refused_by n) k = absurd (no_end (sym (ap calls.dcs_end (sequence-refused-within s p bs q k).1) ∙ z))

  -- and reading it comes to no refusal
  fine-none : is_refused (read_sequence s p bs).how ≡ false → sequence_refusal s p bs ≡ none
  unfolding is_refused
  fine-none fine = go (sequence_refusal s p bs) refl
    where
      go : (o : Option ℕ) → sequence_refusal s p bs ≡ o → o ≡ none
      go none e = refl
      go (some n) e = absurd (true≢false (sym (ap is_refused ((sequence-refusal s p bs n).1 e)) ∙ fine))

-- ---- what is written

-- the text of a finish with an owner's palette, of a reader that has taken its bytes and its canvas
abbrev pub written_by : Reader × List ℕ → Palette → ℕ → List ℕ
written_by (reader, canvas) owner stride =
    let x : Finished × List ℕ = finished_by reader owner canvas in
    finish_text x.0.answer (ending_of reader.standing) reader.counts stride x.1

-- ---- the text after any pieces, taken one after the other from an opening that succeeds

module _ (l : Limits) (stride : ℕ) (p : Palette) (opening : List ℕ) (opens : openable l stride (length opening) ≡ true) (zs : List (List ℕ)) where
  abbrev setting : Setting
  setting = setting_meant l stride (length opening)

  abbrev bytes : List ℕ
  bytes = joined zs

  abbrev reader : Reader
  reader = (taken_all (opened_by l stride p (length opening)) opening zs).0

  abbrev canvas : List ℕ
  canvas = (taken_all (opened_by l stride p (length opening)) opening zs).1

  abbrev whole : Whole End
  whole = sequence_whole setting p opening bytes

  -- the calls that the pieces are, and the pieces up to the end
  all : Taken l stride p opening opens [] zs (taken_all (opened_by l stride p (length opening)) opening zs) (promise.made l stride p opening opens zs)
  all = taken-all l stride p opening opens zs (start-follows l stride p opening opens)

  abbrev taken : List ℕ
  taken = joined all.taken

  split : bytes ≡ taken ++ joined all.later
  split = ap joined all.split ∙ joined-append all.taken all.later

  -- the reader stands where reading what was taken at once comes to
  taken-told : end_told (read_sequence setting p taken).how (calls.dcs_end (read_sequence setting p taken).state) ≡ how_stood reader.standing
  unfolding ran_by stream
  taken-told =
      let enough : 6 * l.width ≤ 6 * l.width = omega arith in
      let ok = all.follows.keeps.proper in
      let how : (now l stride p opening opens all.turns).how ≡ how_stood reader.standing = all.follows.how in
      let same : read_sequence setting p taken ≡ ran_by (calls.dcs_turns setting p all.turns) =
      ap (read_sequence setting p) (sym all.whole)
      ∙ history.whole-state l stride p opening opens (6 * l.width) all.turns enough ok (λ e. stood-going reader.standing (sym how ∙ e)) in
      ap (λ (q : Run Phase). end_told q.how (calls.dcs_end q.state)) same
      ∙ sym (history.stood l stride p opening opens (6 * l.width) all.turns enough ok).learned.how
      ∙ how

  -- where more is needed, the whole has come to no refusal and to no end
  reads_on : reader.standing ≡ standings.Reading → (whole.refusal ≡ none) × (whole.end ≡ none)
  unfolding how_stood joined sequence_whole
  reads_on h =
      let every : bytes ≡ taken = split ∙ ap (λ (ys : List (List ℕ)). taken ++ joined ys) (all.last h) ∙ append-nil taken in
      let more = told_more _ _ (taken-told ∙ ap how_stood h) in
      let fine : is_refused (read_sequence setting p bytes).how ≡ false = ap (λ (bs : List ℕ). is_refused (read_sequence setting p bs).how) every ∙ more.1 in
      (fine-none setting p bytes fine, sym (sequence-ended setting p bytes fine) ∙ promise.no-end-whole l stride p opening opens zs h)

  -- where a refusal has come, it is the whole's
  refuses : {n : Refusal} → reader.standing ≡ standings.Refused n → whole.refusal ≡ some (number_of n)
  unfolding how_stood sequence_whole
  refuses {n} h =
      let how : (read_sequence setting p taken).how ≡ refused_by (number_of n) = told-refusal _ _ (taken-told ∙ ap how_stood h) in
      let never : (read_sequence setting p taken).how ≡ read_all → ⊥ =
      λ e. let wrong : read_all ≡ refused_by (number_of n) = sym e ∙ how in let no : ◌≡◌ {A = ℕ} 0 1 = cc in omega arith in
      (sequence-refusal setting p bytes (number_of n)).0
      (ap (λ (bs : List ℕ). (read_sequence setting p bs).how) split
      ∙ ap (λ (q : Run Phase). q.how) (ended-prefix (dcs_step setting p) start taken (joined all.later) never)
      ∙ how)

  -- ---- at an end

  module _ {e : Ending} (ended : reader.standing ≡ standings.Ended e) where
    fine : is_refused (read_sequence setting p bytes).how ≡ false
    fine = ended-fine setting p bytes (promise.end_whole l stride p opening opens zs ended)

    ends : sequence_end bytes ≡ some (end_meant e)
    ends = sym (sequence-ended setting p bytes fine) ∙ promise.end_whole l stride p opening opens zs ended

    -- the picture that a finish leaves is the whole's
    picture-same : promise.picture l stride p opening opens zs ended ≡ whole.settled
    unfolding sequence_whole calls.one_shot_shown setting_meant calls.setting_for
    picture-same =
        cond_yes _ _ (sym (opens-meant l stride (length opening)) ∙ opens)
        ∙ ap (λ (f : Found). calls.shown stride (calls.drawing_found setting p f) opening) (ended-found bytes ends)

    -- and it fits the canvas
    picture-fits : {r : meant.Report} → one_shot setting p bytes ≡ meant.finished r → has_picture stride (length whole.settled) r.size ≡ true
    unfolding has_picture fits sequence_whole setting_meant calls.setting_for
    picture-fits {r} means =
        let roomy : Roomy setting = opens-roomy (limits_meant l) stride (length opening) (sym (opens-meant l stride (length opening)) ∙ opens) in
        let room : Fits setting r.size = report-fits setting p bytes roomy means in
        let long : length whole.settled ≡ length opening = length-shown stride (calls.drawing_found setting p (sequence_payload bytes)) opening in
        let rows : rows_of (length whole.settled) stride ≡ setting.rows = ap (λ (n : ℕ). rows_of n stride) long in
        and_both (lt-ltb 0 stride (omega (arith, roomy.stride)))
        (and_both (lt-ltb 0 r.size.width (omega (arith, room.wide)))
        (and_both (lt-ltb 0 r.size.height (omega (arith, room.tall)))
        (and_both (le-leb r.size.width stride room.stride) (le-leb r.size.height _ (omega (arith, room.rows, rows))))))

    -- and so its text is the whole's
    ended-text : (owner : Palette) → written_by (reader, canvas) owner stride ≡ whole_text stride whole
    unfolding sequence_whole sequence_finish one_shot finish_text ending_of how_stood is_refused report_meant
    ended-text owner =
        let k = promise.picture-reported l stride p opening opens zs ended owner in
        let r : Report = k.report in
        let consumed : reader.counts.consumed ≡ held (sequence_consumed bytes) =
        promise.consumed-whole l stride p opening opens zs ended ∙ ap held (sequence-consumed setting p bytes fine) in
        let ink : reader.counts.ink ≡ held (sequence_ink setting p bytes) =
        promise.ink-whole l stride p opening opens zs (ap (λ (t : Standing). is_refused (how_stood t)) ended) in
        let finish : sequence_finish setting p bytes ≡ meant.finished (report_meant r k.palette) =
        ap (λ (o : Option End). elim o as (λ _. meant.Finished) [ none ↦ meant.turned_down 8 | some d ↦ answer_of setting p (sequence_payload bytes) ]) ends
        ∙ sym (ap (answer_of setting p) (ended-found bytes ends)) ∙ k.means in
        ap (λ (x : Finished × List ℕ). finish_text x.0.answer (ending_of reader.standing) reader.counts stride x.1) k.answers
        ∙ ap (λ (t : Standing). finish_text (Ok r) (ending_of t) reader.counts stride (promise.picture l stride p opening opens zs ended))
        ended
        ∙ ap (λ (shown : List ℕ). dump.picture_text e reader.counts.consumed reader.counts.ink r stride shown) picture-same
        ∙ ap₂ (λ (n i : ℕ). dump.picture_text e n i r stride whole.settled) consumed ink
        ∙ report-same e (held whole.consumed) (held whole.ink) r k.palette stride whole.settled (picture-fits k.means)
        ∙ sym (text-ended stride whole (fine-none setting p bytes fine) ends finish)

  -- The text that the finish writes is that of the bytes taken.
  pub text-whole : (owner : Palette) → written_by (reader, canvas) owner stride ≡ whole_text stride whole
  unfolding finish_text dump.refusal_text refused_line turned_away
  text-whole owner = go reader.standing refl
    where
      text : Finished × List ℕ → List ℕ
      text x = finish_text x.0.answer (ending_of reader.standing) reader.counts stride x.1

      go : (t : Standing) → reader.standing ≡ t → written_by (reader, canvas) owner stride ≡ whole_text stride whole
      go standings.Reading h =
          let k = promise.unfinished-whole l stride p opening opens zs h owner in
          let w = reads_on h in
          ap text k.answers ∙ ap refused_line k.numbered ∙ sym (text-unended stride whole w.0 w.1)
      go (standings.Ended e) h = ended-text h owner
      go (standings.Refused n) h = ap text (promise.refusal-repeated l stride p opening opens zs h owner) ∙ sym (text-refused stride whole (refuses h))

  -- A picture is finished at an end alone, so of `ending_of` only that end is ever written.
  pub picture-ended : (owner : Palette) {r : Report} → (finished_by reader owner canvas).0.answer ≡ Ok r
      → (e : Ending) × (reader.standing ≡ standings.Ended e)
  unfolding turned_away
  picture-ended owner {r} picture = go reader.standing refl
    where
      declines : {n : Refusal} {q : Palette} {lent : List ℕ}
          → finished_by reader owner canvas ≡ (record { answer = Err n; palette = q }, lent) → ⊥
      declines {n} k =
          let wrong : Err n ≡ Ok r = sym (ap (λ (x : Finished × List ℕ). x.0.answer) k) ∙ picture in
          let no : ◌≡◌ {A = ℕ} 0 1 = cc in omega arith

      go : (t : Standing) → reader.standing ≡ t → (e : Ending) × (reader.standing ≡ standings.Ended e)
      go standings.Reading h = absurd (declines (promise.unfinished-whole l stride p opening opens zs h owner).answers)
      go (standings.Ended e) h = (e, h)
      go (standings.Refused n) h = absurd (declines (promise.refusal-repeated l stride p opening opens zs h owner))

-- ---- the program

-- the same on a canvas of a known size
sized-text : (l : Limits) (stride : ℕ) (p : Palette) (opening : List ℕ) {size : ℕ} → length opening ≡ size → openable l stride size ≡ true
    → (zs : List (List ℕ)) (owner : Palette)
    → written_by (taken_all (opened_by l stride p size) opening zs) owner stride
    ≡ whole_text stride (sequence_whole (setting_meant l stride size) p opening (joined zs))
sized-text l stride p opening long opens zs owner =
    subst
    (λ (n : ℕ).
    written_by (taken_all (opened_by l stride p n) opening zs) owner stride
    ≡ whole_text stride (sequence_whole (setting_meant l stride n) p opening (joined zs)))
    long (text-whole l stride p opening (ap (openable l stride) long ∙ opens) zs owner)

-- the program's limits, as the code has them
abbrev pub limits : Limits
limits = record { width = 128; height = 128; repeats = 128; pixels = 16384 }

-- its reader and its canvas after some pieces
abbrev pub reader_after : List (List ℕ) → Reader
reader_after zs = (taken_all (opened_by limits 128 standard 65536) sixdump_opening zs).0

abbrev pub canvas_after : List (List ℕ) → List ℕ
canvas_after zs = (taken_all (opened_by limits 128 standard 65536) sixdump_opening zs).1

pub opening-long : length sixdump_opening ≡ sixdump_size
unfolding sixdump_opening
opening-long = length-replicate sixdump_size 0

opening-opens : openable limits 128 65536 ≡ true
unfolding openable rows_of
opening-opens = refl

text-after : (zs : List (List ℕ)) → written_by (reader_after zs, canvas_after zs) standard 128 ≡ sixdump_text (joined zs)
unfolding sixdump_text sixdump_setting sixdump_limits sixdump_stride sixdump_size setting_meant limits_meant
text-after zs = sized-text limits 128 standard sixdump_opening opening-long opening-opens zs standard

-- After any pieces of any lengths, what is written is the text of the bytes that came. The owner's palette is the standard one.
pub sixdump-prints : (zs : List (List ℕ)) (out : List ℕ)
    → (dumped_by (reader_after zs) standard 128 (canvas_after zs) out).0 ≡ put (sixdump_text (joined zs)) (0, out)
unfolding dumped_by
sixdump-prints zs out = ap (λ (text : List ℕ). put text (0, out)) (text-after zs)

-- ---- where the program stops reading

-- pieces are taken one after the other
taken-append : (r : Reader) (canvas : List ℕ) (ys zs : List (List ℕ))
    → taken_all r canvas (ys ++ zs) ≡ taken_all (taken_all r canvas ys).0 (taken_all r canvas ys).1 zs
unfolding taken_all
taken-append r canvas [] zs = refl
taken-append r canvas (y ∷ ys) zs = taken-append (taken_by r canvas y).0 (taken_by r canvas y).1 ys zs

-- after an end or a refusal none is
stands-still : (r : Reader) (canvas z : List ℕ) → (r.standing ≡ standings.Reading → ⊥) → taken_all r canvas (z ∷ []) ≡ (r, canvas)
unfolding taken_all taken_by taken_as
stands-still r canvas z h = go r.standing h
  where
    go : (t : Standing) → (t ≡ standings.Reading → ⊥) → taken_as t r canvas z ≡ (r, canvas)
    go standings.Reading never = absurd (never refl)
    go (standings.Ended e) never = refl
    go (standings.Refused n) never = refl

-- Once the reader stands at an end or a refusal, more bytes change nothing.
pub sixdump-stops : (zs : List (List ℕ)) (rest : List ℕ) → ((reader_after zs).standing ≡ standings.Reading → ⊥)
    → sixdump_text (joined zs ++ rest) ≡ sixdump_text (joined zs)
unfolding joined
sixdump-stops zs rest over =
    ap sixdump_text (sym (joined-append zs (rest ∷ []) ∙ ap (λ (bs : List ℕ). joined zs ++ bs) (append-nil rest)))
    ∙ sym (text-after (zs ++ rest ∷ []))
    ∙ ap (λ (x : Reader × List ℕ). written_by x standard 128)
    (taken-append (opened_by limits 128 standard 65536) sixdump_opening zs (rest ∷ []) ∙ stands-still (reader_after zs) (canvas_after zs) rest over)
    ∙ text-after zs

-- So where pieces are taken while the reader reads on and more bytes come, as the program takes them, the text of the whole input is written.
pub sixdump-prints-input : (zs : List (List ℕ)) (rest out : List ℕ) → ((reader_after zs).standing ≡ standings.Reading → rest ≡ [])
    → (dumped_by (reader_after zs) standard 128 (canvas_after zs) out).0 ≡ put (sixdump_text (joined zs ++ rest)) (0, out)
sixdump-prints-input zs rest out none_left = sixdump-prints zs out ∙ ap (λ (text : List ℕ). put text (0, out)) (go (reader_after zs).standing refl)
  where
    go : (t : Standing) → (reader_after zs).standing ≡ t → sixdump_text (joined zs) ≡ sixdump_text (joined zs ++ rest)
    go standings.Reading h = ap sixdump_text (sym (ap (λ (bs : List ℕ). joined zs ++ bs) (none_left h) ∙ append-nil (joined zs)))
    go (standings.Ended e) h =
        sym (sixdump-stops zs rest (λ k. let wrong : standings.Reading ≡ standings.Ended e = sym k ∙ h in let no : ◌≡◌ {A = ℕ} 0 1 = cc in omega arith))
    go (standings.Refused n) h =
        sym (sixdump-stops zs rest (λ k. let wrong : standings.Reading ≡ standings.Refused n = sym k ∙ h in let no : ◌≡◌ {A = ℕ} 0 1 = cc in omega arith))
