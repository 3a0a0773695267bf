-- The promise of a reader that takes its stream in pieces, from the promises of the DCS session: at the end the picture is
-- the definition's, and the calls are at most the pieces and the ink.
use Prim.Native.Nat.{ℕ, ◌+◌, ◌*◌, ◌-◌, ◌/◌, ◌≤◌}
use native.Mathlib.Nat.{div-one}
use native.Mathlib.Omega.{arith}
use mathlib.Core.Bool.{true, false, cond}
use mathlib.Core.Option.{Option, none, some}
use mathlib.Core.List.{List, [], ◌++◌, append-nil}
use mathlib.Core.Path.{◌≡◌, refl, sym, ap, ◌∙◌, subst}
use lib.ListN.{length, drop}
use Rattle.numbers.proofs.Laws.{cond_yes}
use Rattle.canvas.specs.Copy.{packed, size_of, copied}
use Rattle.canvas.specs.Picture.{area_of, rows_of}
use Rattle.colours.specs.declared.Palette.{Palette}
use Rattle.frame.specs.declared.Limits.{Limits}
use Rattle.frame.specs.declared.Refusal.{Refusal}
use Rattle.frame.specs.Numbers.{number_of}
use Rattle.meaning.specs.Calls as calls
use Rattle.meaning.specs.Drawing.{Setting, Drawing}
use Rattle.meaning.specs.OneShot.{refused_with, find_payload, one_shot}
use Rattle.meaning.specs.Payload as meant
use Rattle.meaning.specs.Reader.{read_all, stopped, halted, refused_by, is_refused, Run, read_from, Turn, stream, pieces, Caller, ran_by}
use Rattle.meaning.specs.Sequence.{sequence_payload, sequence_ink}
use Rattle.meaning.specs.Sessions.{Phase, start, dcs_step}
use Rattle.meaning.specs.Sizes.{Roomy}
use Rattle.meaning.proofs.AreaLaws.{opens-roomy}
use Rattle.meaning.proofs.ToldLaws.{refused-told, told-refusal}
use Rattle.payload.specs.declared.Finished.{Finished}
use Rattle.payload.specs.declared.Report.{Report}
use Rattle.payload.specs.History.{Finishes}
use Rattle.payload.specs.Meant.{setting_meant, limits_meant, report_meant}
use Rattle.payload.specs.Refusals.{openable}
use Rattle.payload.specs.Session.{turned_away}
use Rattle.payload.proofs.Openings.{opens-meant}
use Rattle.dcs.specs.declared.Ending.{Ending}
use Rattle.dcs.specs.declared.Session.{Session}
use Rattle.dcs.specs.History.{Held, proper_calls}
use Rattle.dcs.specs.Meant.{end_meant}
use Rattle.dcs.specs.Session as dcs
use Rattle.dcs.proofs.Callers.{CallerStands}
use Rattle.dcs.proofs.History as history
use Rattle.dcs.proofs.Progress.{not-ended, unfinished}
use Rattle.pieces.specs.declared.Reader.{Reader}
use Rattle.pieces.specs.declared.Standing.{Standing}
use Rattle.pieces.specs.declared.Standing.TheVariants as standings
use Rattle.pieces.specs.Pieces.{opened_by, held, finished_as, finished_by}
use Rattle.pieces.specs.Stream.{joined, taken_all, calls_of_all, how_stood}
use Rattle.pieces.proofs.Copies.{Declined, declined, Reported, reported, report-fits, copy-rows, length-shown}
use Rattle.pieces.proofs.Ends.{stood-going, ended-reports, ended-ink, ended-state, ended-consumed, ended-answer, ended-drawing, refused-ink, refused-state, refused-answer}
use Rattle.pieces.proofs.Taking.{joined-append, length-append, start-follows, Taken, taken-all}
use Rattle.pieces.proofs.Turns.{now, Follows}

-- Any pieces, taken one after the other from an opening that succeeds.
module _ (l : Limits) (stride : ℕ) (p : Palette) (opening : List ℕ) (opens : openable l stride (length opening) ≡ true)
    (zs : List (List ℕ)) where
  abbrev pub setting : Setting
  setting = setting_meant l stride (length opening)

  -- the whole stream, and the reader and the canvas after it
  abbrev pub bytes : List ℕ
  bytes = joined zs

  abbrev pub reader : Reader
  reader = (taken_all (opened_by l stride p (length opening)) opening zs).0

  abbrev pub canvas : List ℕ
  canvas = (taken_all (opened_by l stride p (length opening)) opening zs).1

  -- the calls that were made
  abbrev pub made : ℕ
  made = calls_of_all (opened_by l stride p (length opening)) opening zs

  -- ---- the caller that it is

  all : Taken l stride p opening opens [] zs (taken_all (opened_by l stride p (length opening)) opening zs) made
  all = taken-all l stride p opening opens zs (start-follows l stride p opening opens)

  abbrev turns : List Turn
  turns = all.turns

  abbrev caller : Caller Held
  caller = now l stride p opening opens turns

  abbrev follows : Follows l stride p opening opens turns reader canvas
  follows = all.follows

  abbrev there : Caller Phase
  there = calls.dcs_turns setting p turns

  -- the pieces up to the end, and those after it
  abbrev taken : List ℕ
  taken = joined all.taken

  whole : stream turns ≡ taken
  unfolding stream
  whole = all.whole

  split : bytes ≡ taken ++ joined all.later
  split = ap joined all.split ∙ joined-append all.taken all.later

  enough : 6 * l.width ≤ 6 * l.width
  enough = omega arith

  abbrev ok : proper_calls (6 * l.width) (history.opened l stride p opening opens) turns ≡ true
  ok = follows.keeps.proper

  stood : CallerStands l stride p opening caller there
  stood = history.stood l stride p opening opens (6 * l.width) turns enough ok

  going : caller.how ≡ stopped → ⊥
  going e = stood-going reader.standing (sym follows.how ∙ e)

  fine : is_refused (how_stood reader.standing) ≡ false → is_refused caller.how ≡ false
  fine h = ap is_refused follows.how ∙ h

  -- reading what was taken at once comes to where the caller stands
  ran : read_from (dcs_step setting p) start taken ≡ ran_by there
  ran =
      ap (read_from (dcs_step setting p) start) (sym whole)
      ∙ history.whole-state l stride p opening opens (6 * l.width) turns enough ok going

  all-taken : reader.standing ≡ standings.Reading → bytes ≡ taken
  unfolding joined
  all-taken e = split ∙ ap (λ (ys : List (List ℕ)). taken ++ joined ys) (all.last e) ∙ append-nil taken

  end-taken : {e : Ending} → reader.standing ≡ standings.Ended e
      → calls.dcs_end (read_from (dcs_step setting p) start taken).state ≡ some (end_meant e)
  unfolding ran_by
  end-taken {e} h = ap (λ (q : Run Phase). calls.dcs_end q.state) ran ∙ follows.end e h

  refusal-taken : {n : Refusal} → reader.standing ≡ standings.Refused n
      → (read_from (dcs_step setting p) start taken).how ≡ refused_by (number_of n)
  unfolding ran_by how_stood
  refusal-taken h =
      ap (λ (q : Run Phase). q.how) ran
      ∙ told-refusal there.how (calls.dcs_end there.state) (sym stood.learned.how ∙ follows.how ∙ ap how_stood h)

  -- bytes after the end draw nothing
  ink-taken : sequence_ink setting p taken ≡ sequence_ink setting p bytes
  ink-taken = go reader.standing refl
    where
      go : (t : Standing) → reader.standing ≡ t → sequence_ink setting p taken ≡ sequence_ink setting p bytes
      go standings.Reading h = ap (sequence_ink setting p) (sym (all-taken h))
      go (standings.Ended e) h =
          sym (ap (sequence_ink setting p) split ∙ ended-ink setting p taken (joined all.later) (end-taken h))
      go (standings.Refused n) h =
          sym (ap (sequence_ink setting p) split ∙ refused-ink setting p taken (joined all.later) (refusal-taken h))

  -- nor lead elsewhere
  state-taken : (read_from (dcs_step setting p) start taken).state ≡ (read_from (dcs_step setting p) start bytes).state
  state-taken = go reader.standing refl
    where
      reached : List ℕ → Phase
      reached bs = (read_from (dcs_step setting p) start bs).state

      go : (t : Standing) → reader.standing ≡ t → reached taken ≡ reached bytes
      go standings.Reading h = ap reached (sym (all-taken h))
      go (standings.Ended e) h = sym (ap reached split ∙ ended-state setting p taken (joined all.later) (end-taken h))
      go (standings.Refused n) h = sym (ap reached split ∙ refused-state setting p taken (joined all.later) (refusal-taken h))

  -- ---- what may be relied on

  -- The canvas shows the drawing that reading the whole stream at once comes to; after a refusal, what came before it.
  pub canvas-whole : canvas ≡ calls.shown stride (calls.drawing_of (read_from (dcs_step setting p) start bytes).state) opening
  unfolding ran_by
  canvas-whole =
      follows.keeps.canvas
      ∙ history.canvas-shows l stride p opening opens (6 * l.width) turns enough ok
      ∙ ap (λ (t : Phase). calls.shown stride (calls.drawing_of t) opening)
      (sym (ap (λ (q : Run Phase). q.state) ran) ∙ state-taken)

  -- Demand 3, its first sentence: the calls are at most the pieces and I, the ink of the whole stream.
  pub calls-bounded : made ≤ length zs + sequence_ink setting p bytes
  unfolding pieces
  calls-bounded =
      let one : 6 * l.width - 6 * l.width + 1 ≡ 1 = omega arith in
      let bound : length turns ≤ pieces turns + sequence_ink setting p (stream turns) / (6 * l.width - 6 * l.width + 1) =
      history.calls-bounded l stride p opening opens (6 * l.width) turns enough ok in
      let ink : sequence_ink setting p (stream turns) / (6 * l.width - 6 * l.width + 1) ≡ sequence_ink setting p bytes =
      ap (λ (n : ℕ). sequence_ink setting p (stream turns) / n) one ∙ div-one _ ∙ ap (sequence_ink setting p) whole ∙ ink-taken in
      let some-taken : length zs ≡ length all.taken + length all.later =
      ap length all.split ∙ length-append all.taken all.later in
      omega (arith, all.calls, all.count)

  -- The reader's count is the number of calls, saturated.
  pub calls-counted : reader.counts.calls ≡ held made
  calls-counted = let same : length turns ≡ made = omega (arith, all.calls) in follows.keeps.calls ∙ ap held same

  -- So that is at most as many, too.
  pub calls-few : reader.counts.calls ≤ length zs + sequence_ink setting p bytes
  unfolding held
  calls-few = omega (arith, calls-bounded, calls-counted)

  -- Its third sentence: without a refusal the ink is I, saturated.
  pub ink-whole : is_refused (how_stood reader.standing) ≡ false → reader.counts.ink ≡ held (sequence_ink setting p bytes)
  ink-whole h =
      follows.keeps.ink
      ∙ ap held
      (history.whole-ink l stride p opening opens (6 * l.width) turns enough ok going (fine h)
      ∙ ap (sequence_ink setting p) whole
      ∙ ink-taken)

  -- A refusal is what introducer and header are refused with, or what reading the whole at once answers.
  pub refusal-whole : {n : Refusal} → reader.standing ≡ standings.Refused n
      → (number_of n ≤ 3 → sequence_payload bytes ≡ refused_with (number_of n))
      × (2 ≤ number_of n → one_shot setting p bytes ≡ meant.turned_down (number_of n))
  refusal-whole {n} h =
      subst
      (λ (bs : List ℕ). (number_of n ≤ 3 → sequence_payload bs ≡ refused_with (number_of n))
      × (2 ≤ number_of n → one_shot setting p bs ≡ meant.turned_down (number_of n)))
      (sym split) (refused-answer setting p taken (joined all.later) (refusal-taken h))

  -- A finish repeats it, writes nothing and leaves the owner's palette.
  pub refusal-repeated : {n : Refusal} → reader.standing ≡ standings.Refused n
      → (owner : Palette) → finished_by reader owner canvas ≡ turned_away owner n canvas
  unfolding finished_by finished_as
  refusal-repeated h owner = ap (λ (t : Standing). finished_as t reader owner canvas) h

  -- Where the stream has come to no end, so has its reading at once; a finish is 8 and leaves the canvas as it was.
  module _ (reads : reader.standing ≡ standings.Reading) where
    needs-more : caller.how ≡ read_all
    unfolding how_stood
    needs-more = follows.how ∙ ap how_stood reads

    pub no-end-whole : calls.dcs_end (read_from (dcs_step setting p) start bytes).state ≡ none
    unfolding ran_by
    no-end-whole =
        sym (ap calls.dcs_end state-taken)
        ∙ ap (λ (q : Run Phase). calls.dcs_end q.state) ran
        ∙ not-ended l stride p opening opens (6 * l.width) turns enough ok needs-more

    pub unfinished-whole : (owner : Palette) → Declined canvas owner 8 (finished_by reader owner canvas)
    unfolding finished_by finished_as
    unfinished-whole owner =
        subst (λ (lent : List ℕ). Declined lent owner 8 (finished_by reader owner lent)) (sym follows.keeps.canvas)
        (subst (Declined caller.state.1 owner 8)
        (sym
        (ap (λ (t : Standing). finished_as t reader owner caller.state.1) reads
        ∙ ap (λ (s : Session). dcs.finished_by s owner caller.state.1) follows.keeps.session))
        (declined (unfinished l stride p opening opens (6 * l.width) turns enough ok needs-more owner)))

  -- ---- at an end

  module _ {e : Ending} (ended : reader.standing ≡ standings.Ended e) where
    answered : is_refused (how_stood reader.standing) ≡ false
    unfolding how_stood is_refused
    answered = ap (λ (t : Standing). is_refused (how_stood t)) ended

    told : caller.how ≡ halted
    unfolding how_stood
    told = follows.how ∙ ap how_stood ended

    -- The end is the one that reading the whole stream at once comes to.
    pub end_whole : calls.dcs_end (read_from (dcs_step setting p) start bytes).state ≡ some (end_meant e)
    end_whole = sym (ap calls.dcs_end state-taken) ∙ end-taken ended

    -- So are the bytes consumed, saturated.
    pub consumed-whole : reader.counts.consumed ≡ held (read_from (dcs_step setting p) start bytes).consumed
    unfolding ran_by
    consumed-whole =
        let live : is_refused there.how ≡ false =
        sym (refused-told there.how (calls.dcs_end there.state)) ∙ sym (ap is_refused stood.learned.how) ∙ fine answered in
        follows.keeps.consumed
        ∙ ap held
        (stood.learned.consumed live
        ∙ ap (λ (q : Run Phase). q.consumed) (sym ran)
        ∙ sym (ended-consumed setting p taken (joined all.later) (end-taken ended))
        ∙ ap (λ (bs : List ℕ). (read_from (dcs_step setting p) start bs).consumed) (sym split))

    -- the definition's picture of the stream, on the bytes of the opening
    abbrev pub picture : List ℕ
    picture = calls.one_shot_shown (limits_meant l) stride (length opening) p bytes opening

    picture-whole : calls.one_shot_shown (limits_meant l) stride (length opening) p (stream turns) opening ≡ picture
    unfolding calls.one_shot_shown setting_meant
    picture-whole =
        let drawn : List ℕ → Option Drawing = λ bs. calls.drawing_found setting p (find_payload bs) in
        ap (λ (d : Option Drawing). cond (calls.opens (limits_meant l) stride (length opening)) (calls.shown stride d opening) opening)
        (ap drawn whole ∙ sym (ap drawn split ∙ ended-drawing setting p taken (joined all.later) (end-taken ended)))

    finish-same : (owner : Palette) → finished_by reader owner canvas ≡ dcs.finished_by caller.state.0 owner caller.state.1
    unfolding finished_by finished_as
    finish-same owner =
        ap (λ (t : Standing). finished_as t reader owner canvas) ended
        ∙ ap (λ (s : Session). dcs.finished_by s owner canvas) follows.keeps.session
        ∙ ap (dcs.finished_by caller.state.0 owner) follows.keeps.canvas

    answer-whole : one_shot setting p (stream turns) ≡ one_shot setting p bytes
    answer-whole =
        ap (one_shot setting p) whole
        ∙ sym (ap (one_shot setting p) split ∙ ended-answer setting p taken (joined all.later) (end-taken ended))

    -- Demand 2, and the second sentence of demand 3: a finish answers what reading the whole stream at once does, with its
    -- picture on the canvas.
    finish-whole : (owner : Palette) → Finishes picture owner canvas (finished_by reader owner canvas) (one_shot setting p bytes)
    finish-whole owner =
        let ends : Finished × List ℕ = dcs.finished_by caller.state.0 owner caller.state.1 in
        let painted : List ℕ = calls.one_shot_shown (limits_meant l) stride (length opening) p (stream turns) opening in
        let answers : Finishes painted owner caller.state.1 ends (one_shot setting p (stream turns)) =
        history.stream-finishes l stride p opening opens (6 * l.width) turns enough ok told owner in
        subst (λ (lent : List ℕ). Finishes picture owner lent (finished_by reader owner canvas) (one_shot setting p bytes))
        (sym follows.keeps.canvas)
        (subst (λ (y : Finished × List ℕ). Finishes picture owner caller.state.1 y (one_shot setting p bytes))
        (sym (finish-same owner))
        (subst (λ (z : meant.Finished). Finishes picture owner caller.state.1 ends z) answer-whole
        (subst (λ (shows : List ℕ). Finishes shows owner caller.state.1 ends (one_shot setting p (stream turns)))
        picture-whole answers)))

    roomy : Roomy setting
    unfolding setting_meant
    roomy = opens-roomy (limits_meant l) stride (length opening) (sym (opens-meant l stride (length opening)) ∙ opens)

    -- There is always a picture.
    pub picture-reported : (owner : Palette) → Reported picture (finished_by reader owner canvas) (one_shot setting p bytes)
    picture-reported owner = reported (finish-whole owner) (ended-reports setting p bytes end_whole).1

    picture-long : length picture ≡ length opening
    unfolding calls.one_shot_shown setting_meant
    picture-long =
        ap length (cond_yes _ _ (sym (opens-meant l stride (length opening)) ∙ opens))
        ∙ length-shown stride (calls.drawing_found setting p (find_payload bytes)) opening

    -- A copy of it puts its rows without gaps at the front of the other buffer, whose later bytes stay.
    pub copy-whole : (r : Report) (q : Palette) → one_shot setting p bytes ≡ meant.finished (report_meant r q) → (out : List ℕ)
        → size_of (area_of r.width r.height) ≤ length out
        → copied stride (area_of r.width r.height) picture out
        ≡ (0, packed stride r.width r.height picture ++ drop (size_of (area_of r.width r.height)) out)
    unfolding setting_meant limits_meant calls.setting_for report_meant
    copy-whole r q means out room =
        copy-rows setting picture roomy (report-fits setting p bytes roomy means)
        (ap (λ (n : ℕ). rows_of n stride) (sym picture-long)) out room

    -- what is promised of a stream that was taken to its end, finished with an owner's palette and copied to another buffer
    pub record Kept (owner : Palette) (out : List ℕ) : Type 0 where
      pub few : made ≤ length zs + sequence_ink setting p bytes
      pub counted : reader.counts.calls ≡ held made
      pub ink : reader.counts.ink ≡ held (sequence_ink setting p bytes)
      pub consumed : reader.counts.consumed ≡ held (read_from (dcs_step setting p) start bytes).consumed
      pub end : calls.dcs_end (read_from (dcs_step setting p) start bytes).state ≡ some (end_meant e)
      pub finish : Reported picture (finished_by reader owner canvas) (one_shot setting p bytes)
      pub copy : size_of (area_of finish.report.width finish.report.height) ≤ length out
          → copied stride (area_of finish.report.width finish.report.height) picture out
          ≡ (
            0,
            packed stride finish.report.width finish.report.height picture
                ++ drop (size_of (area_of finish.report.width finish.report.height)) out,
          )

    -- The promise: the calls are at most the pieces and the ink, the counts and the end are the definition's, and so are the
    -- answer and the picture.
    pub promise : (owner : Palette) (out : List ℕ) → Kept owner out
    promise owner out =
        record {
          few = calls-bounded;
          counted = calls-counted;
          ink = ink-whole answered;
          consumed = consumed-whole;
          end = end_whole;
          finish = picture-reported owner;
          copy = let told = picture-reported owner in copy-whole told.report told.palette told.means out;
        }
