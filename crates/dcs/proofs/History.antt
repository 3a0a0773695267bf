-- Any calls of the code, the canvas given back each time as it was left, are the definition's; and so demands 2 and 3 hold of the
-- code: each law here takes what the definition's law says of its caller over to the code's, by `CallerStands`.
use Rattle.std.specs.Prelude.{◌≡◌, ℕ, ◌+◌, ◌-◌, ◌*◌, ◌/◌, ◌≤◌, true, false, ◌↔◌, List, length}
use native.Mathlib.Omega.{arith}
use mathlib.Core.Option.{Option, none, some}
use mathlib.Core.Logic.Iff
use mathlib.Core.Path.{refl, sym, ap, ◌∙◌, subst}
use Rattle.numbers.proofs.Laws.{cond_yes}
use Rattle.colours.specs.declared.Palette.{Palette}
use Rattle.frame.specs.declared.Limits.{Limits}
use Rattle.meaning.specs.Calls as calls
use Rattle.meaning.specs.Callers.{Ask, last_status}
use Rattle.meaning.specs.Drawing.{Setting, Drawing}
use Rattle.meaning.specs.OneShot.{refused_with, find_payload, answer_of, one_shot}
use Rattle.meaning.specs.Payload as meant
use Rattle.meaning.specs.Reader.{How, stopped, halted, refused_by, is_refused, Run, read_from, Turn, stream, pieces, Caller, ran_by, ready}
use Rattle.meaning.specs.Sequence.{sequence_payload, sequence_end, sequence_consumed, sequence_refusal, sequence_drawn, sequence_finish, sequence_ink}
use Rattle.meaning.specs.Sessions.{End, Phase, start, dcs_step, finish_dcs}
use Rattle.meaning.proofs.DcsLaws.{read_sequence}
use Rattle.meaning.proofs.DcsSoFar.{dcs-finish-drawing, dcs-refused-drawn}
use Rattle.meaning.proofs.Demand3.{dcs-calls, dcs-outcome, dcs-finishes, dcs-refused, dcs-all-ink}
use Rattle.meaning.proofs.SequenceLaws.{sequence-drawn, sequence-refusal, sequence-ended, sequence-consumed, sequence-finished, ended-found}
use Rattle.meaning.proofs.ToldLaws as told_laws
use Rattle.meaning.proofs.ToldLaws.{all_pass, end_told, refused-told, told-end, told-refusal}
use Rattle.payload.specs.declared.Finished.{Finished}
use Rattle.payload.specs.History.{Finishes, pictures, declines}
use Rattle.payload.specs.Meant.{setting_meant, limits_meant}
use Rattle.payload.specs.Refusals.{openable}
use Rattle.payload.proofs.Openings.{opens-meant}
use Rattle.dcs.specs.declared.Session.{Session}
use Rattle.dcs.specs.Session.{opened_by, fed_by, finished_by}
use Rattle.dcs.specs.History.{Stands, Feeds, Held, feed_held, tell_held, feed_meant, Past, fed_all, PastMeant, fed_all_meant, calls_of, proper_calls}
use Rattle.dcs.specs.Meant.{answer_meant}
use Rattle.dcs.proofs.Standing.{feed-stands, finish-stands, stands-shows, stands-long}
use Rattle.dcs.proofs.Openings.{opened-stands}
use Rattle.dcs.proofs.Callers.{CallerStands, session_at, finish-there, calls-stand, status-stands}

-- ---- any calls

-- the answers mean the definition's, and session and canvas stand for its session
abbrev pub Passes : Limits → ℕ → Palette → List ℕ → Past → PastMeant → Type 0
Passes l stride p opening = told_laws.Passes (λ (h : Held) (m : calls.Session Phase). Stands l stride p opening h.0 h.1 m) answer_meant

-- any calls of the code are the definition's
module _ (l : Limits) (stride : ℕ) (p : Palette) (opening : List ℕ) where
  pub history-stands : {s : Session} {c : List ℕ} {m : calls.Session Phase} → Stands l stride p opening s c m → (cs : List Ask)
      → Passes l stride p opening (fed_all s c cs) (fed_all_meant p m (length opening) cs)
  history-stands =
      all_pass feed_held (feed_meant p (length opening))
      (λ (h : Held) (m : calls.Session Phase). Stands l stride p opening h.0 h.1 m) answer_meant
      (λ h m k bs a.
      let f : Feeds l stride p opening (fed_by h.0 h.1 bs a) (calls.feed_dcs p m (length opening) a bs) =
      subst (λ (n : ℕ). Feeds l stride p opening (fed_by h.0 h.1 bs a) (calls.feed_dcs p m n a bs))
      (stands-long l stride p opening k) (feed-stands l stride p opening k bs a) in
      (f.answer, f.session))

  -- so after any calls the canvas shows the drawing of the definition's state
  pub history-shows : {s : Session} {c : List ℕ} {m : calls.Session Phase} → Stands l stride p opening s c m → (cs : List Ask)
      → (fed_all s c cs).state.1 ≡ calls.dcs_shown (fed_all_meant p m (length opening) cs).state opening
  history-shows k cs = stands-shows l stride p opening (history-stands k cs).state

  -- and a finish then is the definition's
  abbrev FinishesAs : Held → calls.Session Phase → Palette → ℕ → Type 0
  FinishesAs h m owner size =
      Finishes (calls.dcs_shown_at_finish m opening) owner h.1 (finished_by h.0 owner h.1) (calls.finish_dcs_session m size)

  pub history-finishes : {s : Session} {c : List ℕ} {m : calls.Session Phase} → Stands l stride p opening s c m
      → (cs : List Ask) (owner : Palette)
      → FinishesAs (fed_all s c cs).state (fed_all_meant p m (length opening) cs).state owner (length opening)
  history-finishes {s} {c} {m} k cs owner =
      let after = (history-stands k cs).state in
      subst (FinishesAs (fed_all s c cs).state (fed_all_meant p m (length opening) cs).state owner)
      (stands-long l stride p opening after)
      (finish-stands l stride p opening owner after)

-- a finish that is refused shows no picture, whichever it would be
declined-alike : {picture other l : List ℕ} {owner : Palette} {y : Finished × List ℕ} {z : meant.Finished} {n : ℕ}
    → Finishes picture owner l y z
    → z ≡ meant.turned_down n → Finishes other owner l y z
declined-alike pictures e = absurd (let never : ◌≡◌ {A = ℕ} 0 1 = cc in omega arith)
declined-alike (declines n) e = declines n

-- ---- demands 2 and 3 of the code: a session that was opened, and a caller that presents what was left unread

module _ (l : Limits) (stride : ℕ) (p : Palette) (opening : List ℕ) (opens : openable l stride (length opening) ≡ true) where
  -- what the opening gives
  abbrev pub opened : Caller Held
  opened = ready ((opened_by l stride p (length opening)).session, opening)

  abbrev pub setting : Setting
  setting = setting_meant l stride (length opening)

  -- what the canvas shows of a drawing, if there is one
  abbrev shown_of : Option Drawing → List ℕ
  shown_of d = calls.shown stride d opening

  start-stands : CallerStands l stride p opening opened (ready start)
  unfolding ready is_refused end_told calls.dcs_end
  start-stands =
      record {
        session = opened-stands l stride p opening opens;
        learned = record { how = refl; unread = λ _. refl; consumed = λ _. refl; ink = λ _. refl };
      }

  module _ (A : ℕ) (ts : List Turn) (enough : 6 * l.width ≤ A) (ok : proper_calls A opened ts ≡ true) where
    -- where the caller stands after its calls: its session, its canvas, and what the answers told
    abbrev pub now : Caller Held
    now = calls_of opened ts

    abbrev pub session : Session
    session = now.state.0

    abbrev pub canvas : List ℕ
    canvas = now.state.1

    -- a finish then answers this, and leaves a picture on the canvas if it has one
    abbrev FinishesWith : List ℕ → Palette → meant.Finished → Type 0
    FinishesWith shown owner = Finishes shown owner canvas (finished_by session owner canvas)

    pub roomy : 6 * setting.limits.width ≤ A
    unfolding setting_meant limits_meant calls.setting_for
    roomy = enough

    -- the definition's caller, which may make the same calls and stands where the code's does
    abbrev pub there : Caller Phase
    there = calls.dcs_turns setting p ts

    pub stood : CallerStands l stride p opening now there
    stood = (calls-stand l stride p opening A roomy start-stands ts ok).0

    pub proper-there : calls.proper_dcs setting p A ts ≡ true
    proper-there = (calls-stand l stride p opening A roomy start-stands ts ok).1

    -- what the answers told is what the definition's caller came to
    going-there : (now.how ≡ stopped → ⊥) → there.how ≡ stopped → ⊥
    unfolding end_told
    going-there going e = going (stood.learned.how ∙ ap (λ (h : How). end_told h (calls.dcs_end there.state)) e)

    pub fine-there : is_refused now.how ≡ false → is_refused there.how ≡ false
    fine-there fine = sym (refused-told there.how (calls.dcs_end there.state)) ∙ sym (ap is_refused stood.learned.how) ∙ fine

    -- Demand 3, its first sentence: the calls are at most the pieces and I / (A - 6W + 1), where I is the ink of the whole stream
    pub calls-bounded : length ts ≤ pieces ts + sequence_ink setting p (stream ts) / (A - 6 * l.width + 1)
    unfolding setting_meant limits_meant calls.setting_for
    calls-bounded = dcs-calls setting p A ts roomy proper-there

    -- The canvas shows the drawing of the session's state, and before `q` nothing is written.
    pub canvas-shows : canvas ≡ shown_of (calls.drawing_of there.state)
    unfolding calls.dcs_shown setting_meant calls.setting_for
    canvas-shows = stands-shows l stride p opening stood.session

    -- However the stream was split, unless the last call stopped, the session has come to what reading the stream at once comes to.
    pub whole-state : (now.how ≡ stopped → ⊥) → read_from (dcs_step setting p) start (stream ts) ≡ ran_by there
    whole-state going = dcs-outcome setting p A ts proper-there (going-there going)

    -- Demand 2, and the second sentence of demand 3: at an end a finish answers what reading the whole stream at once does.
    pub whole-finishes : (now.how ≡ stopped → ⊥) → is_refused now.how ≡ false
        → {e : End} → calls.dcs_end there.state ≡ some e → (owner : Palette)
        → FinishesWith (shown_of (calls.drawing_at_finish setting there.state)) owner (one_shot setting p (stream ts))
    unfolding calls.dcs_shown_at_finish setting_meant calls.setting_for
    whole-finishes going fine e owner =
        subst (FinishesWith (shown_of (calls.drawing_at_finish setting there.state)) owner)
        (finish-there l stride p opening stood (fine-there fine) ∙ dcs-finishes setting p A ts proper-there (going-there going) e)
        (finish-stands l stride p opening owner stood.session)

    -- what reading the whole stream at once leaves on the canvas
    abbrev pub picture : List ℕ
    picture = calls.one_shot_shown (limits_meant l) stride (length opening) p (stream ts) opening

    picture-shown : {d : Option Drawing} → d ≡ calls.drawing_found setting p (find_payload (stream ts)) → shown_of d ≡ picture
    unfolding calls.one_shot_shown setting_meant
    picture-shown e =
        ap shown_of e ∙ sym (cond_yes _ _ (sym (opens-meant l stride (length opening)) ∙ opens))

    -- So once an end is told, a finish answers that and leaves that picture, both said of the stream alone.
    pub stream-finishes : now.how ≡ halted → (owner : Palette) → FinishesWith picture owner (one_shot setting p (stream ts))
    unfolding is_refused
    stream-finishes told owner =
        let ended = told-end there.how (calls.dcs_end there.state) (sym stood.learned.how ∙ told) in
        subst (λ (shown : List ℕ). FinishesWith shown owner (one_shot setting p (stream ts)))
        (picture-shown (dcs-finish-drawing setting p A ts roomy proper-there ended.0 ended.2.1))
        (whole-finishes (λ e. let never : ◌≡◌ {A = ℕ} 0 1 = cc in omega arith) (ap is_refused told) ended.2.1 owner)

    -- A refusal is what introducer and header are refused with, or what reading the whole at once answers; the canvas shows what came
    -- before it.
    pub whole-refused : {n : ℕ} → now.how ≡ refused_by n
        → (n ≤ 3 → sequence_payload (stream ts) ≡ refused_with n) × (2 ≤ n → one_shot setting p (stream ts) ≡ meant.turned_down n)
        × (canvas ≡ shown_of (calls.drawing_found setting p (sequence_payload (stream ts))))
    whole-refused told =
        let e = told-refusal there.how (calls.dcs_end there.state) (sym stood.learned.how ∙ told) in
        let numbers = dcs-refused setting p A ts proper-there e in (
          numbers.0,
          numbers.1,
          canvas-shows ∙ ap shown_of (dcs-refused-drawn setting p A ts roomy proper-there e),
        )

    -- Demand 3, its third sentence: the ink that the calls told adds up to I.
    pub whole-ink : (now.how ≡ stopped → ⊥) → is_refused now.how ≡ false → now.ink ≡ sequence_ink setting p (stream ts)
    whole-ink going fine = stood.learned.ink (fine-there fine) ∙ dcs-all-ink setting p A ts proper-there (going-there going)

    -- A refusal is given exactly when reading the whole stream comes to it.
    pub whole-refusal : (now.how ≡ stopped → ⊥) → (n : ℕ) → (now.how ≡ refused_by n) ↔ (sequence_refusal setting p (stream ts) ≡ some n)
    unfolding ran_by end_told
    whole-refusal going n =
        let same : (read_sequence setting p (stream ts)).how ≡ there.how = ap (λ (q : Run Phase). q.how) (whole-state going) in
        Iff.trans (
          λ e. same ∙ told-refusal there.how (calls.dcs_end there.state) (sym stood.learned.how ∙ e),
          λ e. stood.learned.how ∙ ap (λ (h : How). end_told h (calls.dcs_end there.state)) (sym same ∙ e),
        )
        (sequence-refusal setting p (stream ts) n)

    -- The canvas shows what has been drawn once the whole stream is read, up to a refusal.
    pub whole-drawn : (now.how ≡ stopped → ⊥) → canvas ≡ shown_of (sequence_drawn setting p (stream ts))
    unfolding ran_by
    whole-drawn going =
        canvas-shows
        ∙ ap shown_of (sym (ap (λ (q : Run Phase). calls.drawing_of q.state) (whole-state going)) ∙ sequence-drawn setting p (stream ts))

    -- ---- unless the last call stopped or was refused

    module _ (going : now.how ≡ stopped → ⊥) (fine : is_refused now.how ≡ false) where
      unrefused : is_refused (read_sequence setting p (stream ts)).how ≡ false
      unfolding ran_by
      unrefused = ap (λ (q : Run Phase). is_refused q.how) (whole-state going) ∙ fine-there fine

      ended : calls.dcs_end there.state ≡ sequence_end (stream ts)
      unfolding ran_by
      ended = sym (ap (λ (q : Run Phase). calls.dcs_end q.state) (whole-state going)) ∙ sequence-ended setting p (stream ts) unrefused

      -- The last call told how the whole stream has ended, or that it has not.
      pub whole-status : last_status tell_held calls.needs_more opened ts ≡ calls.at_end (sequence_end (stream ts))
      unfolding calls.dcs_end calls.at_end ready
      whole-status =
          status-stands l stride p opening A roomy start-stands calls.needs_more (λ g f. refl) ts ok going fine ∙ ap calls.at_end ended

      -- The bytes that the calls told are those that the whole stream consumes.
      pub whole-consumed : now.consumed ≡ sequence_consumed (stream ts)
      unfolding ran_by
      whole-consumed =
          stood.learned.consumed (fine-there fine)
          ∙ sym (ap (λ (q : Run Phase). q.consumed) (whole-state going))
          ∙ sequence-consumed setting p (stream ts) unrefused

      answers-whole : calls.finish_dcs_session (session_at l stride p opening there) (length canvas) ≡ sequence_finish setting p (stream ts)
      unfolding ran_by
      answers-whole =
          finish-there l stride p opening stood (fine-there fine)
          ∙ ap (λ (q : Run Phase). finish_dcs setting q.state) (sym (whole-state going))
          ∙ sequence-finished setting p (stream ts) unrefused

      -- A finish is the whole stream's: 8 before its end, and then what reading it all at once answers, with its picture.
      pub whole-concludes : (owner : Palette)
          → FinishesWith (shown_of (calls.drawing_found setting p (sequence_payload (stream ts)))) owner (sequence_finish setting p (stream ts))
      unfolding calls.dcs_shown_at_finish setting_meant calls.setting_for sequence_finish
      whole-concludes owner = go (sequence_end (stream ts)) refl
        where
          finishes : FinishesWith (shown_of (calls.drawing_at_finish setting there.state)) owner (sequence_finish setting p (stream ts))
          finishes =
              subst (FinishesWith (shown_of (calls.drawing_at_finish setting there.state)) owner) answers-whole
              (finish-stands l stride p opening owner stood.session)

          -- the answer, by the end that the stream has come to
          answer : Option End → meant.Finished
          answer o = elim o [ none ↦ meant.turned_down 8 | some d ↦ answer_of setting p (sequence_payload (stream ts)) ]

          go : (o : Option End) → sequence_end (stream ts) ≡ o
              → FinishesWith (shown_of (calls.drawing_found setting p (sequence_payload (stream ts)))) owner
              (sequence_finish setting p (stream ts))
          go none e = declined-alike finishes (ap answer e)
          go (some d) e =
              subst (λ (x : Option Drawing). FinishesWith (shown_of x) owner (sequence_finish setting p (stream ts)))
              (dcs-finish-drawing setting p A ts roomy proper-there (going-there going) (ended ∙ e)
              ∙ ap (calls.drawing_found setting p) (ended-found (stream ts) e))
              finishes
