-- Any calls of the code, the canvas given back each time as it was left, are the definition's; and so demands 2 and 3 hold of the code.
use Rattle.std.specs.Prelude.{◌≡◌, ℕ, ◌+◌, ◌-◌, ◌*◌, ◌/◌, ◌≤◌, true, false, ◌↔◌, List, length, take}
use mathlib.Core.Option.{some}
use mathlib.Core.Logic.Iff
use mathlib.Core.Path.{refl, sym, ap, ap₂, ◌∙◌, subst}
use Rattle.colours.specs.declared.Palette.{Palette}
use Rattle.frame.specs.declared.Limits.{Limits}
use Rattle.meaning.specs.Calls as calls
use Rattle.meaning.specs.Callers.{Ask, last_status}
use Rattle.meaning.specs.Commands.{body, end_of}
use Rattle.meaning.specs.Drawing.{Setting, Drawing, Outcome}
use Rattle.meaning.specs.Payload as meant
use Rattle.meaning.specs.Reader.{stopped, refused_by, is_all, is_refused, Run, Turn, stream, pieces, Caller, ran_by, ready}
use Rattle.meaning.specs.Sessions.{Reading, opened, settled, finish_reading}
use Rattle.meaning.proofs.Demand3.{payload-calls, payload-whole, payload-outcome, payload-refused, payload-all-ink, payload-consumed}
use Rattle.meaning.proofs.EachCall.{payload-so-far, payload-drawn-so-far, payload-ink-so-far}
use Rattle.meaning.proofs.FeedingLaws.{finish-answers}
use Rattle.meaning.proofs.PayloadLaws.{outcome-settled, read_payload, reading-over}
use Rattle.meaning.proofs.ToldLaws as told_laws
use Rattle.meaning.proofs.ToldLaws.{all_pass}
use Rattle.meaning.proofs.WholeLaws.{reading-drawn, reading-refusal}
use Rattle.payload.specs.declared.Session.{Session}
use Rattle.payload.specs.declared.Settings.{Settings}
use Rattle.payload.specs.Refusals.{openable}
use Rattle.payload.specs.Session.{opened_by, fed_by, finished_by}
use Rattle.payload.specs.History.{Stands, Feeds, Finishes, Held, feed_with, tell_with, feed_meant, Past, fed_all, PastMeant, fed_all_meant, calls_of, proper_calls}
use Rattle.payload.specs.Meant.{parameters_meant, limits_meant, setting_meant, answer_meant}
use Rattle.payload.proofs.Openings.{opened-stands}
use Rattle.payload.proofs.Judgements.{stands-shows, stands-long, stands-fit}
use Rattle.payload.proofs.Feedings.{feed-stands}
use Rattle.payload.proofs.Finishings.{finish-stands}
use Rattle.payload.proofs.Callers.{session_at, CallerStands, calls-stand, status-stands}

-- ---- any calls

-- the answers mean the definition's, and session and canvas stand for its session
abbrev pub Passes : List ℕ → Past → PastMeant → Type 0
Passes opening = told_laws.Passes (λ (h : Held) (m : calls.Session Reading). Stands opening h.0 h.1 m) answer_meant

-- any calls of the code are the definition's
pub history-stands : {opening : List ℕ} {s : Session} {l : List ℕ} {m : calls.Session Reading} → Stands opening s l m → (cs : List Ask)
    → Passes opening (fed_all s l cs) (fed_all_meant m (length opening) cs)
history-stands {opening} =
    all_pass (feed_with fed_by) (feed_meant (length opening)) (λ (h : Held) (m : calls.Session Reading). Stands opening h.0 h.1 m) answer_meant
    (λ h m k bs a.
    let f : Feeds opening (fed_by h.0 h.1 bs a) (calls.feed_payload m (length opening) a bs) =
    subst (λ (n : ℕ). Feeds opening (fed_by h.0 h.1 bs a) (calls.feed_payload m n a bs)) (stands-long k) (feed-stands k bs a) in
    (f.answer, f.session))

-- so after any calls the canvas shows the drawing of the definition's state
pub history-shows : {opening : List ℕ} {s : Session} {l : List ℕ} {m : calls.Session Reading} → Stands opening s l m → (cs : List Ask)
    → (fed_all s l cs).state.1 ≡ calls.payload_shown (fed_all_meant m (length opening) cs).state opening
history-shows k cs = stands-shows (history-stands k cs).state

-- and a finish then is the definition's
pub history-finishes : {opening : List ℕ} {s : Session} {l : List ℕ} {m : calls.Session Reading} → Stands opening s l m → (cs : List Ask) (owner : Palette)
    → Finishes (calls.payload_shown_at_finish (fed_all_meant m (length opening) cs).state opening) owner (fed_all s l cs).state.1
    (finished_by (fed_all s l cs).state.0 owner (fed_all s l cs).state.1) (calls.finish_payload (fed_all_meant m (length opening) cs).state (length opening))
history-finishes {opening} {s} {l} {m} k cs owner =
    let after = (history-stands k cs).state in
    subst
    (λ (n : ℕ).
    Finishes (calls.payload_shown_at_finish (fed_all_meant m (length opening) cs).state opening) owner (fed_all s l cs).state.1
    (finished_by (fed_all s l cs).state.0 owner (fed_all s l cs).state.1) (calls.finish_payload (fed_all_meant m (length opening) cs).state n))
    (stands-long after)
    (finish-stands after owner)

-- ---- demands 2 and 3 of the code: a session that was opened, and a caller that presents what was left unread

module _ (l : Limits) (stride : ℕ) (o : Settings) (p : Palette) (opening : List ℕ) (opens : openable l stride (length opening) ≡ true) where
  -- what the opening gives
  abbrev pub at_start : Caller Held
  at_start = ready ((opened_by l stride o p opening).0.session, (opened_by l stride o p opening).1)

  abbrev pub setting : Setting
  setting = setting_meant l stride (length opening)

  abbrev pub given : meant.Parameters
  given = parameters_meant o

  -- what the canvas shows of a drawing
  abbrev pub shown_of : Drawing → List ℕ
  shown_of d = calls.shown stride (some d) opening

  start-stands : CallerStands opening setting given at_start (ready (opened given p))
  unfolding ready opened is_refused
  start-stands =
      record {
        session = opened-stands l stride o p opening opens;
        parameters = refl;
        learned = record { how = refl; unread = λ _. refl; consumed = λ _. refl; ink = λ _. refl };
        over = λ e fine. cc;
        stays = λ e k zs. cc;
      }

  module _ (A : ℕ) (ts : List Turn) (enough : 6 * l.width ≤ A) (ok : proper_calls A at_start ts ≡ true) where
    -- where the caller stands after its calls: its session, its canvas, and what the answers told
    abbrev pub now : Caller Held
    now = calls_of at_start ts

    abbrev pub session : Session
    session = now.state.0

    abbrev pub canvas : List ℕ
    canvas = now.state.1

    -- what the whole stream means, and what the bytes consumed so far mean
    abbrev pub whole : Outcome
    whole = meant.payload setting given p (stream ts)

    abbrev pub so_far : Outcome
    so_far = meant.payload setting given p (take now.consumed (stream ts))

    roomy : 6 * setting.limits.width ≤ A
    unfolding setting_meant limits_meant calls.setting_for
    roomy = enough

    -- the definition's caller, which may make the same calls and stands where the code's does
    abbrev there : Caller Reading
    there = calls.payload_turns setting given p ts

    stood : CallerStands opening setting given now there
    stood = (calls-stand A roomy start-stands ts ok).0

    proper-there : calls.proper_payload setting given p A ts ≡ true
    proper-there = (calls-stand A roomy start-stands ts ok).1

    fine-there : is_refused now.how ≡ false → is_refused there.how ≡ false
    fine-there fine = sym (ap is_refused stood.learned.how) ∙ fine

    going-there : (now.how ≡ stopped → ⊥) → there.how ≡ stopped → ⊥
    going-there going e = going (stood.learned.how ∙ e)

    -- Demand 3, its first sentence: the calls are at most the pieces and I / (A - 6W + 1), where I is the ink of the whole stream
    pub calls-bounded : length ts ≤ pieces ts + meant.payload_ink setting given p (stream ts) / (A - 6 * l.width + 1)
    unfolding setting_meant limits_meant calls.setting_for
    calls-bounded = payload-calls setting given p A ts roomy proper-there

    -- the pending command carried out, the session stands where the bytes consumed so far lead
    so-far-settled : is_refused now.how ≡ false → settled setting there.state ≡ so_far
    so-far-settled fine =
        payload-so-far setting given p A ts roomy proper-there (fine-there fine)
        ∙ ap (λ (n : ℕ). meant.payload setting given p (take n (stream ts))) (sym (stood.learned.consumed (fine-there fine)))

    -- After each call that is not refused: the canvas shows a drawing that, with the pending command carried out, is what the bytes consumed so
    -- far mean.
    pub so-far-pending : is_refused now.how ≡ false → (canvas ≡ shown_of there.state.drawing) × (settled setting there.state ≡ so_far)
    unfolding calls.payload_shown setting_meant calls.setting_for
    so-far-pending fine = (stands-shows stood.session, so-far-settled fine)

    -- After a stop and after an end no command is pending: the canvas shows what the bytes consumed so far mean.
    pub so-far-shown : is_all now.how ≡ false → is_refused now.how ≡ false → canvas ≡ shown_of so_far.drawing
    unfolding calls.payload_shown setting_meant calls.setting_for
    so-far-shown left fine =
        stands-shows stood.session
        ∙ ap shown_of
        (payload-drawn-so-far setting given p A ts roomy proper-there (sym (ap is_all stood.learned.how) ∙ left) (fine-there fine)
        ∙ ap (λ (n : ℕ). (meant.payload setting given p (take n (stream ts))).drawing) (sym (stood.learned.consumed (fine-there fine))))

    -- Unless the last call stopped, the definition's caller has come to what reading the whole stream comes to.
    all_read_lem : (now.how ≡ stopped → ⊥) → read_payload setting given p (stream ts) ≡ ran_by there
    all_read_lem going = payload-whole setting given p A ts proper-there (going-there going)

    -- The ink that the calls told is that of the bytes consumed so far.
    pub so-far-ink : is_refused now.how ≡ false → now.ink ≡ meant.payload_ink setting given p (take now.consumed (stream ts))
    so-far-ink fine =
        stood.learned.ink (fine-there fine)
        ∙ payload-ink-so-far setting given p A ts roomy proper-there (fine-there fine)
        ∙ ap (λ (n : ℕ). meant.payload_ink setting given p (take n (stream ts))) (sym (stood.learned.consumed (fine-there fine)))

    -- a finish after calls that were not refused
    finish-there : is_refused now.how ≡ false → (owner : Palette) {out : Outcome} → settled setting there.state ≡ out
        → Finishes (shown_of out.drawing) owner canvas (finished_by session owner canvas) (meant.finish given out)
    unfolding calls.payload_shown_at_finish setting_meant calls.setting_for finish_reading calls.finish_payload
    finish-there fine owner {out} e =
        let m : calls.Session Reading = session_at setting (length opening) there in
        let live : is_refused there.how ≡ false = fine-there fine in
        let answer : calls.finish_payload m (length canvas) ≡ meant.finish given out =
        ap (calls.finish_payload m) (stands-long stood.session)
        ∙ finish-answers (λ (r : Reading). r.drawing.area) finish_reading m (length opening) live (stands-fit stood.session)
        ∙ ap₂ meant.finish stood.parameters e in
        subst (λ (x : Outcome). Finishes (shown_of x.drawing) owner canvas (finished_by session owner canvas) (meant.finish given out)) e
        (subst (Finishes (calls.payload_shown_at_finish m opening) owner canvas (finished_by session owner canvas)) answer
        (finish-stands stood.session owner))

    -- A finish then answers what the bytes consumed so far mean, and the canvas shows that.
    pub so-far-finishes : is_refused now.how ≡ false → (owner : Palette)
        → Finishes (shown_of so_far.drawing) owner canvas (finished_by session owner canvas) (meant.finish given so_far)
    so-far-finishes fine owner = finish-there fine owner (so-far-settled fine)

    -- Demand 2, and the second sentence of demand 3: unless the last call stopped or was refused, a finish answers what the whole stream means:
    -- size, ratio, background, extent and palette, and every byte of the canvas.
    pub whole-finishes : (now.how ≡ stopped → ⊥) → is_refused now.how ≡ false → (owner : Palette)
        → Finishes (shown_of whole.drawing) owner canvas (finished_by session owner canvas) (meant.finish given whole)
    unfolding ran_by
    whole-finishes going fine owner =
        finish-there fine owner
        (sym (outcome-settled setting (ran_by there) (fine-there fine)) ∙ payload-outcome setting given p A ts proper-there (going-there going))

    -- A refusal is the whole stream's, and the canvas shows what came before it.
    pub whole-refused : {n : ℕ} → now.how ≡ refused_by n → (whole.refusal ≡ some n) × (canvas ≡ shown_of whole.drawing)
    unfolding calls.payload_shown setting_meant calls.setting_for
    whole-refused e =
        let out = payload-refused setting given p A ts proper-there (sym stood.learned.how ∙ e) in
        (ap (λ (x : Outcome). x.refusal) out, stands-shows stood.session ∙ ap (λ (x : Outcome). shown_of x.drawing) (sym out))

    -- Demand 3, its third sentence: the ink that the calls told adds up to I.
    pub whole-ink : (now.how ≡ stopped → ⊥) → is_refused now.how ≡ false → now.ink ≡ meant.payload_ink setting given p (stream ts)
    whole-ink going fine = stood.learned.ink (fine-there fine) ∙ payload-all-ink setting given p A ts proper-there (going-there going)

    -- and the bytes that they told are those before the payload's end
    pub whole-consumed : (now.how ≡ stopped → ⊥) → is_refused now.how ≡ false → now.consumed ≡ length (body (stream ts))
    whole-consumed going fine =
        stood.learned.consumed (fine-there fine) ∙ payload-consumed setting given p A ts proper-there (going-there going) (fine-there fine)

    -- A refusal is given exactly when reading the whole stream comes to it.
    pub whole-refusal : (now.how ≡ stopped → ⊥) → (n : ℕ) → (now.how ≡ refused_by n) ↔ ((meant.drawn_so_far setting given p (stream ts)).refusal ≡ some n)
    unfolding ran_by
    whole-refusal going n =
        let same : now.how ≡ (read_payload setting given p (stream ts)).how = stood.learned.how ∙ ap (λ (q : Run Reading). q.how) (sym (all_read_lem going)) in
        Iff.trans (λ e. sym same ∙ e, λ e. same ∙ e) (reading-refusal setting given p (stream ts) n)

    -- The canvas shows the commands that have ended in the whole stream, up to the first that is refused.
    pub whole-drawn : (now.how ≡ stopped → ⊥) → canvas ≡ shown_of (meant.drawn_so_far setting given p (stream ts)).drawing
    unfolding calls.payload_shown setting_meant calls.setting_for ran_by
    whole-drawn going =
        stands-shows stood.session
        ∙ ap shown_of (sym (ap (λ (q : Run Reading). q.state.drawing) (all_read_lem going)) ∙ reading-drawn setting given p (stream ts))

    -- And the last call told whether the whole stream's end has come, and by which byte.
    pub whole-status : (now.how ≡ stopped → ⊥) → is_refused now.how ≡ false
        → last_status (tell_with fed_by) calls.needs_more at_start ts ≡ calls.at_end (end_of (stream ts))
    unfolding ran_by ready opened calls.at_end
    whole-status going fine =
        let unrefused : is_refused (read_payload setting given p (stream ts)).how ≡ false =
        ap (λ (q : Run Reading). is_refused q.how) (all_read_lem going) ∙ fine-there fine in
        status-stands A roomy start-stands calls.needs_more (λ g f. refl) ts ok going fine
        ∙ ap calls.at_end (sym (ap (λ (q : Run Reading). q.state.over) (all_read_lem going)) ∙ reading-over setting given p (stream ts) unrefused)
