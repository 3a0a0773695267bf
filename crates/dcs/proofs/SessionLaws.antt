-- Laws of a DCS session: one for each path through a function of the code, with what its callees return as variables. The functions' own proofs
-- find them by search, and the rulesets below say which laws belong to which functions.
use Rattle.std.specs.Prelude.{◌≡◌, ℕ, ◌+◌, ◌-◌, ◌<◌, ◌≤◌, Bool, true, false, cond, ◌||◌, eqb, List, [], ◌∷◌, length, get_or, take, drop, Ok, Err}
use mathlib.Core.Path.{refl, sym, ap, ap₂, subst, ◌∙◌}
use native.Mathlib.Numerals.{add-one}
use native.Mathlib.Omega.{arith}
use borrow.Author.Tests.{eq-eqb, ne_eqb}
use denote.Enum.Declared.{tag_of}
use lib.ListN.{drop_of_length-le, length-drop}
use lib.Seq.{drop-cons, drop-drop, take-length}
use types.Run.{OneOf, miss}
use Rattle.numbers.specs.declared.Parameters.{Parameters}
use Rattle.numbers.specs.Step as numbers
use Rattle.numbers.proofs.Laws.{cond_yes, cond_no}
use Rattle.colours.specs.declared.Palette.{Palette}
use Rattle.frame.specs.declared.Frame.{Frame}
use Rattle.frame.specs.declared.Limits.{Limits}
use Rattle.frame.specs.declared.Refusal.{Refusal}
use Rattle.frame.specs.declared.Refusal.TheVariants as refusals
use Rattle.payload.specs.Results as payload_answer
use Rattle.payload.specs.declared.Finished.{Finished}
use Rattle.payload.specs.declared.Session as payload_session
use Rattle.payload.specs.declared.Life.{Life}
use Rattle.payload.specs.declared.Life.TheVariants as lives
use Rattle.payload.specs.declared.Settings.{Settings}
use Rattle.payload.specs.declared.kernel.Setup.{Setup}
use Rattle.payload.specs.Results.{Verdict}
use Rattle.payload.specs.Core.{over, begun_over, handed_back}
use Rattle.payload.specs.Deferred.{reserved_by, begun_by, failed_of}
use Rattle.payload.specs.Refusals.{feed_judged, finish_judged}
use Rattle.payload.specs.Session as payload
use Rattle.payload.proofs.CoreLaws.{owned, owned_by as payload-owned}
use Rattle.payload.proofs.SessionLaws.{fed-refused as refused-at-once}
use Rattle.payload.specs.declared.Answer as counts
use Rattle.payload.specs.declared.Answer.TheVariants as answers
use Rattle.dcs.specs.declared.Ending.{Ending}
use Rattle.dcs.specs.declared.Ending.TheVariants as endings
use Rattle.dcs.specs.Results.{Fed, Opened}
use Rattle.dcs.specs.declared.Phase.{Phase}
use Rattle.dcs.specs.declared.Phase.TheVariants as phases
use Rattle.dcs.specs.declared.Session.{Session}
use Rattle.dcs.specs.declared.kernel.feeding.Told.{Told}
use Rattle.header.specs.declared.Lead.{Lead}
use Rattle.header.specs.Results.{Led}
use Rattle.header.specs.declared.Led.TheVariants as leds
use Rattle.header.specs.declared.Place.{Place}
use Rattle.header.specs.declared.Place.TheVariants as places
use Rattle.header.specs.Lead.{lead_from}
use Rattle.header.specs.Settings.{settings_from}
use Rattle.header.proofs.Bounds.{lead-bound}
use Rattle.dcs.specs.Session.{session_of, opened_on, moved_to, over_as, escaped_by, closed_by, over_told, escaped_told, closed_told, count_of, passed_told, told_of, passed_on, fed_payload, led_to, fed_lead, fed_in, fed_as, fed_by, end_judged, finished_in, finished_as, finished_by}
use Rattle.dcs.proofs.Bounds.{AtMost, fed-bound}
use Rattle.dcs.specs.contracts.Phase as PhaseType

-- ---- opening

pub opened-as : {o : payload_answer.Opened} {h : Parameters} (l : Limits) (stride : ℕ) (p : Palette) (size : ℕ)
    → o ≡ reserved_by l stride p size → h ≡ numbers.opened 3
    → ◌≡◌ {A = Opened} (record { answer = o.answer; session = session_of o.session h (phases.Before places.Start) }) (opened_on l stride p size)
unfolding opened_on
opened-as l stride p size e k = rw (e, k) refl

-- ---- the end

pub over-as : (n i : ℕ) (e : Ending)
    → ◌≡◌ {A = Told} (record { answer = Ok (answers.Ended n i e); phase = phases.Over e }) (over_told n i e)
unfolding over_told
over-as n i e = refl

module _ (bytes : List ℕ) (at ink : ℕ) where
  -- the byte there, and the outcome of a payload that has ended, from there on
  abbrev byte : ℕ
  byte = get_or bytes at 0

  abbrev escaped_here : Told
  escaped_here = escaped_told (drop at bytes) at ink

  abbrev closed_here : Told
  closed_here = closed_told (drop at bytes) at ink

  pub escaped-waits : length bytes ≤ at
      → ◌≡◌ {A = Told} (record { answer = Ok (answers.More at ink); phase = phases.Escaped }) escaped_here
  unfolding escaped_told
  escaped-waits h = ap (λ (bs : List ℕ). escaped_told bs at ink) (sym (drop_of_length-le bytes h))

  pub closed-nowhere : length bytes ≤ at
      → ◌≡◌ {A = Told} (record { answer = Ok (answers.More at ink); phase = phases.Within }) closed_here
  unfolding closed_told
  closed-nowhere h = ap (λ (bs : List ℕ). closed_told bs at ink) (sym (drop_of_length-le bytes h))

  here : at < length bytes → drop at bytes ≡ byte ∷ drop (at + 1) bytes
  here more = rw add-one (drop-cons bytes at 0 more)

  module _ {r : Told} (more : at < length bytes) where
    escaped-here : r ≡ escaped_told (byte ∷ drop (at + 1) bytes) at ink → r ≡ escaped_here
    escaped-here e = e ∙ ap (λ (bs : List ℕ). escaped_told bs at ink) (sym (here more))

    closed-here : r ≡ closed_told (byte ∷ drop (at + 1) bytes) at ink → r ≡ closed_here
    closed-here e = e ∙ ap (λ (bs : List ℕ). closed_told bs at ink) (sym (here more))

    pub escaped-complete : byte ≡ 0x5C → r ≡ over_told (at + 1) ink endings.Complete → r ≡ escaped_here
    unfolding escaped_told
    escaped-complete b e = escaped-here (e ∙ sym (cond_yes _ _ (eq-eqb _ _ b)))

    pub escaped-other : (byte ≡ 0x5C → ⊥) → r ≡ over_told at ink (endings.Interrupted 0x1B) → r ≡ escaped_here
    unfolding escaped_told
    escaped-other b e = escaped-here (e ∙ sym (cond_no _ _ (ne_eqb _ _ b)))

    pub closed-escape : byte ≡ 0x1B → r ≡ escaped_told (drop (at + 1) bytes) (at + 1) ink → r ≡ closed_here
    unfolding closed_told
    closed-escape b e = closed-here (e ∙ sym (cond_yes _ _ (eq-eqb _ _ b)))

    module _ (n1_b : byte ≡ 0x1B → ⊥) where
      pub closed-complete : byte ≡ 0x9C → r ≡ over_told (at + 1) ink endings.Complete → r ≡ closed_here
      unfolding closed_told
      closed-complete b e = closed-here (e ∙ sym (cond_no _ _ (ne_eqb _ _ n1_b) ∙ cond_yes _ _ (eq-eqb _ _ b)))

      module _ (n9_c : byte ≡ 0x9C → ⊥) where
        -- what is left to tell apart
        tail : r ≡ cond (eqb byte 0x18 || eqb byte 0x1A)
            (over_told (at + 1) ink (endings.Cancelled byte)) (over_told at ink (endings.Interrupted byte))
            → r ≡ closed_here
        unfolding closed_told
        tail e = closed-here (e ∙ sym (cond_no _ _ (ne_eqb _ _ n1_b) ∙ cond_no _ _ (ne_eqb _ _ n9_c)))

        -- 18 and 1A
        cancelled : {k : ℕ} → (eqb byte 0x18 || eqb byte 0x1A) ≡ true → byte ≡ k
            → r ≡ over_told (at + 1) ink (endings.Cancelled k)
            → r ≡ closed_here
        cancelled t b e = tail (e ∙ ap (λ (k : ℕ). over_told (at + 1) ink (endings.Cancelled k)) (sym b) ∙ sym (cond_yes _ _ t))

        pub closed-can : byte ≡ 0x18 → r ≡ over_told (at + 1) ink (endings.Cancelled 0x18) → r ≡ closed_here
        closed-can b e = cancelled (rw (eq-eqb byte 0x18 b) refl) b e

        pub closed-sub : (byte ≡ 0x18 → ⊥) → byte ≡ 0x1A → r ≡ over_told (at + 1) ink (endings.Cancelled 0x1A)
            → r ≡ closed_here
        closed-sub n b e = cancelled (rw (ne_eqb byte 0x18 n, eq-eqb byte 0x1A b) refl) b e

        pub closed-other : (byte ≡ 0x18 → ⊥) → (byte ≡ 0x1A → ⊥) → r ≡ over_told at ink (endings.Interrupted byte)
            → r ≡ closed_here
        closed-other n m e =
            let t : (eqb byte 0x18 || eqb byte 0x1A) ≡ false = rw (ne_eqb byte 0x18 n, ne_eqb byte 0x1A m) refl in
            tail (e ∙ sym (cond_no _ _ t))

pub ruleset endings-laws = (
  over-as,
  escaped-waits,
  escaped-complete,
  escaped-other,
  closed-nowhere,
  closed-escape,
  closed-complete,
  closed-can,
  closed-sub,
  closed-other,
)

-- ---- what is told, as the whole outcome

pub told-as : (p : payload_session.Session) (h : Parameters) (t : Told)
    → ◌≡◌ {A = Fed} (record { answer = t.answer; session = session_of p h t.phase }) (told_of p h t)
unfolding told_of
told-as p h t = refl

module _ (p : payload_session.Session) (h : Parameters) where
  told-cond : (b : Bool) (x y : Told) → told_of p h (cond b x y) ≡ cond b (told_of p h x) (told_of p h y)
  told-cond true x y = refl
  told-cond false x y = refl

  told-escaped : (t : Phase) (bs : List ℕ) (n i : ℕ) → told_of p h (escaped_told bs n i) ≡ escaped_by (session_of p h t) bs n i
  unfolding told_of escaped_told escaped_by over_told over_as moved_to
  told-escaped t [] n i = refl
  told-escaped t (b ∷ bs) n i = told-cond (eqb b 0x5C) _ _

  told-closed : (bs : List ℕ) (n i : ℕ) → told_of p h (closed_told bs n i) ≡ closed_by (session_of p h phases.Within) bs n i
  unfolding told_of closed_told closed_by over_told over_as moved_to
  told-closed [] n i = refl
  told-closed (b ∷ bs) n i =
      told-cond (eqb b 0x1B) _ _
      ∙ ap₂ (cond (eqb b 0x1B)) (told-escaped phases.Within bs (n + 1) i)
      (told-cond (eqb b 0x9C) _ _ ∙ ap (cond (eqb b 0x9C) _) (told-cond (eqb b 0x18 || eqb b 0x1A) _ _))

  told-passed : (a : payload_answer.Answer) (bs : List ℕ) (n : ℕ)
      → told_of p h (passed_told a bs n) ≡ passed_on a (session_of p h phases.Within) bs n
  unfolding told_of passed_told passed_on
  told-passed (Ok (answers.More c i)) bs n = refl
  told-passed (Ok (answers.Stopped c i)) bs n = refl
  told-passed (Ok (answers.Ended c i b)) bs n = told-closed (drop c bs) (n + c) i
  told-passed (Err r) bs n = refl

-- ---- in the payload

-- what an answer counts
abbrev Counts : Type 0
Counts = counts.Answer ℕ

module _ {a : payload_answer.Answer} {x : Counts} {c i : ℕ} (e : a ≡ Ok x) where
  pub count-more : x ≡ answers.More c i → count_of a ≡ c
  unfolding count_of
  count-more k = ap count_of (e ∙ ap Ok k)

  pub count-stopped : x ≡ answers.Stopped c i → count_of a ≡ c
  unfolding count_of
  count-stopped k = ap count_of (e ∙ ap Ok k)

  pub count-ended : {b : ℕ} → x ≡ answers.Ended c i b → count_of a ≡ c
  unfolding count_of
  count-ended k = ap count_of (e ∙ ap Ok k)

at_most : (m : ℕ) (a : payload_answer.Answer) → AtMost m a → count_of a ≤ m
unfolding count_of
at_most m (Ok (answers.More c i)) h = h
at_most m (Ok (answers.Stopped c i)) h = h
at_most m (Ok (answers.Ended c i b)) h = h
at_most m (Err r) h = omega arith

pub passed-as : {r : Told} {a b : payload_answer.Answer} (bs : List ℕ) (n : ℕ) → a ≡ b
    → r ≡ passed_told b bs n → r ≡ passed_told a bs n
passed-as bs n e h = h ∙ ap (λ (a : payload_answer.Answer). passed_told a bs n) (sym e)

pub passed-ended : {r : Told} {a : payload_answer.Answer} {x : Counts} {c i b : ℕ} (bytes : List ℕ) (from : ℕ)
    → a ≡ Ok x → x ≡ answers.Ended c i b
    → r ≡ closed_told (drop (from + c) bytes) (from + c) i
    → r ≡ passed_told a (drop from bytes) from
unfolding passed_told
passed-ended {c = c} {i = i} bytes from e k h =
    passed-as (drop from bytes) from (e ∙ ap Ok k) (h ∙ ap (λ (bs : List ℕ). closed_told bs (from + c) i) (sym (drop-drop c from bytes)))

-- the part of a slice from a place on
pub part-drop : (bytes : List ℕ) (from : ℕ) → take (length bytes - from) (drop from bytes) ≡ drop from bytes
part-drop bytes from = ap (λ (n : ℕ). take n (drop from bytes)) (sym (length-drop from bytes)) ∙ take-length (drop from bytes)

-- the payload session is fed the part of the bytes from a place on
module _ (p : payload_session.Session) (canvas bytes : List ℕ) (from allowance : ℕ) {part : List ℕ} {f : payload_answer.Fed} {after : List ℕ}
    (same : part ≡ drop from bytes) (fed : (f, after) ≡ payload.fed_by p canvas part allowance) where
  whole : (f, after) ≡ payload.fed_by p canvas (drop from bytes) allowance
  whole = fed ∙ ap (λ (bs : List ℕ). payload.fed_by p canvas bs allowance) same

  -- the call has bytes enough for what it counts
  pub passed-bound : from ≤ length bytes → from + count_of f.answer ≤ length bytes
  passed-bound h =
      let most : AtMost (length (drop from bytes)) f.answer =
      subst (AtMost (length (drop from bytes)))
      (ap (λ (x : payload_answer.Fed × List ℕ). x.0.answer) (sym whole)) (fed-bound p canvas (drop from bytes) allowance) in
      omega (arith, h, at_most (length (drop from bytes)) f.answer most, length-drop from bytes)

  pub payload-fed : {t : Told} {r : Fed} (h : Parameters)
      → t ≡ passed_told f.answer (drop from bytes) from → r ≡ told_of f.session h t
      → (r, after) ≡ fed_payload (session_of p h phases.Within) canvas (drop from bytes) from allowance
  unfolding fed_payload
  payload-fed h t r =
      ap (λ (x : Fed). (x, after)) (r ∙ ap (told_of f.session h) t ∙ told-passed f.session h f.answer (drop from bytes) from)
      ∙ ap
      (λ (x : payload_answer.Fed × List ℕ).
      (passed_on x.0.answer (session_of x.0.session h phases.Within) (drop from bytes) from, x.1)) whole

-- or is refused
pub begun-refused : {j : Verdict} {n : Refusal} {r : Fed} (p : payload_session.Session) (h : Parameters) (canvas bytes : List ℕ) (from allowance : ℕ)
    → j ≡ feed_judged p (length canvas) allowance → j ≡ Err n
    → r ≡ told_of p h (record { answer = Err n; phase = phases.Within })
    → (r, canvas) ≡ fed_payload (session_of p h phases.Within) canvas (drop from bytes) from allowance
unfolding passed_told
begun-refused p h canvas bytes from allowance e k q =
    payload-fed p canvas bytes from allowance refl (refused-at-once p canvas (drop from bytes) allowance e k) h refl q

pub ruleset payloads = (passed-as, passed-ended)

-- ---- before it

pub lead-in : (bytes : List ℕ) (t : Place) (h : Parameters) {l : Lead} → l ≡ lead_from (drop 0 bytes) 0 t h → l.consumed ≤ length bytes
lead-in bytes t h lead = omega (arith, lead-bound bytes 0 t h, ap (λ (x : Lead). x.consumed) lead)

module _ (p : payload_session.Session) (h : Parameters) (t : Place) (canvas bytes : List ℕ) (allowance : ℕ) {l : Lead}
    (lead : l ≡ lead_from (drop 0 bytes) 0 t h) where
  abbrev early : Session
  early = session_of p h (phases.Before t)

  led : {x : Led} {r : Fed × List ℕ} → l.led ≡ x → r ≡ led_to x l early canvas bytes allowance
      → r ≡ fed_lead early t canvas bytes allowance
  unfolding fed_lead
  led e k =
      k
      ∙ ap (λ (x : Led). led_to x l early canvas bytes allowance) (sym e)
      ∙ ap (λ (x : Lead). led_to x.led x early canvas bytes allowance) lead

  module _ {r : Fed} where
    pub led_on : l.led ≡ Ok leds.On
        → r ≡ told_of p l.header (record { answer = Ok (answers.More l.consumed 0); phase = phases.Before l.place })
        → (r, canvas) ≡ fed_lead early t canvas bytes allowance
    unfolding led_to told_of
    led_on e k = led e (ap (λ (x : Fed). (x, canvas)) k)

    pub led-refused : {n : Refusal} {y : payload_session.Session} → l.led ≡ Err n → y ≡ failed_of p
        → r ≡ told_of y l.header (record { answer = Err n; phase = phases.Before l.place })
        → (r, canvas) ≡ fed_lead early t canvas bytes allowance
    unfolding led_to told_of
    led-refused {n} e y k =
        led e
        (ap (λ (x : Fed). (x, canvas))
        (k
        ∙ ap (λ (x : payload_session.Session). told_of x l.header (record { answer = Err n; phase = phases.Before l.place }))
        y))

    pub led-begins : {o : Settings} {b : payload_session.Session} {l₁ l₂ : List ℕ}
        → l.led ≡ Ok leds.Begins → o ≡ settings_from l.header
        → (b, l₁) ≡ begun_by p o canvas
        → (r, l₂) ≡ fed_payload (session_of b l.header phases.Within) l₁ (drop l.consumed bytes) l.consumed allowance
        → (r, l₂) ≡ fed_lead early t canvas bytes allowance
    unfolding led_to
    led-begins e o b k =
        led e
        (k
        ∙ ap
        (λ (x : payload_session.Session × List ℕ).
        fed_payload (session_of x.0 l.header phases.Within) x.1 (drop l.consumed bytes) l.consumed allowance)
        (b ∙ ap (λ (y : Settings). begun_by p y canvas) o))

-- the parts of a session that fails
pub failed-over : (u : Setup) (life : Life) (f : Frame) (p : Palette) → over u lives.Failed f p ≡ failed_of (over u life f p)
unfolding failed_of payload.session_with
failed-over u life f p = refl

-- and of one that begins
pub begun-over : {v : Setup} {life : Life} {g : Frame} {p : Palette} {after : List ℕ} (u : Setup) (f : Frame) (o : Settings) (canvas : List ℕ)
    → begun_over v life p after ≡ begun_by (over u life f p) o canvas → g ≡ payload.blank_frame p
    → (over v life g p, after) ≡ begun_by (over u life f p) o canvas
begun-over u f o canvas e k = rw k e

-- ---- a call

module _ (t : Phase) (p : payload_session.Session) (h : Parameters) (canvas bytes : List ℕ) (allowance : ℕ) where
  -- the outcome in the phase t
  abbrev fed : Fed × List ℕ
  fed = fed_in t (session_of p h t) canvas bytes allowance

  fed-in : {x : Phase} {r : Fed × List ℕ} → t ≡ x → r ≡ fed_in x (session_of p h x) canvas bytes allowance
      → r ≡ fed
  fed-in e k = k ∙ ap (λ (x : Phase). fed_in x (session_of p h x) canvas bytes allowance) (sym e)

  pub fed-before : {place : Place} {r : Fed} {after : List ℕ} → t ≡ phases.Before place
      → (r, after) ≡ fed_lead (session_of p h (phases.Before place)) place canvas bytes allowance
      → (r, after) ≡ fed
  unfolding fed_in
  fed-before e k = fed-in e k

  pub fed-within : {r : Fed} {after : List ℕ} → t ≡ phases.Within
      → (r, after) ≡ fed_payload (session_of p h phases.Within) canvas (drop 0 bytes) 0 allowance
      → (r, after) ≡ fed
  unfolding fed_in
  fed-within e k = fed-in e k

  pub fed-escaped : {r : Fed} {x : Told} → t ≡ phases.Escaped → x ≡ escaped_told (drop 0 bytes) 0 0 → r ≡ told_of p h x
      → (r, canvas) ≡ fed
  unfolding fed_in
  fed-escaped e x k = fed-in e (ap (λ (r : Fed). (r, canvas)) (k ∙ ap (told_of p h) x ∙ told-escaped p h phases.Escaped bytes 0 0))

  pub fed-over : {r : Fed} {x : Told} {d : Ending} → t ≡ phases.Over d → x ≡ over_told 0 0 d → r ≡ told_of p h x
      → (r, canvas) ≡ fed
  unfolding fed_in told_of over_told over_as moved_to
  fed-over e x k = fed-in e (ap (λ (r : Fed). (r, canvas)) (k ∙ ap (told_of p h) x))

module _ (s : Session) (canvas bytes : List ℕ) (allowance : ℕ) {j : Verdict}
    (e : j ≡ feed_judged s.payload (length canvas) allowance) where
  pub fed-refused : {n : Refusal} → j ≡ Err n
      → ◌≡◌ {A = Fed × List ℕ} (record { answer = Err n; session = s }, canvas) (fed_by s canvas bytes allowance)
  unfolding fed_by fed_as
  fed-refused h = ap (λ (k : Verdict). fed_as k s canvas bytes allowance) (sym h ∙ e)

  pub fed-on : {r : Fed} {after : List ℕ} → j ≡ Ok tt
      → (r, after) ≡ fed_in s.phase (session_of s.payload s.header s.phase) canvas bytes allowance
      → (r, after) ≡ fed_by s canvas bytes allowance
  unfolding fed_by fed_as
  fed-on fine k = k ∙ ap (λ (k : Verdict). fed_as k s canvas bytes allowance) (sym fine ∙ e)

-- ---- finishing

module _ {j : Verdict} (t : Phase) where
  pub end_refused : {n : Refusal} → j ≡ Err n → Err n ≡ end_judged j t
  unfolding end_judged
  end_refused e = ap (λ (k : Verdict). end_judged k t) (sym e)

  pub end-over : {d : Ending} → j ≡ Ok tt → t ≡ phases.Over d → Ok tt ≡ end_judged j t
  unfolding end_judged
  end-over e k = sym (ap₂ end_judged e k)

not-over : (t : Phase) → OneOf (0 ∷ 1 ∷ 2 ∷ []) (tag_of PhaseType.the_type t)
    → Err refusals.Unfinished ≡ end_judged (Ok tt) t
unfolding end_judged
not-over (phases.Before p) h = refl
not-over phases.Within h = refl
not-over phases.Escaped h = refl
not-over (phases.Over e) h = absurd (miss (0 ∷ 1 ∷ 2 ∷ []) 3 tt h)

pub end-unfinished : {j : Verdict} (t : Phase) → j ≡ Ok tt → OneOf (0 ∷ 1 ∷ 2 ∷ []) (tag_of PhaseType.the_type t)
    → Err refusals.Unfinished ≡ end_judged j t
end-unfinished t e h = not-over t h ∙ ap (λ (k : Verdict). end_judged k t) (sym e)

module _ (s : Session) (owner : Palette) (canvas : List ℕ) where
  -- a finish by its refusal, which is all told by then
  unfoldable concluded : Verdict → Finished × List ℕ
  concluded (Ok tt) = payload.finished_by s.payload owner canvas
  concluded (Err n) = payload.turned_away owner n canvas

  concluded-in : (t : Phase) → concluded (end_judged (Ok tt) t) ≡ finished_in t s owner canvas
  unfolding concluded end_judged finished_in
  concluded-in (phases.Before p) = refl
  concluded-in phases.Within = refl
  concluded-in phases.Escaped = refl
  concluded-in (phases.Over e) = refl

  concluded-as : (j : Verdict) → concluded (end_judged j s.phase) ≡ finished_as j s owner canvas
  unfolding concluded end_judged finished_as
  concluded-as (Ok tt) = concluded-in s.phase
  concluded-as (Err n) = refl

  module _ {j k : Verdict} (e : j ≡ finish_judged s.payload (length canvas)) (d : k ≡ end_judged j s.phase) where
    finish-by : {x : Verdict} {r : Finished × List ℕ} → k ≡ x → r ≡ concluded x → r ≡ finished_by s owner canvas
    unfolding finished_by
    finish-by h y = y ∙ ap concluded (sym h ∙ d) ∙ concluded-as j ∙ ap (λ (i : Verdict). finished_as i s owner canvas) e

    pub finish-refused : {n : Refusal} → k ≡ Err n
        → ◌≡◌ {A = Finished × List ℕ} (record { answer = Err n; palette = owner }, canvas) (finished_by s owner canvas)
    unfolding concluded payload.turned_away
    finish-refused h = finish-by h refl

    pub finish-on : {x : Finished} {after : List ℕ} → k ≡ Ok tt
        → (x, after) ≡ payload.finished_by s.payload owner canvas
        → (x, after) ≡ finished_by s owner canvas
    unfolding concluded
    finish-on h y = finish-by h y

-- a finish for one owner is that for another, but for what a refusal hands back
module _ (s : Session) (owner other : Palette) (canvas : List ℕ) where
  owned_in : (t : Phase) → finished_in t s owner canvas ≡ owned owner (finished_in t s other canvas)
  unfolding finished_in payload.turned_away handed_back
  owned_in (phases.Before t) = refl
  owned_in phases.Within = refl
  owned_in phases.Escaped = refl
  owned_in (phases.Over e) = payload-owned s.payload owner other canvas

  owned-as : (j : Verdict) → finished_as j s owner canvas ≡ owned owner (finished_as j s other canvas)
  unfolding finished_as payload.turned_away handed_back
  owned-as (Ok tt) = owned_in s.phase
  owned-as (Err n) = refl

  pub owned_by : finished_by s owner canvas ≡ owned owner (finished_by s other canvas)
  unfolding finished_by
  owned_by = owned-as (finish_judged s.payload (length canvas))

pub ruleset finishings = (end_refused, end-over, end-unfinished)
