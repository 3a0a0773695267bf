-- What is told of reading all at once is what the definition tells.
use Rattle.std.specs.Prelude.{◌≡◌, ℕ, suc, ◌+◌, ◌-◌, ◌*◌, ◌≤◌, true, false, eqb, List, [], ◌∷◌, length, drop, Some, None}
use native.Mathlib.Nat.{add-zero, zero-add}
use native.Mathlib.Numerals.{add-one}
use native.Mathlib.Omega.{arith}
use mathlib.Core.Option.{Option, none, some}
use mathlib.Core.Path.{refl, sym, ap, ap₂, ◌∙◌, subst}
use lib.ListN.{length-drop}
use lib.Seq.{drop-drop}
use Rattle.numbers.specs.declared.Parameters.{Parameters}
use Rattle.numbers.specs.Bytes.{skipped, digit, sixel, ends}
use Rattle.numbers.specs.Read.{Read}
use Rattle.numbers.specs.Step as numbers
use Rattle.numbers.proofs.Laws.{cond_yes, cond_no}
use Rattle.numbers.proofs.Reading.{read_none}
use Rattle.colours.specs.declared.Palette.{Palette}
use Rattle.colours.specs.Marks.{lasting}
use Rattle.canvas.proofs.Covers.{by-test}
use Rattle.frame.specs.declared.Frame.{Frame}
use Rattle.frame.specs.declared.Ground.{Ground}
use Rattle.frame.specs.declared.Kind.{Kind}
use Rattle.frame.specs.declared.Kind.TheVariants as kinds
use Rattle.frame.specs.declared.Limits.{Limits}
use Rattle.frame.specs.declared.Outcome.{Outcome}
use Rattle.frame.specs.declared.Outcome.TheVariants as outcomes
use Rattle.frame.specs.declared.Progress.{Progress}
use Rattle.frame.specs.declared.Refusal.{Refusal}
use Rattle.frame.specs.Numbers.{number_of}
use Rattle.frame.specs.Commands.{settled_as, color_ended_by, unread_as, Ended, ended_in, ended}
use Rattle.reference.specs.Step.{Reached}
use Rattle.reference.specs.Feed.{byte_step}
use Rattle.meaning.specs.Commands.{Begun, Scanned, closed, scan_byte}
use Rattle.meaning.specs.Drawing.{Setting, Outcome as Drew, draw_all}
use Rattle.meaning.specs.OneShot.{after_introducer}
use Rattle.meaning.specs.Payload as meant
use Rattle.meaning.specs.Reader.{Step, next, halt, refuse, Run, still, after, follow, read_from}
use Rattle.meaning.specs.Sessions as sessions
use Rattle.meaning.specs.Sessions.{Reading, settled, ended_at, went_on, read_byte, payload_step}
use Rattle.meaning.specs.Tellings.{Telling, told_at, placeless, first_shortage, first_refused, byte_shortage, pending_telling, or_pending, part_telling}
use Rattle.meaning.specs.Tellings.{header_telling, input_telling, read_telling}
use Rattle.meaning.proofs.AreaLaws.{cond-case}
use Rattle.meaning.proofs.Demand3.{payload-caps}
use Rattle.agreement.specs.Same.{Same}
use Rattle.agreement.proofs.Bytes.{byte-agrees}
use Rattle.agreement.proofs.Data.{Agrees, reads, stops, halts, refuses}
use Rattle.payload.specs.declared.Life.TheVariants as lives
use Rattle.payload.specs.declared.Session as payload_session
use Rattle.payload.specs.declared.Settings.{Settings}
use Rattle.payload.specs.Deferred.{no_settings, with_background, begun_session}
use Rattle.payload.specs.History.{Stands}
use Rattle.payload.specs.Meant.{given_meant, parameters_meant, limits_meant, setting_meant}
use Rattle.payload.specs.Refusals.{openable}
use Rattle.payload.specs.Session.{session_for, ground_for}
use Rattle.payload.proofs.Openings.{opens-meant, ready-stands}
use Rattle.header.specs.declared.Lead.{Lead}
use Rattle.header.specs.declared.Step as lead_step
use Rattle.header.specs.declared.Place.TheVariants as lead_places
use Rattle.header.specs.Lead.{lead_byte, lead_on, lead_from}
use Rattle.header.specs.Settings.{settings_from}
use Rattle.header.proofs.HeaderLaws as headers
use Rattle.header.proofs.HeaderLaws.{HeaderAgrees, header-agrees}
use Rattle.oneshot.specs.Search.{Start, start_from}
use Rattle.oneshot.proofs.FoundLaws.{start_meant, start-meant, StartWithin, start-within}
use Rattle.explain.specs.Explained.{Explained}
use Rattle.explain.specs.declared.dry.Led.{Led}
use Rattle.explain.specs.Dry.{data_dry, argument_dry, step_dry_in, step_dry, then_dry, byte_dry, cost_of, led_as, go_on_dry, dry_from}
use Rattle.explain.specs.Explained.{told_for, placeless_for, explained_in, part_explained, pending_explained, whole_in, whole_explained, started_explained}
use Rattle.explain.specs.Explained.{headed_in, headed_from, found_explained, input_explained, read_explained_on, read_explained}
use Rattle.explain.specs.Meant.{place_meant, need_meant, telling_meant, explained_meant}
use Rattle.explain.specs.Need.{largest, need_of}
use Rattle.explain.proofs.DryMeant.{uncanvassed, byte-dry}
use Rattle.explain.proofs.NeedAgrees.{byte-need}
use Rattle.explain.proofs.PayloadTells.{first_of, refused-told, pending-tells}
use Rattle.explain.proofs.SessionTells.{pending-dry, ending-told}

-- ---- a payload to its end

-- a byte that ends the payload leaves no command begun
abbrev Unbegun : Step Reading → Type 0
Unbegun (next t i) = Unit {0}
Unbegun (halt t) = t.begun ≡ none
Unbegun (refuse t n) = Unit {0}

ended-unbegun : (b : ℕ) (r : Reading) (out : Drew) → Unbegun (ended_at b r out)
unfolding ended_at
ended-unbegun b r out = go out.refusal
  where
    go : (o : Option ℕ) → Unbegun (ended_at b r (record { drawing = out.drawing; refusal = o }))
    go none = refl
    go (some n) = tt

went-unbegun : (r : Reading) (c : Scanned) (out : Drew) → Unbegun (went_on r c out)
unfolding went_on
went-unbegun r c out = go out.refusal
  where
    go : (o : Option ℕ) → Unbegun (went_on r c (record { drawing = out.drawing; refusal = o }))
    go none = tt
    go (some n) = tt

halt-begun : (s : Setting) (r : Reading) (b : ℕ) {u : Reading} → r.over ≡ none → payload_step s r b ≡ halt u → u.begun ≡ none
unfolding payload_step read_byte
halt-begun s r b going e =
    subst Unbegun (sym (ap (λ (o : Option ℕ). elim o as (λ _. Step Reading) [ none ↦ read_byte s r b | some n ↦ halt r ]) going) ∙ e)
    (cond-case Unbegun (ends b) (λ _. ended-unbegun b r (settled s r))
    (λ _. went-unbegun r (scan_byte r.passed r.begun b) (draw_all s (scan_byte r.passed r.begun b).ended r.drawing)))

-- what reading a payload comes to, in the definition and in the code, and what is told of it: nothing where all is read or the end has come, and
-- else the refused byte
pub data Whole (s : Setting) (opening : List ℕ) (g : Ground) (from : ℕ) : Reading → Led → Option Telling → Type 0 where
  all_read : {u : Reading} {d : Led} (p : Palette) (l : List ℕ) → d.outcome ≡ outcomes.Read
      → Same s opening u g d.frame p l → Whole s opening g from u d none
  at_end : {u : Reading} {d : Led} (b : ℕ) → d.outcome ≡ outcomes.Ended b → u.begun ≡ none → Whole s opening g from u d none
  refused_at : {u : Reading} {d : Led} {t : Telling} (why : Refusal) → d.outcome ≡ outcomes.Refused why
      → some t ≡ explained_meant (explained_in (outcomes.Refused why) d.frame g (from + d.consumed)) → Whole s opening g from u d (some t)

module _ (s : Setting) (opening : List ℕ) (g : Ground) (from : ℕ) where
  abbrev Later : List ℕ → Type 0
  Later bs = (n : ℕ) (r : Reading) (f : Frame) (p : Palette) (l : List ℕ) → Same s opening r g f p l → r.over ≡ none
      → Whole s opening g from (read_from (payload_step s) r bs).state (dry_from false g bs n largest f p) (first_of s (from + n) r bs)

  module _ (n b : ℕ) (r : Reading) (bs : List ℕ) (going : r.over ≡ none) (later : Later bs) where
    follows : Step Reading → Run Reading
    unfolding follow
    follows x = follow x (λ u j. after 1 j (read_from (payload_step s) u bs))

    tells : Step Reading → Option Telling
    unfolding told_at
    tells x =
        elim x [
          | next t j ↦ first_of s (suc (from + n)) t bs
          | halt t ↦ none
          | refuse t m ↦ some (told_at (from + n) m (byte_shortage s r b))
        ]

    goes_on : Outcome → Ended → Led
    unfolding go_on_dry
    goes_on o t = go_on_dry o t n (λ f' p' ink. dry_from false g bs (n + 1) (largest - cost_of false ink) f' p')

    module _ (t : Reached)
        (need : (why : Refusal) → t.progress.outcome ≡ outcomes.Refused why → byte_shortage s r b ≡ need_meant (need_of t.progress.frame g)) where
      known : {o : Outcome} {u : Reading} {told : Option Telling} → t.progress.outcome ≡ o → Whole s opening g from u (goes_on o (uncanvassed t)) told
          → Whole s opening g from u (goes_on t.progress.outcome (uncanvassed t)) told
      known {u = u} {told} e = subst (λ (o : Outcome). Whole s opening g from u (goes_on o (uncanvassed t)) told) (sym e)

      byte-whole : {x : Step Reading} → 6 * s.limits.width ≤ largest → payload_step s r b ≡ x → Agrees s opening r g b largest x t
          → Whole s opening g from (follows x).state (goes_on t.progress.outcome (uncanvassed t)) (tells x)
      unfolding follows tells goes_on after still led_as cost_of
      byte-whole cap step (reads {u} {i = j} h over e one ink same) =
          known e
          (subst (λ (k : ℕ). Whole s opening g from (read_from (payload_step s) u bs).state
          (dry_from false g bs (n + 1) largest t.progress.frame t.palette) (first_of s k u bs))
          (omega arith)
          (later (n + 1) u t.progress.frame t.palette t.canvas same over))
      byte-whole cap step (stops {u} {i = j} h e same) = absurd (omega (arith, payload-caps s r u b j step))
      byte-whole cap step (halts over e same) = known e (at_end b refl (halt-begun s r b going step))
      byte-whole cap step (refuses why m e same) = known e (refused_at why refl (refused-told why g t.progress.frame (from + n) m (need why e)))

  pub read_whole_lem : 6 * s.limits.width ≤ largest → (bs : List ℕ) → Later bs
  unfolding read_from first_refused dry_from follows tells goes_on still led_as
  read_whole_lem cap [] n r f p l same going = all_read p l refl same
  read_whole_lem cap (b ∷ bs) n r f p l same going =
      subst
      (λ (t : Ended). Whole s opening g from (read_from (payload_step s) r (b ∷ bs)).state (goes_on n b r bs going (read_whole_lem cap bs) t.progress.outcome t)
      (first_of s (from + n) r (b ∷ bs)))
      (byte-dry f g b largest p l)
      (byte-whole n b r bs going (read_whole_lem cap bs) (byte_step f g b largest p l) (λ why. byte-need same b largest) cap refl (byte-agrees same going b largest))

-- ---- the pending command at the end

-- it hangs on no palette
module _ (f : Frame) (g : Ground) (at : ℕ) where
  -- what is told once the step before the byte itself is known
  told_after : Ended → Explained
  unfolding then_dry
  told_after x = let t : Ended = then_dry x.progress.outcome x g 0x1B 0 in explained_in t.progress.outcome t.progress.frame g at

  same-progress : (y : Progress) (p q : Palette) → told_after (record { progress = y; palette = p }) ≡ told_after (record { progress = y; palette = q })
  unfolding told_after then_dry
  same-progress y p q = go y.outcome
    where
      then : Outcome → Palette → Explained
      then o p = let t : Ended = then_dry o (record { progress = y; palette = p }) g 0x1B 0 in explained_in t.progress.outcome t.progress.frame g at

      go : (o : Outcome) → then o p ≡ then o q
      go outcomes.Read = by-test (eqb y.consumed 0) (λ t. rw t) (λ t. rw t)
      go outcomes.Stopped = refl
      go (outcomes.Ended b) = refl
      go (outcomes.Refused r) = refl

  ended-alike : (p q : Palette) (k : Kind) → told_after (ended_in k f g p) ≡ told_after (ended_in k f g q)
  unfolding told_after ended_in color_ended_by settled_as data_dry sixel ends unread_as explained_in
  ended-alike p q kinds.Data = same-progress (ended_in kinds.Data f g p).progress p q
  ended-alike p q kinds.Repeat = same-progress (ended_in kinds.Repeat f g p).progress p q
  ended-alike p q kinds.Color = refl
  ended-alike p q kinds.Raster = same-progress (ended_in kinds.Raster f g p).progress p q

  step-alike : (p q : Palette) (k : Kind) → told_after (step_dry_in k f g 0x1B 0 p) ≡ told_after (step_dry_in k f g 0x1B 0 q)
  unfolding step_dry_in argument_dry digit skipped ended
  step-alike p q kinds.Data = same-progress (data_dry f g 0x1B 0) p q
  step-alike p q kinds.Repeat = ended-alike p q f.command.kind
  step-alike p q kinds.Color = ended-alike p q f.command.kind
  step-alike p q kinds.Raster = ended-alike p q f.command.kind

  pub pending-alike : (p q : Palette) → pending_explained f g p at ≡ pending_explained f g q at
  unfolding byte_dry step_dry told_after
  pending-alike p q = pending-dry f g p at ∙ step-alike p q f.command.kind ∙ sym (pending-dry f g q at)

-- ---- a payload, whole

-- a reading with no command begun has none to refuse
unbegun-told : (s : Setting) (at : ℕ) (r : Reading) → r.begun ≡ none → pending_telling s at r ≡ none
unfolding pending_telling settled draw_all closed
unbegun-told s at r e =
    ap {B = Option Telling}
    (λ (o : Option Begun). elim (draw_all s (closed o) r.drawing).refusal as (λ _. Option Telling) [
      | none ↦ none
      | some n ↦ some (told_at at n (first_shortage s (closed o) r.drawing))
    ])
    e

-- from any state on
pub whole-told : {s : Setting} {opening : List ℕ} {r : Reading} {g : Ground} {f : Frame} {p : Palette} {l : List ℕ} → Same s opening r g f p l
    → r.over ≡ none → 6 * s.limits.width ≤ largest → (from end : ℕ) (us : List ℕ)
    → explained_meant (whole_explained f g p us from end)
    ≡ or_pending (first_of s from r us) (pending_telling s end (read_from (payload_step s) r us).state)
unfolding whole_explained whole_in part_explained explained_in explained_meant or_pending
whole-told {s} {opening} {r} {g} {f} {p} {l} same going most from end us =
    go (subst (λ (k : ℕ). Whole s opening g from (read_from (payload_step s) r us).state led (first_of s k r us)) (add-zero from)
    (read_whole_lem s opening g from most us 0 r f p l same going))
  where
    led : Led
    led = dry_from false g us 0 largest f p

    wholly : Outcome → Option Telling
    wholly o = explained_meant (whole_in o led g p from end)

    go : {u : Reading} {t : Option Telling} → Whole s opening g from u led t → wholly led.outcome ≡ or_pending t (pending_telling s end u)
    go {u} (all_read q c e now) =
        ap wholly e
        ∙ ap explained_meant (pending-alike led.frame g end p q ∙ ending-told led.frame g q c end)
        ∙ sym (pending-tells {r = u} now end)
    go {u} (at_end b e unbegun) =
        ap wholly e ∙ ap (λ o. explained_meant (explained_in o led.frame g (from + led.consumed))) e ∙ sym (unbegun-told s end u unbegun)
    go (refused_at why e t) = ap wholly e ∙ ap (λ o. explained_meant (explained_in o led.frame g (from + led.consumed))) e ∙ sym t

-- ---- the input

module _ (l : Limits) (stride : ℕ) (opening : List ℕ) (owner : Palette) (opens : openable l stride (length opening) ≡ true) where
  abbrev setting : Setting
  setting = setting_meant l stride (length opening)

  -- a session that has not begun, and one that starts with settings
  abbrev waits : payload_session.Session
  waits = session_for l stride (length opening) no_settings (lasting owner) lives.Live

  capped : 6 * setting.limits.width ≤ largest
  capped =
      let k : Stands opening _ _ _ = ready-stands l stride no_settings owner opening opens in
      omega (arith, k.drawing.bounded.width)

  -- a payload from a place on
  started-told : (o : Settings) (whole : List ℕ) (from : ℕ) → from ≤ length whole
      → explained_meant (started_explained waits o whole from) ≡ part_telling setting owner (parameters_meant o) from (drop from whole)
  unfolding started_explained begun_session with_background session_for ground_for part_telling sessions.opened
  started-told o whole from h =
      let k : Stands opening _ _ _ = ready-stands l stride o owner opening opens in
      whole-told {r = sessions.opened (parameters_meant o) owner} (record { drawing = k.drawing; begun = k.begun refl }) refl capped from
      (length whole) (drop from whole)
      ∙ ap
      (λ (end : ℕ). or_pending (first_of setting from (sessions.opened (parameters_meant o) owner) (drop from whole))
      (pending_telling setting end (read_from (payload_step setting) (sessions.opened (parameters_meant o) owner) (drop from whole)).state))
      (omega (arith, length-drop from whole))

  -- where a header leads, told
  abbrev headed : List ℕ → Lead → Option Telling
  headed whole x = explained_meant (headed_in x.led x waits whole)

  -- one byte of it, where the later ones are known
  byte-told : {got : List ℕ} {x : lead_step.Step} {y : sessions.HeaderByte} (whole us : List ℕ) (n : ℕ) → drop (n + 1) whole ≡ us → n + 1 ≤ length whole
      → HeaderAgrees got x y
      → ((h : Parameters) (more : List ℕ) → Read 3 more h
      → headed whole (lead_from us (n + 1) lead_places.Header h) ≡ header_telling setting owner (n + 1) more us)
      → headed whole (lead_on x.led x n (λ n' t' h'. lead_from us n' t' h'))
      ≡ elim y as (λ _. Option Telling) [
        | sessions.goes_on more ↦ header_telling setting owner (suc n) more us
        | sessions.settles o ↦ part_telling setting owner o (suc n) us
        | sessions.wrong m ↦ some (told_at n m none)
      ]
  unfolding lead_on headed_in explained_meant told_for telling_meant place_meant need_meant told_at
  byte-told whole us n e within (headers.goes_on {h} {more} r) later =
      later h more r ∙ ap (λ (k : ℕ). header_telling setting owner k more us) (add-one n)
  byte-told whole us n e within (headers.settles {h} {o} same) later =
      started-told (settings_from h) whole (n + 1) within
      ∙ ap₂ (λ (k : ℕ) (vs : List ℕ). part_telling setting owner (parameters_meant (settings_from h)) k vs) (add-one n) e
      ∙ ap (λ (v : meant.Parameters). part_telling setting owner v (suc n) us) (sym same)
  byte-told whole us n e within (headers.turns_down why number low r) later =
      ap (λ (k : ℕ). some (record { number = k; place = some n; need = none })) number

  header-told : (whole us : List ℕ) (n : ℕ) (got : List ℕ) (h : Parameters) → Read 3 got h → drop n whole ≡ us → n + length us ≡ length whole
      → headed whole (lead_from us n lead_places.Header h) ≡ header_telling setting owner n got us
  unfolding lead_from lead_byte header_telling headed_in explained_meant told_for telling_meant place_meant need_meant told_at number_of
  header-told whole [] n got h r e k = refl
  header-told whole (b ∷ us) n got h r e k =
      let rest : drop (n + 1) whole ≡ us = sym (drop-drop 1 n whole) ∙ ap (drop 1) e in
      byte-told whole us n rest (omega arith) (header-agrees b r)
      (λ h' more r'. header-told whole us (n + 1) more h' r' rest (omega arith))

  -- by what stands after an introducer
  abbrev told_by : List ℕ → Option (List ℕ) → Option Telling
  told_by bs o =
      elim o as (λ _. Option Telling) [
        | none ↦ part_telling setting owner meant.no_parameters 0 bs
        | some later ↦ header_telling setting owner (length bs - length later) [] later
      ]

  start-told : (bs : List ℕ) (t : Start) → start_meant bs t ≡ after_introducer bs → StartWithin (length bs) t
      → explained_meant (found_explained t waits bs) ≡ told_by bs (after_introducer bs)
  unfolding found_explained headed_from start_meant no_settings parameters_meant given_meant
  start-told bs (Some n) e h =
      let place : length bs - length (drop n bs) ≡ n = omega (arith, h, length-drop n bs) in
      header-told bs (drop n bs) n [] (numbers.opened 3) (read_none 3) refl (omega (arith, h, length-drop n bs))
      ∙ ap (λ (k : ℕ). header_telling setting owner k [] (drop n bs)) (sym place)
      ∙ ap (told_by bs) e
  start-told bs None e h = started-told no_settings bs 0 (omega arith) ∙ ap (told_by bs) e

  -- the whole input
  input-told : (bs : List ℕ) → explained_meant (input_explained waits bs) ≡ input_telling setting owner bs
  unfolding input_explained input_telling
  input-told bs =
      start-told bs (start_from 0 bs) (start-meant bs 0 bs refl)
      (subst (λ (m : ℕ). StartWithin m (start_from 0 bs)) (zero-add (length bs)) (start-within 0 bs))

-- What is told of reading all at once is what the definition tells: number, place and need.
pub read_told_lem : (l : Limits) (stride : ℕ) (opening : List ℕ) (owner : Palette) (bs : List ℕ)
    → explained_meant (read_explained l stride (length opening) owner bs) ≡ read_telling (limits_meant l) stride (length opening) owner bs
unfolding read_explained read_explained_on read_telling setting_meant explained_meant placeless_for telling_meant place_meant need_meant placeless number_of
read_told_lem l stride opening owner bs =
    by-test (openable l stride (length opening))
    (λ t. ap explained_meant (cond_yes _ _ t)
    ∙ input-told l stride opening owner t bs
    ∙ sym (cond_yes _ _ (sym (opens-meant l stride (length opening)) ∙ t)))
    (λ t. ap explained_meant (cond_no _ _ t) ∙ sym (cond_no _ _ (sym (opens-meant l stride (length opening)) ∙ t)))
