-- The refusals that openings, feeds, finishes and readings can answer at all (promises/Refusals), whatever session and canvas they are lent.
use Rattle.std.specs.Prelude.{Ok, Err}
use Prim.Native.Nat.{ℕ, ◌+◌, ◌*◌, ◌≤◌}
use mathlib.Core.Bool.{Bool, true, false, ◌||◌}
use mathlib.Core.List.{List, [], ◌∷◌, ◌++◌}
use mathlib.Core.Option.{Option, none, some}
use mathlib.Core.Path.{◌≡◌, refl, sym, ◌∙◌, subst}
use native.Mathlib.Omega.{arith}
use borrow.Author.Tests.{eq-eqb, eqb-false}
use lib.Dec.{ltb, eqb}
use lib.ListN.{length, drop}
use Rattle.canvas.proofs.Covers.{or_right, by-test}
use Rattle.numbers.specs.declared.Parameters.{Parameters}
use Rattle.numbers.specs.Bytes.{skipped, digit, ends, semicolon}
use Rattle.colours.specs.declared.Palette.{Palette}
use Rattle.frame.specs.Numbers.{number_of}
use Rattle.frame.specs.declared.Limits.{Limits}
use Rattle.frame.specs.declared.Outcome.{Outcome}
use Rattle.frame.specs.declared.Outcome.TheVariants as outcomes
use Rattle.reference.specs.Step.{Reached}
use Rattle.reference.specs.Feed.{feed_from}
use Rattle.meaning.specs.Calls as calls
use Rattle.meaning.specs.Commands.{commands}
use Rattle.meaning.specs.Drawing as drawing
use Rattle.meaning.specs.OneShot.{Found, found, lacking, refused_with, find_payload, answer_of, one_shot}
use Rattle.meaning.specs.Payload as meant
use Rattle.meaning.proofs.Cases.{cond-case}
use Rattle.payload.specs.Results as payload_answer
use Rattle.payload.specs.declared.Answer.TheVariants as answers
use Rattle.payload.specs.Results.{Fed, Opened, Verdict}
use Rattle.payload.specs.declared.Life.{Life}
use Rattle.payload.specs.declared.Life.TheVariants as lives
use Rattle.payload.specs.declared.Session.{Session}
use Rattle.payload.specs.declared.Settings.{Settings}
use Rattle.payload.specs.Deferred.{reserved_by, begun_by}
use Rattle.payload.specs.Refusals.{openable, is_failed, misfitting, feed_judged}
use Rattle.payload.specs.Session as payload
use Rattle.dcs.specs.Results as dcs_fed
use Rattle.dcs.specs.declared.Phase.{Phase}
use Rattle.dcs.specs.declared.Phase.TheVariants as phases
use Rattle.dcs.specs.declared.Session as dcs_session
use Rattle.header.specs.declared.Lead.{Lead}
use Rattle.header.specs.Results.{Led}
use Rattle.header.specs.declared.Led.TheVariants as leds
use Rattle.header.specs.declared.Place.{Place}
use Rattle.header.specs.declared.Place.TheVariants as places
use Rattle.header.specs.declared.Step.{Step}
use Rattle.header.specs.Lead.{led_to, start_byte, introduced_byte, header_byte, lead_byte, lead_on, lead_from}
use Rattle.header.specs.Settings.{settings_from}
use Rattle.dcs.specs.Session as dcs
use Rattle.oneshot.specs.OneShot.{read_whole}
use Rattle.promises.specs.Refusals.{opening_number, payload_number, dcs_number, finish_number, read_number, one_of, Only, opening_numbers, command_numbers, payload_feed_numbers, dcs_feed_numbers, payload_finish_numbers, dcs_finish_numbers, read_numbers, outcome_number, pending_number, first_or, payload_finish_order, is_early, dcs_finish_order}
use Rattle.promises.proofs.AnySession.{reading-low, payload-finish-order, dcs-finish-order, pending-low}
use Rattle.promises.proofs.RefusedFinishes.{finish-numbers}
use Rattle.promises.proofs.RefusedShots.{found-numbers}

-- ---- numbers of a list

-- a longer list has them too
only-after : (front back : List ℕ) (x : Option ℕ) → Only back x → Only (front ++ back) x
unfolding one_of
only-after front back none h = tt
only-after [] back (some n) h = h
only-after (m ∷ ms) back (some n) h = or_right (eqb n m) (one_of n (ms ++ back)) (only-after ms back (some n) h)

-- ---- a payload session

module _ (l : Limits) (stride : ℕ) (p : Palette) where
  -- An opening answers 11 alone.
  pub payload-opens-only : (o : Settings) (canvas : List ℕ) → Only opening_numbers (opening_number (payload.opened_by l stride o p canvas).0.answer)
  unfolding payload.opened_by opening_number number_of one_of
  payload-opens-only o canvas =
      cond-case (λ (x : Opened × List ℕ). Only opening_numbers (opening_number x.0.answer)) (openable l stride (length canvas)) (λ _. tt) (λ _. refl)

  pub dcs-opens-only : (size : ℕ) → Only opening_numbers (opening_number (dcs.opened_by l stride p size).answer)
  unfolding dcs.opened_by reserved_by opening_number number_of one_of
  dcs-opens-only size = cond-case (λ (x : Opened). Only opening_numbers (opening_number x.answer)) (openable l stride size) (λ _. tt) (λ _. refl)

module _ (s : Session) (canvas bytes : List ℕ) (allowance : ℕ) where
  abbrev FedOnly : Fed × List ℕ → Type 0
  FedOnly x = Only payload_feed_numbers (payload_number x.0.answer)

  -- what reading comes to
  answered-only : (o : Outcome) (n i : ℕ) → Only command_numbers (outcome_number o) → Only payload_feed_numbers (payload_number (payload.answer_of o n i))
  unfolding payload.answer_of payload_number outcome_number
  answered-only outcomes.Read n i h = tt
  answered-only outcomes.Stopped n i h = tt
  answered-only (outcomes.Ended b) n i h = tt
  answered-only (outcomes.Refused r) n i h = only-after (9 ∷ 12 ∷ 13 ∷ []) command_numbers (some (number_of r)) h

  live-only : FedOnly (payload.fed_live s canvas bytes allowance)
  unfolding payload.fed_live payload.answered_by payload.answered_in
  live-only =
      let r : Reached = feed_from s.ground allowance bytes 0 0 s.frame s.palette canvas in
      answered-only r.progress.outcome r.progress.consumed r.progress.ink
      (reading-low s.ground allowance bytes 0 0 s.frame s.palette canvas)

  life-only : (t : Life) → FedOnly (payload.fed_in t s canvas bytes allowance)
  unfolding payload.fed_in payload_number
  life-only lives.Live = live-only
  life-only (lives.Ended b) = tt
  life-only lives.Failed = live-only

  -- A feed answers 9, 12, 13 and 4 to 7 alone.
  pub payload-feeds-only : FedOnly (payload.fed_by s canvas bytes allowance)
  unfolding payload.fed_by payload.fed_as feed_judged payload_number number_of one_of
  payload-feeds-only =
      let P : Verdict → Type 0 = λ j. FedOnly (payload.fed_as j s canvas bytes allowance) in
      cond-case P (is_failed s.life) (λ _. refl)
      λ _. cond-case P (misfitting s (length canvas)) (λ _. refl)
      λ _. cond-case P (ltb allowance (6 * s.ground.limits.width)) (λ _. refl) (λ _. life-only s.life)

-- a finish, by its order
module _ (owner : Palette) (canvas : List ℕ) where
  -- A payload session's finish answers 9, 12 and 4 to 7 alone,
  pub payload-finishes-only : (s : Session) → Only payload_finish_numbers (finish_number (payload.finished_by s owner canvas).0.answer)
  unfolding payload_finish_order first_or calls.first_of one_of
  payload-finishes-only s =
      subst (Only payload_finish_numbers) (sym (payload-finish-order s owner canvas)) (go (is_failed s.life) (misfitting s (length canvas)))
    where
      go : (t m : Bool) → Only payload_finish_numbers (first_or (record { holds = t; number = 9 } ∷ record { holds = m; number = 12 } ∷ []) (pending_number s))
      go true m = refl
      go false true = refl
      go false false = only-after (9 ∷ 12 ∷ []) command_numbers (pending_number s) (pending-low s)

  -- and a DCS session's 8 too.
  pub dcs-finishes-only : (s : dcs_session.Session) → Only dcs_finish_numbers (finish_number (dcs.finished_by s owner canvas).0.answer)
  unfolding dcs_finish_order first_or calls.first_of one_of
  dcs-finishes-only s =
      subst (Only dcs_finish_numbers) (sym (dcs-finish-order s owner canvas))
      (go (is_failed s.payload.life) (misfitting s.payload (length canvas)) (is_early s.phase))
    where
      go : (t m u : Bool)
          → Only dcs_finish_numbers
          (first_or (record { holds = t; number = 9 } ∷ record { holds = m; number = 12 } ∷ record { holds = u; number = 8 } ∷ [])
          (pending_number s.payload))
      go true m u = refl
      go false true u = refl
      go false false true = refl
      go false false false = only-after (9 ∷ 12 ∷ 8 ∷ []) command_numbers (pending_number s.payload) (pending-low s.payload)

-- ---- a DCS session's feed

abbrev LedOnly : Led → Type 0
LedOnly (Ok leds.On) = Unit {0}
LedOnly (Ok leds.Begins) = Unit {0}
LedOnly (Err r) = Only dcs_feed_numbers (some (number_of r))

-- introducer and header are refused by 1, 2 and 3
byte-led : (t : Place) (h : Parameters) (b : ℕ) → LedOnly (lead_byte t h b).led
unfolding lead_byte start_byte introduced_byte header_byte led_to number_of one_of
byte-led places.Start h b =
    cond-case (λ (x : Step). LedOnly x.led) (eqb b 0x1B) (λ _. tt) λ _. cond-case (λ (x : Step). LedOnly x.led) (eqb b 0x90) (λ _. tt) (λ _. refl)
byte-led places.Introduced h b = cond-case (λ (x : Step). LedOnly x.led) (eqb b 0x50) (λ _. tt) (λ _. refl)
byte-led places.Header h b =
    let P : Step → Type 0 = λ x. LedOnly x.led in
    cond-case P (skipped b) (λ _. tt)
    λ _. cond-case P (digit b) (λ _. tt)
    λ _. cond-case P (eqb b semicolon) (λ _. tt)
    λ _. cond-case P (eqb b 0x71) (λ _. tt) λ _. cond-case P (ends b) (λ _. refl) (λ _. refl)

on-led : (x : Led) (s : Step) (n : ℕ) (later : ℕ → Place → Parameters → Lead) → LedOnly x
    → ((n' : ℕ) (t : Place) (h : Parameters) → LedOnly (later n' t h).led) → LedOnly (lead_on x s n later).led
unfolding lead_on
on-led (Ok leds.On) s n later h k = k (n + 1) s.place s.header
on-led (Ok leds.Begins) s n later h k = tt
on-led (Err r) s n later h k = h

lead-led : (bs : List ℕ) (n : ℕ) (t : Place) (h : Parameters) → LedOnly (lead_from bs n t h).led
unfolding lead_from
lead-led [] n t h = tt
lead-led (b ∷ bs) n t h =
    on-led (lead_byte t h b).led (lead_byte t h b) n (λ n' t' h'. lead_from bs n' t' h') (byte-led t h b) (λ n' t' h'. lead-led bs n' t' h')

-- what a payload session's call comes to: a refusal is passed on, and an end is none
abbrev ToldOnly : dcs_fed.Fed → Type 0
ToldOnly x = Only dcs_feed_numbers (dcs_number x.answer)

escaped-only : (s : dcs_session.Session) (bs : List ℕ) (n i : ℕ) → ToldOnly (dcs.escaped_by s bs n i)
unfolding dcs.escaped_by dcs.over_as dcs_number
escaped-only s [] n i = tt
escaped-only s (b ∷ bs) n i = cond-case ToldOnly (eqb b 0x5C) (λ _. tt) (λ _. tt)

closed-only : (s : dcs_session.Session) (bs : List ℕ) (n i : ℕ) → ToldOnly (dcs.closed_by s bs n i)
unfolding dcs.closed_by dcs.over_as dcs_number
closed-only s [] n i = tt
closed-only s (b ∷ bs) n i =
    cond-case ToldOnly (eqb b 0x1B) (λ _. escaped-only s bs (n + 1) i)
    λ _. cond-case ToldOnly (eqb b 0x9C) (λ _. tt) λ _. cond-case ToldOnly (eqb b 0x18 || eqb b 0x1A) (λ _. tt) (λ _. tt)

feed-numbers : (n : ℕ) → one_of n payload_feed_numbers ≡ true → one_of n dcs_feed_numbers ≡ true
unfolding one_of
feed-numbers n h =
    by-test (eqb n 9) (λ e. rw e refl)
    λ e. by-test (eqb n 12) (λ f. rw (e, f) refl)
    λ f. by-test (eqb n 13) (λ g. rw (e, f, g) refl)
    λ g.
    let low : one_of n command_numbers ≡ true = sym (rw (e, f, g) refl) ∙ h in
    only-after (9 ∷ 12 ∷ 13 ∷ 1 ∷ 2 ∷ 3 ∷ []) command_numbers (some n) low

passed-only : (a : payload_answer.Answer) → Only payload_feed_numbers (payload_number a) → (s : dcs_session.Session) (bs : List ℕ) (n : ℕ)
    → ToldOnly (dcs.passed_on a s bs n)
unfolding dcs.passed_on dcs_number payload_number
passed-only (Ok (answers.More c i)) h s bs n = tt
passed-only (Ok (answers.Stopped c i)) h s bs n = tt
passed-only (Ok (answers.Ended c i b)) h s bs n = closed-only s (drop c bs) (n + c) i
passed-only (Err r) h s bs n = feed-numbers (number_of r) h

module _ (canvas bytes : List ℕ) (allowance : ℕ) where
  within-only : (s : dcs_session.Session) (lent bs : List ℕ) (n : ℕ) → ToldOnly (dcs.fed_payload s lent bs n allowance).0
  unfolding dcs.fed_payload
  within-only s lent bs n =
      let r : Fed × List ℕ = payload.fed_by s.payload lent bs allowance in
      passed-only r.0.answer (payload-feeds-only s.payload lent bs allowance) (dcs.session_of r.0.session s.header phases.Within) bs n

  led-only : (x : Led) → LedOnly x → (l : Lead) (s : dcs_session.Session) → ToldOnly (dcs.led_to x l s canvas bytes allowance).0
  unfolding dcs.led_to dcs_number
  led-only (Ok leds.On) h l s = tt
  led-only (Ok leds.Begins) h l s =
      let b : Session × List ℕ = begun_by s.payload (settings_from l.header) canvas in
      within-only (dcs.session_of b.0 l.header phases.Within) b.1 (drop l.consumed bytes) l.consumed
  led-only (Err r) h l s = h

  phase-only : (t : Phase) (s : dcs_session.Session) → ToldOnly (dcs.fed_in t s canvas bytes allowance).0
  unfolding dcs.fed_in dcs.fed_lead dcs.over_as dcs_number
  phase-only (phases.Before t) s =
      let l : Lead = lead_from bytes 0 t s.header in led-only l.led (lead-led bytes 0 t s.header) l s
  phase-only phases.Within s = within-only s canvas bytes 0
  phase-only phases.Escaped s = escaped-only s bytes 0 0
  phase-only (phases.Over e) s = tt

  -- A feed answers 9, 12, 13 and 1 to 7 alone.
  pub dcs-feeds-only : (s : dcs_session.Session) → ToldOnly (dcs.fed_by s canvas bytes allowance).0
  unfolding dcs.fed_by dcs.fed_as feed_judged dcs_number number_of one_of
  dcs-feeds-only s =
      let P : Verdict → Type 0 = λ j. ToldOnly (dcs.fed_as j s canvas bytes allowance).0 in
      cond-case P (is_failed s.payload.life) (λ _. refl)
      λ _. cond-case P (misfitting s.payload (length canvas)) (λ _. refl)
      λ _. cond-case P (ltb allowance (6 * s.payload.ground.limits.width)) (λ _. refl) (λ _. phase-only s.phase s)

-- ---- reading all at once

-- 4 to 7 are a command's
command-number : (n : ℕ) → 4 ≤ n → n ≤ 7 → one_of n command_numbers ≡ true
unfolding one_of
command-number n low high =
    by-test (eqb n 4) (λ e. rw e refl)
    λ e. by-test (eqb n 5) (λ f. rw (e, f) refl)
    λ f. by-test (eqb n 6) (λ g. rw (e, f, g) refl)
    λ g.
    let four = eqb-false n 4 e in
    let five = eqb-false n 5 f in
    let six = eqb-false n 6 g in
    rw (e, f, g, eq-eqb n 7 (omega arith)) refl

header-number : (n : ℕ) → 2 ≤ n → n ≤ 3 → one_of n (2 ∷ 3 ∷ command_numbers) ≡ true
unfolding one_of
header-number n low high =
    by-test (eqb n 2) (λ e. rw e refl) λ e. let two = eqb-false n 2 e in rw (e, eq-eqb n 3 (omega arith)) refl

module _ (l : drawing.Limits) (stride : ℕ) (p : Palette) (canvas bytes : List ℕ) where
  abbrev setting : drawing.Setting
  setting = calls.setting_for l stride (length canvas)

  found-only : (f : Found) → find_payload bytes ≡ f → Only read_numbers (read_number (answer_of setting p f))
  unfolding answer_of meant.payload read_number one_of
  found-only (found o part) q = go (meant.finish o (meant.payload setting o p part)) refl
    where
      go : (x : meant.Finished) → meant.finish o (meant.payload setting o p part) ≡ x → Only read_numbers (read_number x)
      go (meant.finished r) e = tt
      go (meant.turned_down n) e =
          let range : (4 ≤ n) × (n ≤ 7) = finish-numbers setting o (commands part) (drawing.blank p o.p2) n e in
          only-after (11 ∷ 8 ∷ 2 ∷ 3 ∷ []) command_numbers (some n) (command-number n range.0 range.1)
  found-only lacking q = refl
  found-only (refused_with n) q =
      let range : (2 ≤ n) × (n ≤ 3) = found-numbers l stride p canvas bytes q in
      only-after (11 ∷ 8 ∷ []) (2 ∷ 3 ∷ command_numbers) (some n) (header-number n range.0 range.1)

  -- A reading answers 11, 8 and 2 to 7 alone.
  pub reads_only : Only read_numbers (read_number (read_whole l stride p canvas bytes).answer)
  unfolding read_whole calls.read_one_shot one_shot read_number one_of
  reads_only =
      cond-case (λ (x : meant.Finished). Only read_numbers (read_number x)) (calls.opens l stride (length canvas))
      (λ _. found-only (find_payload bytes) refl) (λ _. refl)
