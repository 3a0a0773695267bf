-- Every session that a call hands back has its fields in their ranges, where the session that it is given has, and where the bytes
-- are bytes.
use Rattle.std.specs.Prelude.{ℕ, zero, suc, ◌+◌, ◌<◌, ◌||◌, eqb, leb, List, [], ◌∷◌, length, drop, Ok, Err}
use native.Mathlib.Omega.{arith}
use Rattle.numbers.specs.declared.Parameters.{Parameters}
use Rattle.numbers.specs.Bytes.{skipped, digit, ends, semicolon}
use Rattle.numbers.specs.Memory as parameters
use Rattle.numbers.specs.Step as numbers
use Rattle.numbers.specs.Values.{held16}
use Rattle.numbers.proofs.MemoryLaws.{opened-ranged, digit-ranged, semicolon-ranged}
use Rattle.colours.specs.declared.Palette.{Palette}
use Rattle.colours.specs.Marks.{lasting}
use Rattle.meaning.proofs.AreaLaws.{cond-case}
use Rattle.frame.specs.declared.Limits.{Limits}
use Rattle.payload.specs.Results as payload_answer
use Rattle.payload.specs.declared.Answer.TheVariants as payload_answers
use Rattle.payload.specs.declared.Session as payload_session
use Rattle.payload.specs.Results.{Verdict}
use Rattle.payload.specs.Deferred.{begun_by}
use Rattle.payload.specs.Refusals.{feed_judged}
use Rattle.payload.specs.Session as payload
use Rattle.payload.specs.Ranges.{GivenRanged, SettingsRanged}
use Rattle.payload.proofs.SessionRanges.{fed-ranged, reserved-ranged, begun-ranged, failed-ranged}
use Rattle.dcs.specs.declared.Ending.{Ending}
use Rattle.dcs.specs.declared.Ending.TheVariants as endings
use Rattle.dcs.specs.Results.{Fed}
use Rattle.dcs.specs.declared.Phase.{Phase}
use Rattle.dcs.specs.declared.Phase.TheVariants as phases
use Rattle.dcs.specs.declared.Session.{Session}
use Rattle.header.specs.declared.Lead.{Lead}
use Rattle.header.specs.Results.{Led}
use Rattle.header.specs.declared.Led.TheVariants as leds
use Rattle.header.specs.declared.Place.{Place}
use Rattle.header.specs.declared.Place.TheVariants as places
use Rattle.header.specs.declared.Step.{Step}
use Rattle.header.specs.Lead.{led_to, start_byte, introduced_byte, header_byte, lead_byte, lead_on, lead_from}
use Rattle.header.specs.Settings.{given_at, settings_from}
use Rattle.dcs.specs.Memory.{EndingRanged, PhaseRanged, Ranged}
use Rattle.dcs.specs.Session as said

-- ---- introducer and header

abbrev HeaderRanged : Step → Type 0
HeaderRanged x = parameters.Ranged x.header

module _ (h : Parameters) (k : parameters.Ranged h) where
  start-ranged : (b : ℕ) → HeaderRanged (start_byte h b)
  unfolding start_byte led_to
  start-ranged b = cond-case HeaderRanged (eqb b 0x1B) (λ _. k) (λ _. cond-case HeaderRanged (eqb b 0x90) (λ _. k) (λ _. k))

  introduced-ranged : (b : ℕ) → HeaderRanged (introduced_byte h b)
  unfolding introduced_byte led_to
  introduced-ranged b = cond-case HeaderRanged (eqb b 0x50) (λ _. k) (λ _. k)

  header-ranged : (b : ℕ) → HeaderRanged (header_byte h b)
  unfolding header_byte led_to
  header-ranged b =
      cond-case HeaderRanged (skipped b) (λ _. k)
      (λ _. cond-case HeaderRanged (digit b) (λ _. digit-ranged h b k)
      (λ _. cond-case HeaderRanged (eqb b semicolon) (λ _. semicolon-ranged h k)
      (λ _. cond-case HeaderRanged (eqb b 0x71) (λ _. k)
      (λ _. cond-case HeaderRanged (ends b) (λ _. k) (λ _. k)))))

  byte-ranged : (t : Place) (b : ℕ) → HeaderRanged (lead_byte t h b)
  unfolding lead_byte
  byte-ranged places.Start b = start-ranged b
  byte-ranged places.Introduced b = introduced-ranged b
  byte-ranged places.Header b = header-ranged b

abbrev LeadRanged : Lead → Type 0
LeadRanged x = parameters.Ranged x.header

on-ranged : (led : Led) (s : Step) (n : ℕ) (later : ℕ → Place → Parameters → Lead) → HeaderRanged s
    → ((n' : ℕ) (t' : Place) (h' : Parameters) → parameters.Ranged h' → LeadRanged (later n' t' h'))
    → LeadRanged (lead_on led s n later)
unfolding lead_on
on-ranged (Ok leds.On) s n later k j = j _ _ _ k
on-ranged (Ok leds.Begins) s n later k j = k
on-ranged (Err r) s n later k j = k

lead-ranged : (bs : List ℕ) (n : ℕ) (t : Place) (h : Parameters) → parameters.Ranged h → LeadRanged (lead_from bs n t h)
unfolding lead_from
lead-ranged [] n t h k = k
lead-ranged (b ∷ bs) n t h k =
    let s : Step = lead_byte t h b in
    on-ranged s.led s n (λ n' t' h'. lead_from bs n' t' h') (byte-ranged h k t b) (λ n' t' h' j. lead-ranged bs n' t' h' j)

given-ranged : (v : Parameters) (i : ℕ) → GivenRanged (given_at v i)
unfolding given_at held16
given-ranged v i = cond-case GivenRanged (leb v.count i) (λ _. tt) (λ _. omega arith)

settings-ranged : (h : Parameters) → SettingsRanged (settings_from h)
unfolding settings_from
settings-ranged h = record { p1 = given-ranged (numbers.finished h) 0; p2 = given-ranged (numbers.finished h) 1 }

-- ---- the end

-- bytes are numbers below 256
abbrev pub Bytes : List ℕ → Type 0
Bytes [] = Unit {0}
Bytes (b ∷ bs) = (b < 256) × Bytes bs

bytes_drop : (n : ℕ) (bs : List ℕ) → Bytes bs → Bytes (drop n bs)
bytes_drop zero bs h = h
bytes_drop (suc n) [] h = tt
bytes_drop (suc n) (b ∷ bs) h = bytes_drop n bs h.1

abbrev FedRanged : Fed → Type 0
FedRanged x = Ranged x.session

moved-ranged : (s : Session) (t : Phase) → Ranged s → PhaseRanged t → Ranged (said.moved_to s t)
unfolding said.moved_to
moved-ranged s t h k = record { payload = h.payload; header = h.header; phase = k }

over-ranged : (s : Session) (n i : ℕ) (e : Ending) → Ranged s → EndingRanged e → FedRanged (said.over_as s n i e)
unfolding said.over_as
over-ranged s n i e h k = moved-ranged s (phases.Over e) h k

escaped-ranged : (s : Session) (bs : List ℕ) (n i : ℕ) → Ranged s → FedRanged (said.escaped_by s bs n i)
unfolding said.escaped_by
escaped-ranged s [] n i h = moved-ranged s phases.Escaped h tt
escaped-ranged s (b ∷ bs) n i h =
    cond-case FedRanged (eqb b 0x5C)
    (λ _. over-ranged s (n + 1) i endings.Complete h tt) (λ _. over-ranged s n i (endings.Interrupted 0x1B) h (omega arith))

closed-ranged : (s : Session) (bs : List ℕ) (n i : ℕ) → Ranged s → Bytes bs → FedRanged (said.closed_by s bs n i)
unfolding said.closed_by
closed-ranged s [] n i h k = h
closed-ranged s (b ∷ bs) n i h k =
    cond-case FedRanged (eqb b 0x1B) (λ _. escaped-ranged s bs (n + 1) i h)
    (λ _. cond-case FedRanged (eqb b 0x9C) (λ _. over-ranged s (n + 1) i endings.Complete h tt)
    (λ _. cond-case FedRanged (eqb b 0x18 || eqb b 0x1A) (λ _. over-ranged s (n + 1) i (endings.Cancelled b) h k.0)
    (λ _. over-ranged s n i (endings.Interrupted b) h k.0)))

-- ---- feeding

passed-ranged : (a : payload_answer.Answer) (s : Session) (bs : List ℕ) (n : ℕ) → Ranged s → Bytes bs → FedRanged (said.passed_on a s bs n)
unfolding said.passed_on
passed-ranged (Ok (payload_answers.More c i)) s bs n h k = h
passed-ranged (Ok (payload_answers.Stopped c i)) s bs n h k = h
passed-ranged (Ok (payload_answers.Ended c i b)) s bs n h k = closed-ranged s (drop c bs) (n + c) i h (bytes_drop c bs k)
passed-ranged (Err r) s bs n h k = h

payload-ranged : (s : Session) (canvas bs : List ℕ) (n allowance : ℕ) → Ranged s → Bytes bs
    → FedRanged (said.fed_payload s canvas bs n allowance).0
unfolding said.fed_payload
payload-ranged s canvas bs n allowance h k =
    let r : payload_answer.Fed × List ℕ = payload.fed_by s.payload canvas bs allowance in
    passed-ranged r.0.answer (said.session_of r.0.session s.header phases.Within) bs n
    (record { payload = fed-ranged s.payload h.payload canvas bs allowance; header = h.header; phase = tt }) k

led-ranged : (led : Led) (l : Lead) (s : Session) (canvas bs : List ℕ) (allowance : ℕ) → LeadRanged l → Ranged s → Bytes bs
    → FedRanged (said.led_to led l s canvas bs allowance).0
unfolding said.led_to
led-ranged (Ok leds.On) l s canvas bs allowance j h k = record { payload = h.payload; header = j; phase = tt }
led-ranged (Ok leds.Begins) l s canvas bs allowance j h k =
    let b : payload_session.Session × List ℕ = begun_by s.payload (settings_from l.header) canvas in
    payload-ranged (said.session_of b.0 l.header phases.Within) b.1 (drop l.consumed bs) l.consumed allowance
    (record {
      payload = begun-ranged s.payload (settings_from l.header) canvas h.payload (settings-ranged l.header);
      header = j;
      phase = tt;
    })
    (bytes_drop l.consumed bs k)
led-ranged (Err r) l s canvas bs allowance j h k =
    record { payload = failed-ranged s.payload h.payload; header = j; phase = tt }

module _ (s : Session) (h : Ranged s) (canvas bs : List ℕ) (allowance : ℕ) (k : Bytes bs) where
  in-ranged : (t : Phase) → PhaseRanged t → FedRanged (said.fed_in t s canvas bs allowance).0
  unfolding said.fed_in said.fed_lead
  in-ranged (phases.Before t) j =
      let l : Lead = lead_from bs 0 t s.header in
      led-ranged l.led l s canvas bs allowance (lead-ranged bs 0 t s.header h.header) h k
  in-ranged phases.Within j = payload-ranged s canvas bs 0 allowance h k
  in-ranged phases.Escaped j = escaped-ranged s bs 0 0 h
  in-ranged (phases.Over e) j = over-ranged s 0 0 e h j

  as-ranged : (j : Verdict) → FedRanged (said.fed_as j s canvas bs allowance).0
  unfolding said.fed_as
  as-ranged (Ok tt) = in-ranged s.phase h.phase
  as-ranged (Err n) = h

  pub fed-ranged-by : Ranged (said.fed_by s canvas bs allowance).0.session
  unfolding said.fed_by
  fed-ranged-by = as-ranged (feed_judged s.payload (length canvas) allowance)

pub opened-ranged-by : (l : Limits) (stride : ℕ) (p : Palette) (size : ℕ) → Ranged (said.opened_by l stride p size).session
unfolding said.opened_by
opened-ranged-by l stride p size = record { payload = reserved-ranged l stride (lasting p) size; header = opened-ranged 3; phase = tt }
