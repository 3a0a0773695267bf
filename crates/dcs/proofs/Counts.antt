-- No call of a DCS session consumes more bytes than it has, whatever the session.
use Rattle.std.specs.Prelude.{ℕ, ◌+◌, ◌≤◌, Bool, true, false, cond, ◌||◌, eqb, List, [], ◌∷◌, length, drop, Ok, Err}
use native.Mathlib.Omega.{arith}
use lib.ListN.{length-drop}
use Rattle.payload.specs.Results as payload_answer
use Rattle.payload.specs.declared.Session as payload_session
use Rattle.payload.specs.Results.{Verdict}
use Rattle.payload.specs.Deferred.{begun_by}
use Rattle.payload.specs.Refusals.{feed_judged}
use Rattle.payload.specs.Session as payload
use Rattle.dcs.specs.Results.{Answer, Fed}
use Rattle.payload.specs.declared.Answer.TheVariants as answers
use Rattle.dcs.specs.declared.Ending.TheVariants as endings
use Rattle.dcs.specs.declared.Phase.{Phase}
use Rattle.dcs.specs.declared.Phase.TheVariants as phases
use Rattle.dcs.specs.declared.Session.{Session}
use Rattle.header.specs.declared.Lead.{Lead}
use Rattle.header.specs.Results.{Led}
use Rattle.header.specs.declared.Led.TheVariants as leds
use Rattle.header.specs.Lead.{lead_from}
use Rattle.header.specs.Settings.{settings_from}
use Rattle.header.proofs.Bounds.{lead-bound}
use Rattle.dcs.specs.Session.{session_of, over_as, escaped_by, closed_by, passed_on, fed_payload, led_to, fed_lead, fed_in, fed_as, fed_by}
use Rattle.dcs.proofs.Bounds.{AtMost, fed-bound}

-- an answer's count is at most this
abbrev pub Within : ℕ → Answer → Type 0
Within m (Ok (answers.More c i)) = c ≤ m
Within m (Ok (answers.Stopped c i)) = c ≤ m
Within m (Ok (answers.Ended c i e)) = c ≤ m
Within m (Err r) = Unit

either : (m : ℕ) (t : Bool) (x y : Fed) → Within m x.answer → Within m y.answer → Within m (cond t x y).answer
either m true x y h k = h
either m false x y h k = k

module _ (m : ℕ) where
  escaped-within : (s : Session) (bs : List ℕ) (n i : ℕ) → n + length bs ≤ m → Within m (escaped_by s bs n i).answer
  unfolding escaped_by over_as
  escaped-within s [] n i h = omega arith
  escaped-within s (b ∷ bs) n i h =
      either m (eqb b 0x5C) (over_as s (n + 1) i endings.Complete) (over_as s n i (endings.Interrupted 0x1B)) (omega arith) (omega arith)

  closed-within : (s : Session) (bs : List ℕ) (n i : ℕ) → n + length bs ≤ m → Within m (closed_by s bs n i).answer
  unfolding closed_by over_as
  closed-within s [] n i h = omega arith
  closed-within s (b ∷ bs) n i h =
      let cancelled : Fed = over_as s (n + 1) i (endings.Cancelled b) in
      let interrupted : Fed = over_as s n i (endings.Interrupted b) in
      let other : Fed = cond (eqb b 0x18 || eqb b 0x1A) cancelled interrupted in
      let last : Within m other.answer = either m (eqb b 0x18 || eqb b 0x1A) cancelled interrupted (omega arith) (omega arith) in
      either m (eqb b 0x1B) (escaped_by s bs (n + 1) i) (cond (eqb b 0x9C) (over_as s (n + 1) i endings.Complete) other)
      (escaped-within s bs (n + 1) i (omega arith))
      (either m (eqb b 0x9C) (over_as s (n + 1) i endings.Complete) other (omega arith) last)

  passed-within : (a : payload_answer.Answer) (s : Session) (bs : List ℕ) (n : ℕ) → AtMost (length bs) a → n + length bs ≤ m
      → Within m (passed_on a s bs n).answer
  unfolding passed_on
  passed-within (Ok (answers.More c i)) s bs n k h = omega arith
  passed-within (Ok (answers.Stopped c i)) s bs n k h = omega arith
  passed-within (Ok (answers.Ended c i b)) s bs n k h = closed-within s (drop c bs) (n + c) i (omega (arith, length-drop c bs))
  passed-within (Err r) s bs n k h = tt

  payload-within : (s : Session) (canvas bs : List ℕ) (n allowance : ℕ) → n + length bs ≤ m
      → Within m (fed_payload s canvas bs n allowance).0.answer
  unfolding fed_payload
  payload-within s canvas bs n allowance h =
      let r : payload_answer.Fed × List ℕ = payload.fed_by s.payload canvas bs allowance in
      passed-within r.0.answer (session_of r.0.session s.header phases.Within) bs n (fed-bound s.payload canvas bs allowance) h

  led-within : (led : Led) (l : Lead) (s : Session) (canvas bs : List ℕ) (allowance : ℕ) → l.consumed ≤ length bs → length bs ≤ m
      → Within m (led_to led l s canvas bs allowance).0.answer
  unfolding led_to
  led-within (Ok leds.On) l s canvas bs allowance k h = omega arith
  led-within (Ok leds.Begins) l s canvas bs allowance k h =
      let b : payload_session.Session × List ℕ = begun_by s.payload (settings_from l.header) canvas in
      payload-within (session_of b.0 l.header phases.Within) b.1 (drop l.consumed bs) l.consumed allowance
      (omega (arith, length-drop l.consumed bs))
  led-within (Err r) l s canvas bs allowance k h = tt

module _ (s : Session) (canvas bs : List ℕ) (allowance : ℕ) where
  in_within : (t : Phase) → Within (length bs) (fed_in t s canvas bs allowance).0.answer
  unfolding fed_in fed_lead over_as
  in_within (phases.Before t) =
      let l : Lead = lead_from bs 0 t s.header in
      led-within (length bs) l.led l s canvas bs allowance (omega (arith, lead-bound bs 0 t s.header)) (omega arith)
  in_within phases.Within = payload-within (length bs) s canvas bs 0 allowance (omega arith)
  in_within phases.Escaped = escaped-within (length bs) s bs 0 0 (omega arith)
  in_within (phases.Over e) = omega arith

  as-within : (j : Verdict) → Within (length bs) (fed_as j s canvas bs allowance).0.answer
  unfolding fed_as
  as-within (Ok tt) = in_within s.phase
  as-within (Err n) = tt

  pub feed-within : Within (length bs) (fed_by s canvas bs allowance).0.answer
  unfolding fed_by
  feed-within = as-within (feed_judged s.payload (length canvas) allowance)
