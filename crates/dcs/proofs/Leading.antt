-- Introducer and header byte by byte: the code's step is the definition's.
use Rattle.std.specs.Prelude.{◌≡◌, ℕ, eqb, List, Ok, Err}
use mathlib.Core.Path.{refl}
use Rattle.numbers.specs.declared.Parameters.{Parameters}
use Rattle.colours.specs.declared.Palette.{Palette}
use Rattle.frame.specs.declared.Refusal.{Refusal}
use Rattle.frame.specs.declared.Refusal.TheVariants as refusals
use Rattle.frame.specs.Numbers.{number_of}
use Rattle.meaning.specs.Drawing.{Setting}
use Rattle.meaning.specs.Payload as meant
use Rattle.meaning.specs.Reader as reader
use Rattle.meaning.specs.Sessions as sessions
use Rattle.payload.specs.Meant as payload_meant
use Rattle.header.specs.declared.Place.{Place}
use Rattle.header.specs.declared.Led.TheVariants as leds
use Rattle.header.specs.declared.Step.{Step}
use Rattle.header.specs.Lead.{led_to, start_byte, introduced_byte, lead_byte}
use Rattle.header.specs.Settings.{settings_from}
use Rattle.header.proofs.Cases.{both}
use Rattle.header.proofs.HeaderLaws as header
use Rattle.header.proofs.HeaderLaws.{HeaderAgrees, header-agrees}
use Rattle.dcs.specs.History.{SamePlace, at_start, at_introduced, in_header}

-- the code's step and the definition's: on to the same place, to the payload with the same parameters, or refused with the same number
pub data LeadAgrees (p : Palette) : Step → reader.Step sessions.Phase → Type 0 where
  goes_on : {s : Step} {x : sessions.Phase} → s.led ≡ Ok leds.On → SamePlace s.place s.header x → LeadAgrees p s (reader.next x 0)
  begins : {s : Step} {o : meant.Parameters} → s.led ≡ Ok leds.Begins → o ≡ payload_meant.parameters_meant (settings_from s.header)
      → LeadAgrees p s (reader.next (sessions.within (sessions.opened o p)) 0)
  turns_down : {s : Step} {x : sessions.Phase} {n : ℕ} (why : Refusal)
      → s.led ≡ Err why → number_of why ≡ n → SamePlace s.place s.header x
      → LeadAgrees p s (reader.refuse x n)

module _ (s : Setting) (p : Palette) (b : ℕ) where
  -- what a header's byte does, as the definition's step
  unfoldable header_does : List ℕ → sessions.HeaderByte → reader.Step sessions.Phase
  header_does bs y =
      elim y [
        | sessions.goes_on more ↦ reader.next (sessions.header more) 0
        | sessions.settles o ↦ reader.next (sessions.within (sessions.opened o p)) 0
        | sessions.wrong n ↦ reader.refuse (sessions.header bs) n
      ]

  header-leads : {got : List ℕ} {x : Step} {y : sessions.HeaderByte} → HeaderAgrees got x y → LeadAgrees p x (header_does got y)
  unfolding header_does
  header-leads (header.goes_on r) = goes_on refl (in_header r)
  header-leads (header.settles e) = begins refl e
  header-leads (header.turns_down why e low r) = turns_down why refl e (in_header r)

  pub byte-leads : {t : Place} {h : Parameters} {x : sessions.Phase} → SamePlace t h x
      → LeadAgrees p (lead_byte t h b) (sessions.dcs_step s p x b)
  unfolding lead_byte start_byte introduced_byte led_to header_does number_of
      sessions.dcs_step sessions.start_step sessions.introduced_step sessions.header_step
  byte-leads (at_start r) =
      both (LeadAgrees p) (eqb b 0x1B) _ _ _ _
      (λ _. goes_on refl (at_introduced r))
      (λ _. both (LeadAgrees p) (eqb b 0x90) _ _ _ _
      (λ _. goes_on refl (in_header r))
      (λ _. turns_down refusals.Introducer refl refl (at_start r)))
  byte-leads (at_introduced r) =
      both (LeadAgrees p) (eqb b 0x50) _ _ _ _
      (λ _. goes_on refl (in_header r))
      (λ _. turns_down refusals.Introducer refl refl (at_introduced r))
  byte-leads (in_header r) = header-leads (header-agrees b r)
