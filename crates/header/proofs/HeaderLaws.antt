-- The header is the definition's: one byte of it, and all of it up to where the payload begins.
use Prim.Native.Nat.{ℕ, ◌+◌, ◌≤◌}
use native.Mathlib.Omega.{arith}
use mathlib.Core.List.{List, [], ◌∷◌, ◌++◌}
use mathlib.Core.Path.{◌≡◌, refl, sym, ap, ap₂, subst, ◌∙◌}
use borrow.Author.Tests.{eqb-true}
use lib.Dec.{eqb}
use lib.ListN.{drop}
use lib.Seq.{drop-drop}
use Rattle.numbers.specs.declared.Parameters.{Parameters}
use Rattle.numbers.specs.Bytes.{skipped, digit, ends, semicolon}
use Rattle.numbers.specs.Read.{Read}
use Rattle.numbers.specs.Step.{with_semicolon}
use Rattle.numbers.proofs.Reading.{read-digit, read-semicolon}
use Rattle.frame.specs.declared.Refusal.{Refusal}
use Rattle.frame.specs.declared.Refusal.TheVariants as refusals
use Rattle.frame.specs.Numbers.{number_of}
use Rattle.meaning.specs.Commands.{of_values}
use Rattle.meaning.specs.OneShot as meaning
use Rattle.meaning.specs.Payload as meant
use Rattle.meaning.specs.Sessions as sessions
use Rattle.payload.specs.Meant.{parameters_meant}
use Rattle.header.specs.declared.Place.TheVariants as places
use Rattle.std.specs.Prelude.{Ok, Err}
use Rattle.header.specs.declared.Led.TheVariants as leds
use Rattle.header.specs.declared.Step.{Step}
use Rattle.header.specs.declared.Lead.{Lead}
use Rattle.header.specs.Lead.{led_to, header_byte, lead_byte, lead_at, lead_on, lead_from}
use Rattle.header.specs.Settings.{settings_from}
use Rattle.header.proofs.Cases.{both, either}
use Rattle.header.proofs.LeadLaws.{in_header}
use Rattle.header.proofs.SettingsLaws.{settings-meant}

-- ---- a byte

-- the code's step and what the definition says of a header's byte: on with the values of the same digits and `;`, to the payload with
-- the same parameters, or refused with 2 or 3, the values being as they were
pub data HeaderAgrees (got : List ℕ) : Step → sessions.HeaderByte → Type 0 where
  goes_on : {h : Parameters} {more : List ℕ} → Read 3 more h → HeaderAgrees got (in_header h (Ok leds.On)) (sessions.goes_on more)
  settles : {h : Parameters} {o : meant.Parameters} → o ≡ parameters_meant (settings_from h)
      → HeaderAgrees got (in_header h (Ok leds.Begins)) (sessions.settles o)
  turns_down : {h : Parameters} {n : ℕ} (why : Refusal) → number_of why ≡ n → n ≤ 3 → Read 3 got h
      → HeaderAgrees got (in_header h (Err why)) (sessions.wrong n)

-- a header's byte does what the definition says of it
pub header-agrees : {h : Parameters} {got : List ℕ} (b : ℕ) → Read 3 got h → HeaderAgrees got (header_byte h b) (sessions.header_byte got b)
unfolding header_byte led_to sessions.header_byte of_values number_of
header-agrees {h} {got} b r =
    both (HeaderAgrees got) (skipped b) _ _ _ _ (λ _. goes_on r)
    (λ _.
    either (HeaderAgrees got) (digit b) (eqb b semicolon) _ _ _ _ _ (λ d. goes_on (read-digit b d r))
    (λ e. goes_on (subst (λ (k : ℕ). Read 3 (got ++ k ∷ []) (with_semicolon h)) (sym (eqb-true b semicolon e)) (read-semicolon r)))
    (both (HeaderAgrees got) (eqb b 0x71) _ _ _ _ (λ _. settles (settings-meant r))
    (λ _.
    both (HeaderAgrees got) (ends b) _ _ _ _ (λ _. turns_down refusals.HeaderEnded refl (omega arith) r)
    (λ _. turns_down refusals.HeaderByte refl (omega arith) r))))

-- ---- all of it

-- where a header led to among some bytes, and what the definition finds there: that `q` is missing, the parameters and the part after
-- it, or 2 or 3
pub data HeaderFinds (whole : List ℕ) : Lead → meaning.Found → Type 0 where
  lacks : {h : Parameters} {n : ℕ} → HeaderFinds whole (lead_at places.Header h n (Ok leds.On)) meaning.lacking
  begins : {h : Parameters} {n : ℕ}
      → HeaderFinds whole (lead_at places.Header h n (Ok leds.Begins)) (meaning.found (parameters_meant (settings_from h)) (drop n whole))
  refuses : {h : Parameters} {n m : ℕ} (why : Refusal) → number_of why ≡ m → m ≤ 3
      → HeaderFinds whole (lead_at places.Header h n (Err why)) (meaning.refused_with m)

module _ (whole : List ℕ) where
  -- one byte, where the later ones are known
  byte-finds : (n : ℕ) (bs : List ℕ) {got : List ℕ} {s : Step} {y : sessions.HeaderByte}
      → drop (n + 1) whole ≡ bs → HeaderAgrees got s y
      → ((more : List ℕ) (h : Parameters) → Read 3 more h
      → HeaderFinds whole (lead_from bs (n + 1) places.Header h) (meaning.header_from more bs))
      → HeaderFinds whole (lead_on s.led s n (λ n' t' h'. lead_from bs n' t' h'))
      (elim y as (λ _. meaning.Found) [
        | sessions.goes_on more ↦ meaning.header_from more bs
        | sessions.settles o ↦ meaning.found o bs
        | sessions.wrong m ↦ meaning.refused_with m
      ])
  unfolding lead_on
  byte-finds n bs e (goes_on {h = h} {more = more} r) later = later more h r
  byte-finds n bs e (settles {h = h} k) later =
      subst (HeaderFinds whole (lead_at places.Header h (n + 1) (Ok leds.Begins))) (ap₂ meaning.found (sym k) e) begins
  byte-finds n bs e (turns_down why k low r) later = refuses why k low

  -- a header leads to what the definition finds: the part after `q` with the header's parameters, or the same refusal
  pub header-finds : (bs : List ℕ) (n : ℕ) {got : List ℕ} {h : Parameters} → drop n whole ≡ bs → Read 3 got h
      → HeaderFinds whole (lead_from bs n places.Header h) (meaning.header_from got bs)
  unfolding lead_from lead_byte meaning.header_from
  header-finds [] n e r = lacks
  header-finds (b ∷ bs) n e r =
      let later : drop (n + 1) whole ≡ bs = sym (drop-drop 1 n whole) ∙ ap (drop 1) e in
      byte-finds n bs later (header-agrees b r) (λ more h' r'. header-finds bs (n + 1) later r')
