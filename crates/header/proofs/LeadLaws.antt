-- Laws of introducer and header: one for each path through a function, and the loop's, which `Going` is the invariant of.
use Prim.Native.Nat.{ℕ, ◌+◌, ◌≤◌, ◌<◌}
use mathlib.Core.Bool.{Bool, true, false}
use mathlib.Core.List.{List, ◌∷◌}
use mathlib.Core.Path.{◌≡◌, refl, sym, ap, ◌∙◌}
use native.Mathlib.Numerals.{add-one}
use native.Mathlib.Omega.{arith}
use borrow.Author.Tests.{eq-eqb, ne_eqb}
use lib.ListN.{length, get_or, drop, drop_of_length-le}
use lib.Seq.{drop-cons}
use Rattle.numbers.specs.declared.Parameters.{Parameters}
use Rattle.numbers.specs.Bytes.{skipped, digit, ends}
use Rattle.numbers.specs.Step.{with_digit, with_semicolon}
use Rattle.frame.specs.declared.Refusal.{Refusal}
use Rattle.frame.specs.declared.Refusal.TheVariants as refusals
use Rattle.header.specs.declared.Place.{Place}
use Rattle.header.specs.declared.Place.TheVariants as places
use Rattle.std.specs.Prelude.{Ok, Err}
use Rattle.header.specs.Results.{Led}
use Rattle.header.specs.declared.Led.TheVariants.{On, Begins}
use Rattle.header.specs.declared.Step.{Step}
use Rattle.header.specs.declared.Lead.{Lead}
use Rattle.header.specs.Lead.{led_to, start_byte, introduced_byte, header_byte, lead_byte, lead_at, lead_on, lead_from}

-- a step that stays in the header, or comes to it
abbrev pub in_header : Parameters → Led → Step
in_header h led = record { place = places.Header; header = h; led = led }

-- ---- the introducer

module _ (h : Parameters) (b : ℕ) where
  pub start-escape : b ≡ 0x1B → ◌≡◌ {A = Step} (record { place = places.Introduced; header = h; led = Ok On }) (start_byte h b)
  unfolding start_byte led_to
  start-escape e = sym (rw (eq-eqb b 0x1B e) refl)

  pub start-dcs : (b ≡ 0x1B → ⊥) → b ≡ 0x90 → ◌≡◌ {A = Step} (in_header h (Ok On)) (start_byte h b)
  unfolding start_byte led_to
  start-dcs n e = sym (rw (ne_eqb b 0x1B n, eq-eqb b 0x90 e) refl)

  pub start-other : (b ≡ 0x1B → ⊥) → (b ≡ 0x90 → ⊥)
      → ◌≡◌ {A = Step} (record { place = places.Start; header = h; led = Err refusals.Introducer }) (start_byte h b)
  unfolding start_byte led_to
  start-other n m = sym (rw (ne_eqb b 0x1B n, ne_eqb b 0x90 m) refl)

  pub introduced-p : b ≡ 0x50 → ◌≡◌ {A = Step} (in_header h (Ok On)) (introduced_byte h b)
  unfolding introduced_byte led_to
  introduced-p e = sym (rw (eq-eqb b 0x50 e) refl)

  pub introduced-other : (b ≡ 0x50 → ⊥)
      → ◌≡◌ {A = Step} (record { place = places.Introduced; header = h; led = Err refusals.Introducer }) (introduced_byte h b)
  unfolding introduced_byte led_to
  introduced-other n = sym (rw (ne_eqb b 0x50 n) refl)

pub ruleset introducers = (start-escape, start-dcs, start-other, introduced-p, introduced-other)

-- ---- the header

module _ (h : Parameters) (b : ℕ) {r : Step} {s : Bool} (skips : s ≡ skipped b) where
  pub header-skipped : s ≡ true → r ≡ in_header h (Ok On) → r ≡ header_byte h b
  unfolding header_byte led_to
  header-skipped t e = e ∙ sym (rw (sym skips ∙ t) refl)

  module _ (own : s ≡ false) {d : Bool} (digits : d ≡ digit b) where
    pub header-digit : {k : Parameters} → d ≡ true → k ≡ with_digit h b → r ≡ in_header k (Ok On)
        → r ≡ header_byte h b
    unfolding header_byte led_to
    header-digit t k e =
        e ∙ ap (λ (x : Parameters). in_header x (Ok On)) k ∙ sym (rw (sym skips ∙ own, sym digits ∙ t) refl)

    module _ (other : d ≡ false) where
      pub header-semicolon : {k : Parameters} → b ≡ 0x3B → k ≡ with_semicolon h → r ≡ in_header k (Ok On)
          → r ≡ header_byte h b
      unfolding header_byte led_to
      header-semicolon t k e =
          e
          ∙ ap (λ (x : Parameters). in_header x (Ok On)) k
          ∙ sym (rw (sym skips ∙ own, sym digits ∙ other, eq-eqb b 0x3B t) refl)

      module _ (unparted : b ≡ 0x3B → ⊥) where
        pub header-q : b ≡ 0x71 → r ≡ in_header h (Ok Begins) → r ≡ header_byte h b
        unfolding header_byte led_to
        header-q t e = e ∙ sym (rw (sym skips ∙ own, sym digits ∙ other, ne_eqb b 0x3B unparted, eq-eqb b 0x71 t) refl)

        module _ (going : b ≡ 0x71 → ⊥) {n : Bool} (ending : n ≡ ends b) where
          pub header-ended : n ≡ true → r ≡ in_header h (Err refusals.HeaderEnded) → r ≡ header_byte h b
          unfolding header_byte led_to
          header-ended t e =
              e
              ∙ sym
              (rw (sym skips ∙ own, sym digits ∙ other, ne_eqb b 0x3B unparted, ne_eqb b 0x71 going, sym ending ∙ t) refl)

          pub header-wrong : n ≡ false → r ≡ in_header h (Err refusals.HeaderByte) → r ≡ header_byte h b
          unfolding header_byte led_to
          header-wrong t e =
              e
              ∙ sym
              (rw (sym skips ∙ own, sym digits ∙ other, ne_eqb b 0x3B unparted, ne_eqb b 0x71 going, sym ending ∙ t) refl)

pub ruleset headers = (header-skipped, header-digit, header-semicolon, header-q, header-ended, header-wrong)

-- the byte's effect where it stands
pub lead-as : {k : Place} {r : Step} (t : Place) (h : Parameters) (b : ℕ) → t ≡ k → r ≡ lead_byte k h b → r ≡ lead_byte t h b
lead-as t h b e q = q ∙ ap (λ (x : Place). lead_byte x h b) (sym e)

pub lead-start : {r : Step} (t : Place) (h : Parameters) (b : ℕ) → t ≡ places.Start → r ≡ start_byte h b → r ≡ lead_byte t h b
unfolding lead_byte
lead-start t h b e q = lead-as t h b e q

pub lead-introduced : {r : Step} (t : Place) (h : Parameters) (b : ℕ) → t ≡ places.Introduced → r ≡ introduced_byte h b → r ≡ lead_byte t h b
unfolding lead_byte
lead-introduced t h b e q = lead-as t h b e q

pub lead-header : {r : Step} (t : Place) (h : Parameters) (b : ℕ) → t ≡ places.Header → r ≡ header_byte h b → r ≡ lead_byte t h b
unfolding lead_byte
lead-header t h b e q = lead-as t h b e q

pub ruleset leading = (lead-start, lead-introduced, lead-header)

-- ---- the loop

-- the bytes from `consumed` on lead to where all lead
pub record Going (bytes : List ℕ) (whole : Lead) (t : Place) (h : Parameters) (consumed : ℕ) : Type 0 where
  pub same : lead_from (drop consumed bytes) consumed t h ≡ whole

pub going_start : (bytes : List ℕ) (t : Place) (h : Parameters) (from : ℕ) → Going bytes (lead_from (drop from bytes) from t h) t h from
going_start bytes t h from = record { same = refl }

module _ {bytes : List ℕ} {whole : Lead} {t : Place} {h : Parameters} {consumed : ℕ} (going : Going bytes whole t h consumed)
    (more : consumed < length bytes) {s : Step} (step : s ≡ lead_byte t h (get_or bytes consumed 0)) where
  pub turn-within : consumed + 1 ≤ length bytes
  turn-within = omega arith

  next : drop consumed bytes ≡ get_or bytes consumed 0 ∷ drop (consumed + 1) bytes
  next = rw add-one (drop-cons bytes consumed 0 more)

  -- the whole from this byte on
  here : {led : Led} → s.led ≡ led → lead_on led s consumed (λ n t' h'. lead_from (drop (consumed + 1) bytes) n t' h') ≡ whole
  unfolding lead_from
  here e =
      ap (λ (x : Led). lead_on x s consumed (λ n t' h'. lead_from (drop (consumed + 1) bytes) n t' h')) (sym e)
      ∙ ap (λ (x : Step). lead_on x.led x consumed (λ n t' h'. lead_from (drop (consumed + 1) bytes) n t' h')) step
      ∙ ap (λ (bs : List ℕ). lead_from bs consumed t h) (sym next)
      ∙ going.same

  pub going_on_lem : s.led ≡ Ok On → Going bytes whole s.place s.header (consumed + 1)
  unfolding lead_on
  going_on_lem e = record { same = here e }

  pub turn-begins : {r : Lead} → s.led ≡ Ok Begins → r ≡ lead_at s.place s.header (consumed + 1) s.led → r ≡ whole
  unfolding lead_on
  turn-begins e r = r ∙ ap (lead_at s.place s.header (consumed + 1)) e ∙ here e

  pub turn-refused : {n : Refusal} {r : Lead} → s.led ≡ Err n → r ≡ lead_at s.place s.header consumed s.led → r ≡ whole
  unfolding lead_on
  turn-refused e r = r ∙ ap (lead_at s.place s.header consumed) e ∙ here e

-- all bytes are read
pub going_done : {bytes : List ℕ} {whole r : Lead} {t : Place} {h : Parameters} {consumed : ℕ} → Going bytes whole t h consumed
    → length bytes ≤ consumed → r ≡ lead_at t h consumed (Ok On) → r ≡ whole
unfolding lead_from
going_done {bytes} {t = t} {h = h} {consumed = consumed} going m r =
    r ∙ ap (λ (bs : List ℕ). lead_from bs consumed t h) (sym (drop_of_length-le bytes m)) ∙ going.same

pub ruleset turns = (going_start, turn-within, going_on_lem, turn-begins, turn-refused, going_done)
