-- Laws of the search: one for each path through a function, and the rest form of its loop.
use Rattle.std.specs.Prelude.{◌≡◌, ℕ, ◌+◌, ◌-◌, ◌<◌, ◌≤◌, Bool, true, false, cond, ◌&&◌, eqb, ltb, List, [], ◌∷◌, length, get_or, drop, Some, None, Ok, Err}
use mathlib.Core.Path.{refl, sym, ap, ◌∙◌}
use native.Mathlib.Nat.{add-zero}
use native.Mathlib.Numerals.{add-one}
use native.Mathlib.Omega.{arith}
use borrow.Author.Tests.{lt-ltb, le-ltb, eq-eqb, ne_eqb}
use lib.ListN.{drop_of_length-le, get_or-eq_default}
use lib.Seq.{drop-cons, get_or-drop}
use Rattle.numbers.specs.Step.{opened}
use Rattle.numbers.specs.declared.Parameters.{Parameters}
use Rattle.numbers.proofs.Laws.{cond_yes, cond_no}
use Rattle.frame.specs.declared.Refusal.{Refusal}
use Rattle.frame.specs.declared.Refusal.TheVariants.{Unfinished}
use Rattle.payload.specs.declared.Settings.{Settings}
use Rattle.payload.specs.Deferred.{no_settings}
use Rattle.header.specs.declared.Lead.{Lead}
use Rattle.header.specs.Results.{Led}
use Rattle.header.specs.declared.Led.TheVariants as leds
use Rattle.header.specs.declared.Place.TheVariants as places
use Rattle.header.specs.Lead.{lead_from}
use Rattle.header.specs.Settings.{settings_from}
use Rattle.oneshot.specs.Search.{Start, Found, introducer_at, start_from, led_to, header_from, found_at, found_in}

-- ---- an introducer

pub introducer-past : (l : List ℕ) (at : ℕ) → length l ≤ at → 0 ≡ introducer_at (drop at l)
unfolding introducer_at
introducer-past l at h = rw (drop_of_length-le l h) refl

module _ (l : List ℕ) (at : ℕ) (more : at < length l) where
  next : drop at l ≡ get_or l at 0 ∷ drop (at + 1) l
  next = rw add-one (drop-cons l at 0 more)

  second : get_or (drop (at + 1) l) 0 0 ≡ get_or l (at + 1) 0
  second = get_or-drop (at + 1) l 0 0 ∙ ap (λ (n : ℕ). get_or l n 0) (add-zero (at + 1))

  at_front : introducer_at (drop at l) ≡ cond (eqb (get_or l at 0) 0x90) 1 (cond (eqb (get_or l at 0) 0x1B && eqb (get_or l (at + 1) 0) 0x50) 2 0)
  unfolding introducer_at
  at_front = ap introducer_at next ∙ rw second refl

  pub introducer-c1 : get_or l at 0 ≡ 0x90 → 1 ≡ introducer_at (drop at l)
  introducer-c1 e = sym (at_front ∙ rw (eq-eqb _ _ e) refl)

  pub introducer-escaped : get_or l at 0 ≡ 0x1B → get_or l (at + 1) 0 ≡ 0x50 → 2 ≡ introducer_at (drop at l)
  introducer-escaped e k = sym (at_front ∙ rw (e, k) refl)

  module _ (no-c1 : get_or l at 0 ≡ 0x90 → ⊥) where
    pub introducer-other : (get_or l at 0 ≡ 0x1B → ⊥) → 0 ≡ introducer_at (drop at l)
    introducer-other h = sym (at_front ∙ rw (ne_eqb _ _ no-c1, ne_eqb _ _ h) refl)

    pub introducer-unlike : (get_or l (at + 1) 0 ≡ 0x50 → ⊥) → get_or l at 0 ≡ 0x1B → 0 ≡ introducer_at (drop at l)
    introducer-unlike h e = sym (at_front ∙ rw (e, ne_eqb _ _ h) refl)

    pub introducer-last : length l - at < 2 → get_or l at 0 ≡ 0x1B → 0 ≡ introducer_at (drop at l)
    introducer-last h e = introducer-unlike (λ k. absurd-default k) e
      where
        absurd-default : get_or l (at + 1) 0 ≡ 0x50 → ⊥
        absurd-default k = omega (arith, k, get_or-eq_default l 0 {n = at + 1} (omega arith))

pub ruleset introducers = (introducer-past, introducer-c1, introducer-escaped, introducer-other, introducer-unlike, introducer-last)

-- none is longer than two bytes
pub introducer-short : {n : ℕ} (bs : List ℕ) → n ≡ introducer_at bs → n ≤ 2
unfolding introducer_at
introducer-short [] e = omega arith
introducer-short (b ∷ bs) e = omega (arith, e, short (eqb b 0x90) (eqb b 0x1B && eqb (get_or bs 0 0) 0x50))
  where
    short : (s t : Bool) → cond s 1 (cond t 2 0) ≤ 2
    short true t = omega arith
    short false true = omega arith
    short false false = omega arith

-- ---- the first introducer

-- the bytes from a place on lead to where all lead
pub record Looking (l : List ℕ) (at : ℕ) : Type 0 where
  pub same : start_from at (drop at l) ≡ start_from 0 l
  pub within : at ≤ length l

pub looking-start : (l : List ℕ) → Looking l 0
looking-start l = record { same = refl; within = omega arith }

pub looking-past : {l : List ℕ} {at : ℕ} → Looking l at → length l ≤ at → None ≡ start_from 0 l
unfolding start_from
looking-past {l} {at} k h = ap (start_from at) (sym (drop_of_length-le l h)) ∙ k.same

module _ {l : List ℕ} {at : ℕ} (k : Looking l at) (more : at < length l) {n : ℕ} (e : n ≡ introducer_at (drop at l)) where
  here : cond (ltb 0 n) (Some (at + n)) (start_from (at + 1) (drop (at + 1) l)) ≡ start_from 0 l
  unfolding start_from
  here =
      ap (λ (m : ℕ). cond (ltb 0 m) (Some (at + m)) (start_from (at + 1) (drop (at + 1) l))) (e ∙ ap introducer_at (next l at more))
      ∙ ap (start_from at) (sym (next l at more))
      ∙ k.same

  pub looking-found : 0 < n → Some (at + n) ≡ start_from 0 l
  looking-found h = sym (cond_yes _ _ (lt-ltb _ _ h)) ∙ here

  pub looking-on : n ≤ 0 → Looking l (at + 1)
  looking-on h = record { same = sym (cond_no _ _ (le-ltb _ _ h)) ∙ here; within = omega arith }

pub ruleset lookings = (introducer-short, looking-start, looking-past, looking-found, looking-on)

-- ---- a header

module _ {h : Parameters} {x : Lead} (l : List ℕ) (n : ℕ) (e : h ≡ opened 3) (lead : x ≡ lead_from (drop n l) n places.Header h) where
  -- where the header led to is what is found
  led : {y : Led} {r : Found} → x.led ≡ y → r ≡ led_to y x → r ≡ header_from n (drop n l)
  unfolding header_from
  led k m =
      m
      ∙ ap (λ (y : Led). led_to y x) (sym k)
      ∙ ap (λ (z : Lead). led_to z.led z) (lead ∙ ap (lead_from (drop n l) n places.Header) e)

  -- all bytes are read, and there was no `q`
  pub led_on : x.led ≡ Ok leds.On → Err Unfinished ≡ header_from n (drop n l)
  unfolding led_to
  led_on k = led k refl

  -- `q`
  pub led-begins : {o : Settings} → x.led ≡ Ok leds.Begins → o ≡ settings_from x.header
      → Ok (record { from = x.consumed; settings = o }) ≡ header_from n (drop n l)
  unfolding led_to
  led-begins k o = led k (ap (λ (s : Settings). Ok (record { from = x.consumed; settings = s })) o)

  -- 2 or 3
  pub led-refused : {r : Refusal} → x.led ≡ Err r → Err r ≡ header_from n (drop n l)
  unfolding led_to
  led-refused k = led k refl

pub ruleset headings = (led_on, led-begins)

-- ---- where the payload begins

pub found-header : {s : Start} {r : Found} (l : List ℕ) (n : ℕ)
    → s ≡ start_from 0 l → s ≡ Some n → r ≡ header_from n (drop n l) → r ≡ found_in l
unfolding found_in found_at
found-header l n e k h = h ∙ ap (λ (x : Start). found_at x l) (sym k ∙ e)

pub found-whole : {s : Start} {o : Settings} (l : List ℕ) → s ≡ start_from 0 l → s ≡ None → o ≡ no_settings
    → Ok (record { from = 0; settings = o }) ≡ found_in l
unfolding found_in found_at
found-whole l e k o =
    ap (λ (s : Settings). Ok (record { from = 0; settings = s })) o ∙ ap (λ (x : Start). found_at x l) (sym k ∙ e)

pub ruleset finds = (found-header, found-whole)
