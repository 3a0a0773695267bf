-- What the search finds is what the definition says (rule 8.1): introducer, header and part.
use Rattle.std.specs.Prelude.{◌≡◌, ℕ, ◌+◌, ◌≤◌, true, ◌&&◌, eqb, List, [], ◌∷◌, length, get_or, drop, Some, None, Ok, Err}
use mathlib.Core.Option.{Option, none, some}
use mathlib.Core.Path.{refl, sym, ap, subst, ◌∙◌}
use native.Mathlib.Nat.{zero-add}
use native.Mathlib.Omega.{arith}
use borrow.Author.Tests.{eqb-true, ne_eqb}
use lib.ListN.{length-drop}
use lib.Seq.{drop-drop}
use Rattle.numbers.specs.Step.{opened}
use Rattle.numbers.proofs.Laws.{cond_no}
use Rattle.numbers.proofs.Reading.{read_none}
use Rattle.canvas.proofs.Covers.{and_right, by-test}
use Rattle.frame.specs.Numbers.{number_of}
use Rattle.frame.specs.declared.Refusal.{Refusal}
use Rattle.meaning.specs.OneShot as meaning
use Rattle.meaning.specs.OneShot.{after_introducer, find_payload}
use Rattle.meaning.specs.Payload.{no_parameters}
use Rattle.meaning.proofs.AreaLaws.{cond-case}
use Rattle.payload.specs.Deferred.{no_settings}
use Rattle.payload.specs.Meant.{given_meant, parameters_meant}
use Rattle.header.specs.declared.Lead.{Lead}
use Rattle.header.specs.Results.{Led}
use Rattle.header.specs.declared.Led.TheVariants as leds
use Rattle.header.specs.declared.Place.TheVariants as places
use Rattle.header.specs.Lead.{lead_from}
use Rattle.header.proofs.Bounds.{lead-bound}
use Rattle.header.proofs.HeaderLaws.{HeaderFinds, lacks, begins, refuses, header-finds}
use Rattle.oneshot.specs.OneShot.{unfound_meant, found_meant}
use Rattle.oneshot.specs.declared.search.Found as search
use Rattle.oneshot.specs.Search.{Start, Found, introducer_at, start_from, led_to, header_from, found_at, found_in}

-- ---- the introducer

-- what stands after a start
unfoldable pub start_meant : List ℕ → Start → Option (List ℕ)
start_meant l (Some n) = some (drop n l)
start_meant l None = none

-- one byte further
further : {b : ℕ} {bs : List ℕ} (l : List ℕ) (at : ℕ) → drop at l ≡ b ∷ bs → drop (at + 1) l ≡ bs
further l at e = sym (drop-drop 1 at l) ∙ ap (drop 1) e

two-further : {b : ℕ} {bs : List ℕ} (l : List ℕ) (at : ℕ) → drop at l ≡ b ∷ bs → drop (at + 2) l ≡ drop 1 bs
two-further l at e = sym (drop-drop 2 at l) ∙ ap (drop 2) e

pub start-meant : (l : List ℕ) (at : ℕ) (bs : List ℕ) → drop at l ≡ bs → start_meant l (start_from at bs) ≡ after_introducer bs
unfolding start_meant start_from introducer_at after_introducer
start-meant l at [] e = refl
start-meant l at (b ∷ bs) e =
    by-test (eqb b 0x90) (λ t. rw t (ap some (further l at e)))
    (λ t. by-test (eqb b 0x1B && eqb (get_or bs 0 0) 0x50) (λ u. rw (t, u) (ap some (two-further l at e)))
    (λ u. rw (t, u) (start-meant l (at + 1) bs (further l at e))))

-- ---- the header

-- what the header comes to is found
found_as : (l : List ℕ) {x : Lead} {f : meaning.Found} → HeaderFinds l x f → found_meant l (led_to x.led x) ≡ f
unfolding led_to found_meant unfound_meant number_of
found_as l lacks = refl
found_as l begins = refl
found_as l (refuses {m = m} why e low) = ap unfound_meant e ∙ cond_no _ _ (ne_eqb m 8 (λ k. omega arith))

-- a header at a place is the definition's
header-meant : (l : List ℕ) (at : ℕ) → found_meant l (header_from at (drop at l)) ≡ meaning.header_from [] (drop at l)
unfolding header_from
header-meant l at = found_as l (header-finds l (drop at l) at refl (read_none 3))

-- ---- where the payload begins

start-found : (l : List ℕ) (s : Start) (o : Option (List ℕ)) → start_meant l s ≡ o
    → found_meant l (found_at s l) ≡ elim o [ none ↦ meaning.found no_parameters l | some later ↦ meaning.header_from [] later ]
unfolding start_meant found_meant found_at no_settings parameters_meant given_meant
start-found l (Some n) o e = rw (← e) (header-meant l n)
start-found l None o e = rw (← e) refl

-- a refusal hands back no part
pub refused-part : (l : List ℕ) (n : Refusal) → meaning.part_of (found_meant l (Err n)) ≡ []
unfolding found_meant meaning.part_of
refused-part l n = cond-case (λ (f : meaning.Found). meaning.part_of f ≡ []) (eqb (number_of n) 8) (λ _. refl) (λ _. refl)

-- what the search finds is the definition's: the part from its place on, its parameters, or the refusal's number
pub found-meant : (l : List ℕ) → found_meant l (found_in l) ≡ find_payload l
unfolding found_in find_payload
found-meant l = start-found l (start_from 0 l) (after_introducer l) (start-meant l 0 l refl)

-- ---- places within the input

abbrev pub StartWithin : ℕ → Start → Type 0
StartWithin most (Some n) = n ≤ most
StartWithin most None = Unit

pub start-within : (at : ℕ) (bs : List ℕ) → StartWithin (at + length bs) (start_from at bs)
unfolding start_from introducer_at
start-within at [] = tt
start-within at (b ∷ bs) =
    by-test (eqb b 0x90) (λ t. rw t (omega arith))
    (λ t. by-test (eqb b 0x1B && eqb (get_or bs 0 0) 0x50) (λ u. rw (t, u) (omega (arith, long bs u)))
    (λ u. rw (t, u) (subst (λ (m : ℕ). StartWithin m (start_from (at + 1) bs)) (omega arith) (start-within (at + 1) bs))))
  where
    long : (l : List ℕ) → (eqb b 0x1B && eqb (get_or l 0 0) 0x50) ≡ true → 1 ≤ length l
    long [] u = let z : ◌≡◌ {A = ℕ} 0 0x50 = eqb-true 0 0x50 (and_right (eqb b 0x1B) _ u) in omega arith
    long (x ∷ l) u = omega arith

abbrev FoundWithin : ℕ → Found → Type 0
FoundWithin most (Ok f) = f.from ≤ most
FoundWithin most (Err n) = Unit

-- so far as the header was read, so far the payload's first byte
led-within : (most : ℕ) (led : Led) (x : Lead) → x.consumed ≤ most → FoundWithin most (led_to led x)
unfolding led_to
led-within most (Ok leds.On) x h = tt
led-within most (Ok leds.Begins) x h = h
led-within most (Err n) x h = tt

-- what is found after a start within the input is within it
found_within : (l : List ℕ) (s : Start) → StartWithin (length l) s → FoundWithin (length l) (found_at s l)
unfolding found_at header_from
found_within l (Some n) h =
    let x : Lead = lead_from (drop n l) n places.Header (opened 3) in
    led-within (length l) x.led x (omega (arith, h, lead-bound (drop n l) n places.Header (opened 3), length-drop n l))
found_within l None h = omega arith

-- the payload begins within the input
pub payload-within : {f : Found} {x : search.Found} (l : List ℕ) → f ≡ found_in l → f ≡ Ok x → x.from ≤ length l
unfolding found_in
payload-within l e k = subst (FoundWithin (length l)) (sym e ∙ k) (found_within l (start_from 0 l) (rw zero-add at (start-within 0 l)))
