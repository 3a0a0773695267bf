-- Laws of what is told as seven numbers: each function's numbers, and that what is told comes back as it was.
-- Assumes nothing.
use Rattle.std.specs.Prelude.{Option, Some, None}
use mathlib.Core.Path.{◌≡◌, refl, sym}
use mathlib.Core.Bool.{Bool, true, false, cond}
use mathlib.Core.List.{List, [], ◌∷◌, ◌++◌}
use Prim.Native.Nat.{ℕ, ◌+◌, ◌≤◌, ◌<◌}
use native.Mathlib.Omega.{arith}
use borrow.Author.Tests.{ne_eqb}
use lib.Dec.{eqb}
use lib.ListN.{get_or}
use Rattle.frame.specs.declared.Refusal.{Refusal}
use Rattle.frame.specs.declared.Refusal.TheVariants as refusals
use Rattle.frame.specs.Numbers.{number_of}
use Rattle.words.specs.declared.Thing.{Thing}
use Rattle.words.specs.declared.Thing.TheVariants as things
use Rattle.words.specs.declared.Shortage.{Shortage}
use Rattle.words.specs.declared.Telling.{Telling}
use Rattle.words.specs.Words.{refusal_text}
use Rattle.words.specs.Memory.{thing_number, place_numbers, need_numbers, numbers_of, having, all_refusals, all_things, refusal_from, thing_from, place_from, short_from, need_from, told_of, telling_from, line_of, text_of}

-- ---- the seven

place-two : (place : Option ℕ) → place_numbers place ≡ get_or (place_numbers place) 0 0 ∷ get_or (place_numbers place) 1 0 ∷ []
unfolding place_numbers
place-two None = refl
place-two (Some offset) = refl

need-four : (need : Option Shortage)
    → need_numbers need
    ≡ get_or (need_numbers need) 0 0 ∷ get_or (need_numbers need) 1 0 ∷ get_or (need_numbers need) 2 0 ∷ get_or (need_numbers need) 3 0 ∷ []
unfolding need_numbers
need-four None = refl
need-four (Some short) = refl

-- the seven as the code lists them
pub numbers_listed : (telling : Telling) (number : ℕ) (place need : List ℕ) → number ≡ number_of telling.refusal
    → place ≡ place_numbers telling.place → need ≡ need_numbers telling.need
    → number ∷ get_or place 0 0 ∷ get_or place 1 0 ∷ get_or need 0 0 ∷ get_or need 1 0 ∷ get_or need 2 0 ∷ get_or need 3 0 ∷ [] ≡ numbers_of telling
unfolding numbers_of
numbers_listed telling number place need e f g =
    rw (e, f, g) (sym (rw (place-two telling.place, need-four telling.need) refl))

-- ---- who has a number

-- where none in a list has a number, none is found
having-none : {A : Type 0} (number : A → ℕ) (n : ℕ) (l : List A) → ((a : A) → number a ≡ n → ⊥) → having number n l ≡ None
unfolding having
having-none number n [] h = refl
having-none number n (a ∷ rest) h = rw (ne_eqb (number a) n (h a)) (having-none number n rest h)

refusal-back : (r : Refusal) → refusal_from (number_of r) ≡ Some r
unfolding refusal_from having number_of
refusal-back refusals.Introducer = refl
refusal-back refusals.HeaderEnded = refl
refusal-back refusals.HeaderByte = refl
refusal-back refusals.Repeat = refl
refusal-back refusals.Size = refl
refusal-back refusals.Pixels = refl
refusal-back refusals.Room = refl
refusal-back refusals.Unfinished = refl
refusal-back refusals.Failed = refl
refusal-back refusals.FinalSize = refl
refusal-back refusals.Opening = refl
refusal-back refusals.Canvas = refl
refusal-back refusals.Allowance = refl
refusal-back refusals.Buffer = refl

thing-back : (t : Thing) → thing_from (thing_number t) ≡ Some t
unfolding thing_from having thing_number
thing-back things.Repeats = refl
thing-back things.Columns = refl
thing-back things.Rows = refl
thing-back things.Pixels = refl

pub refusal-at : (r : Refusal) (n : ℕ) → n ≡ number_of r → Some r ≡ refusal_from n
refusal-at r n e = rw e (sym (refusal-back r))

above : {k n : ℕ} → k ≤ n → (n ≡ k → ⊥) → k + 1 ≤ n
above h e = omega arith

pub thing-at : (t : Thing) (n : ℕ) → n ≡ thing_number t → Some t ≡ thing_from n
thing-at t n e = rw e (sym (thing-back t))

-- every refusal's number is one from 1 to 14
refusal-range : (r : Refusal) → (1 ≤ number_of r) × (number_of r ≤ 14)
unfolding number_of
refusal-range refusals.Introducer = (omega arith, omega arith)
refusal-range refusals.HeaderEnded = (omega arith, omega arith)
refusal-range refusals.HeaderByte = (omega arith, omega arith)
refusal-range refusals.Repeat = (omega arith, omega arith)
refusal-range refusals.Size = (omega arith, omega arith)
refusal-range refusals.Pixels = (omega arith, omega arith)
refusal-range refusals.Room = (omega arith, omega arith)
refusal-range refusals.Unfinished = (omega arith, omega arith)
refusal-range refusals.Failed = (omega arith, omega arith)
refusal-range refusals.FinalSize = (omega arith, omega arith)
refusal-range refusals.Opening = (omega arith, omega arith)
refusal-range refusals.Canvas = (omega arith, omega arith)
refusal-range refusals.Allowance = (omega arith, omega arith)
refusal-range refusals.Buffer = (omega arith, omega arith)

-- every thing's is one from 1 to 4
thing-range : (t : Thing) → (1 ≤ thing_number t) × (thing_number t ≤ 4)
unfolding thing_number
thing-range things.Repeats = (omega arith, omega arith)
thing-range things.Columns = (omega arith, omega arith)
thing-range things.Rows = (omega arith, omega arith)
thing-range things.Pixels = (omega arith, omega arith)

-- no refusal has the number 0, or one above 14
no-refusal : (n : ℕ) → (1 ≤ n → 14 < n) → refusal_from n ≡ None
unfolding refusal_from
no-refusal n h =
    having-none number_of n all_refusals
    (λ r e. let range = refusal-range r in let low : 1 ≤ n = rw e at range.0 in let high : n ≤ 14 = rw e at range.1 in omega (arith, h low))

-- no thing has the number 0, or one above 4
no-thing : (n : ℕ) → (1 ≤ n → 4 < n) → thing_from n ≡ None
unfolding thing_from
no-thing n h =
    having-none thing_number n all_things
    (λ t e. let range = thing-range t in let low : 1 ≤ n = rw e at range.0 in let high : n ≤ 4 = rw e at range.1 in omega (arith, h low))

-- a number that is none of 1 to 14 is no refusal's
pub no-refusal_left : (n : ℕ) → (n ≡ 1 → ⊥) → (n ≡ 2 → ⊥) → (n ≡ 3 → ⊥) → (n ≡ 4 → ⊥) → (n ≡ 5 → ⊥) → (n ≡ 6 → ⊥) → (n ≡ 7 → ⊥) → (n ≡ 8 → ⊥)
    → (n ≡ 9 → ⊥) → (n ≡ 10 → ⊥) → (n ≡ 11 → ⊥) → (n ≡ 12 → ⊥) → (n ≡ 13 → ⊥) → (n ≡ 14 → ⊥) → None ≡ refusal_from n
no-refusal_left n h1 h2 h3 h4 h5 h6 h7 h8 h9 h10 h11 h12 h13 h14 =
    sym (no-refusal n (λ low.
    let seven : 7 ≤ n = above (above (above (above (above (above low h1) h2) h3) h4) h5) h6 in
    let past : 15 ≤ n = above (above (above (above (above (above (above (above seven h7) h8) h9) h10) h11) h12) h13) h14 in
    omega (arith, past)))

-- nor is one that is none of 1 to 4 a thing's
pub no-thing_left : (n : ℕ) → (n ≡ 1 → ⊥) → (n ≡ 2 → ⊥) → (n ≡ 3 → ⊥) → (n ≡ 4 → ⊥) → None ≡ thing_from n
no-thing_left n h1 h2 h3 h4 =
    sym (no-thing n (λ low. let past : 5 ≤ n = above (above (above (above low h1) h2) h3) h4 in omega (arith, past)))

-- ---- there and back

flag-back : (t : Bool) → eqb (cond t 1 0) 1 ≡ t
flag-back true = refl
flag-back false = refl

-- the need comes back, whatever the numbers before it are
need-back : (a b c : ℕ) (need : Option Shortage) → need_from (a ∷ b ∷ c ∷ need_numbers need) ≡ need
unfolding need_from need_numbers short_from thing_from having thing_number
need-back a b c None = refl
need-back a b c (Some short) = rw (thing-back short.thing, flag-back short.more) refl

-- so does all that is told of a refusal
told_back : (refusal : Refusal) (place : Option ℕ) (need : Option Shortage)
    → told_of (Some refusal) (number_of refusal ∷ (place_numbers place ++ need_numbers need))
    ≡ Some (record { refusal = refusal; place = place; need = need })
unfolding told_of place_numbers place_from
told_back refusal None need = rw (need-back (number_of refusal) 0 0 need) refl
told_back refusal (Some offset) need = rw (need-back (number_of refusal) 1 offset need) refl

-- rule 5.11: what is told comes back from its seven numbers as it was
pub telling-back : (telling : Telling) → telling_from (numbers_of telling) ≡ Some telling
unfolding telling_from numbers_of
telling-back telling = rw (refusal-back telling.refusal) (told_back telling.refusal telling.place telling.need)

-- rule 5.11: the line of its seven numbers is its own line
pub text-back : (telling : Telling) → text_of (numbers_of telling) ≡ refusal_text telling
unfolding text_of line_of
text-back telling = rw (telling-back telling) refl
