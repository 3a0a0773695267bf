-- How long a line can be: no more than 127 bytes, so that a buffer of 128 has room for every line and a byte more.
-- Assumes nothing.
use Rattle.std.specs.Prelude.{Option, Some, None}
use Prim.Native.Nat.{ℕ, zero, suc, ◌+◌, ◌/◌, ◌%◌, ◌≤◌}
use native.Mathlib.Omega.{arith}
use mathlib.Core.Bool.{Bool, true, false, cond}
use mathlib.Core.List.{List, [], ◌∷◌, ◌++◌}
use mathlib.Core.Path.{◌≡◌}
use lib.Dec.{ltb, eqb}
use lib.ListN.{length, take, drop, length-append}
use Rattle.text.specs.Text.{put, digits, decimal, words}
use Rattle.text.proofs.Laws.{put-room}
use Rattle.frame.specs.declared.Refusal.{Refusal}
use Rattle.frame.specs.declared.Refusal.TheVariants as refusals
use Rattle.frame.specs.Numbers.{number_of}
use Rattle.words.specs.declared.Shortage.{Shortage}
use Rattle.words.specs.declared.Thing.{Thing}
use Rattle.words.specs.declared.Thing.TheVariants as things
use Rattle.words.specs.declared.Telling.{Telling}
use Rattle.words.specs.Words.{place_text, amount_text, needed_text, limit_text, plain_sentence, sentence, refusal_text}
use Rattle.words.specs.Memory.{telling_from, line_of, text_of}

either : {A : Type 0} (P : A → Type 0) {x y : A} (t : Bool) → P x → P y → P (cond t x y)
either P true p q = p
either P false p q = q

-- ---- numbers

-- no more digits than places
places-most : (places n : ℕ) → length (digits places n) ≤ places
unfolding digits
places-most zero n = omega arith
places-most (suc places) n =
    either (λ (ds : List ℕ). length ds ≤ suc places) (ltb n 10) (omega arith)
    (omega (arith, length-append (digits places (n / 10)) ((48 + n % 10) ∷ []), places-most places (n / 10)))

decimal-most : (n : ℕ) → length (decimal n) ≤ 20
unfolding decimal
decimal-most n = places-most 20 n

-- a refusal's number has two digits at most
number-most : (r : Refusal) → length (decimal (number_of r)) ≤ 2
unfolding number_of decimal digits
number-most refusals.Introducer = omega arith
number-most refusals.HeaderEnded = omega arith
number-most refusals.HeaderByte = omega arith
number-most refusals.Repeat = omega arith
number-most refusals.Size = omega arith
number-most refusals.Pixels = omega arith
number-most refusals.Room = omega arith
number-most refusals.Unfinished = omega arith
number-most refusals.Failed = omega arith
number-most refusals.FinalSize = omega arith
number-most refusals.Opening = omega arith
number-most refusals.Canvas = omega arith
number-most refusals.Allowance = omega arith
number-most refusals.Buffer = omega arith

-- ---- the parts of a line

place-most : (place : Option ℕ) → length (place_text place) ≤ 29
unfolding place_text words
place-most None = omega arith
place-most (Some offset) = simp length-append (omega (arith, decimal-most offset))

amount-most : (n : ℕ) (more : Bool) → length (amount_text n more) ≤ 30
unfolding amount_text words
amount-most n true = simp length-append (omega (arith, decimal-most n))
amount-most n false = omega (arith, decimal-most n)

needed-most : (thing : Thing) (n : ℕ) (more : Bool) → length (needed_text thing n more) ≤ 49
unfolding needed_text words
needed-most things.Repeats n more = simp length-append (omega (arith, amount-most n more))
needed-most things.Columns n more = simp length-append (omega (arith, amount-most n more))
needed-most things.Rows n more = simp length-append (omega (arith, amount-most n more))
needed-most things.Pixels n more = simp length-append (omega (arith, amount-most n more))

limit-most : (r : Refusal) (n : ℕ) → length (limit_text r n) ≤ 37
unfolding limit_text words
limit-most r n =
    either (λ (l : List ℕ). length l ≤ 37) (eqb (number_of r) 7)
    (simp length-append (omega (arith, decimal-most n)))
    (simp length-append (omega (arith, decimal-most n)))

plain-most : (r : Refusal) → length (plain_sentence r) ≤ 86
unfolding plain_sentence words
plain-most refusals.Introducer = omega arith
plain-most refusals.HeaderEnded = omega arith
plain-most refusals.HeaderByte = omega arith
plain-most refusals.Repeat = omega arith
plain-most refusals.Size = omega arith
plain-most refusals.Pixels = omega arith
plain-most refusals.Room = omega arith
plain-most refusals.Unfinished = omega arith
plain-most refusals.Failed = omega arith
plain-most refusals.FinalSize = omega arith
plain-most refusals.Opening = omega arith
plain-most refusals.Canvas = omega arith
plain-most refusals.Allowance = omega arith
plain-most refusals.Buffer = omega arith

sentence-most : (r : Refusal) (need : Option Shortage) → length (sentence r need) ≤ 86
unfolding sentence
sentence-most r None = plain-most r
sentence-most r (Some short) =
    let needed = needed-most short.thing short.needed short.more in
    let limit = limit-most r short.allowed in
    simp length-append (omega (arith, needed, limit))

-- ---- the line

-- rule 5.11: no line is longer than 127 bytes
pub line-most : (telling : Telling) → length (refusal_text telling) ≤ 127
unfolding refusal_text words
line-most telling =
    let number = number-most telling.refusal in
    let place = place-most telling.place in
    let said = sentence-most telling.refusal telling.need in
    simp length-append (omega (arith, number, place, said))

line-of-most : (told : Option Telling) → length (line_of told) ≤ 127
unfolding line_of
line-of-most None = omega arith
line-of-most (Some telling) = line-most telling

-- rule 5.11: nor is that of any numbers
pub text-most : (numbers : List ℕ) → length (text_of numbers) ≤ 127
unfolding text_of
text-most numbers = line-of-most (telling_from numbers)

-- rule 5.11: so where 127 bytes are left it is written whole
pub line-whole : (telling : Telling) (at : ℕ) (out : List ℕ) → at + 127 ≤ length out
    → put (refusal_text telling) (at, out)
    ≡ (
      at + length (refusal_text telling),
      take at out ++ refusal_text telling ++ drop (at + length (refusal_text telling)) out,
    )
line-whole telling at out h = put-room (refusal_text telling) at out (omega (arith, h, line-most telling))
