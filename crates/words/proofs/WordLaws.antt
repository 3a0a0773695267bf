-- Laws of the words: what is put part by part is the text; a case's text is the text where the value is that case.
-- Assumes nothing.
use mathlib.Core.Path.{◌≡◌, refl}
use mathlib.Core.Bool.{Bool, true, false}
use mathlib.Core.List.{List, ◌++◌}
use Prim.Native.Nat.{ℕ}
use native.Mathlib.Omega.{arith}
use borrow.Author.Tests.{ne_eqb}
use Rattle.text.specs.Text.{put, decimal, words}
use Rattle.text.proofs.Laws.{put_then}
use Rattle.frame.specs.declared.Refusal.{Refusal}
use Rattle.frame.specs.declared.Refusal.TheVariants as refusals
use Rattle.frame.specs.Numbers.{number_of}
use Rattle.words.specs.declared.Thing.{Thing}
use Rattle.words.specs.declared.Telling.{Telling}
use Rattle.words.specs.Words.{place_text, amount_text, needed_text, limit_text, sentence, refusal_text}

-- ---- the amount and the need

-- more than a number
pub more-than : (n : ℕ) (more : Bool) (s₀ s₁ s₂ : ℕ × List ℕ) → more ≡ true
    → s₁ ≡ put (words "more than ") s₀ → s₂ ≡ put (decimal n) s₁ → s₂ ≡ put (amount_text n more) s₀
unfolding amount_text
more-than n more s₀ s₁ s₂ e a b = rw e (put_then (words "more than ") (decimal n) s₀ a b)

-- the number itself
pub exactly : (n : ℕ) (more : Bool) (s₀ s₁ : ℕ × List ℕ) → more ≡ false → s₁ ≡ put (decimal n) s₀ → s₁ ≡ put (amount_text n more) s₀
unfolding amount_text
exactly n more s₀ s₁ e a = rw e a

-- two parts, in the case in which they are what is needed
pub needed_as : (thing case : Thing) (n : ℕ) (more : Bool) (xs ys : List ℕ) (s₀ s₁ s₂ : ℕ × List ℕ) → thing ≡ case
    → s₁ ≡ put xs s₀ → s₂ ≡ put ys s₁ → xs ++ ys ≡ needed_text case n more → s₂ ≡ put (needed_text thing n more) s₀
needed_as thing case n more xs ys s₀ s₁ s₂ e a b f = rw e (rw f at (put_then xs ys s₀ a b))

-- ---- the limit

-- 7 is of this refusal alone
room-alone : (r : Refusal) → (r ≡ refusals.Room → ⊥) → number_of r ≡ 7 → ⊥
unfolding number_of
room-alone refusals.Introducer h e = omega arith
room-alone refusals.HeaderEnded h e = omega arith
room-alone refusals.HeaderByte h e = omega arith
room-alone refusals.Repeat h e = omega arith
room-alone refusals.Size h e = omega arith
room-alone refusals.Pixels h e = omega arith
room-alone refusals.Room h e = h refl
room-alone refusals.Unfinished h e = omega arith
room-alone refusals.Failed h e = omega arith
room-alone refusals.FinalSize h e = omega arith
room-alone refusals.Opening h e = omega arith
room-alone refusals.Canvas h e = omega arith
room-alone refusals.Allowance h e = omega arith
room-alone refusals.Buffer h e = omega arith

-- of refusal 7: what the canvas has
pub canvas_has : (refusal : Refusal) (n : ℕ) (s₀ s₁ s₂ : ℕ × List ℕ) → refusal ≡ refusals.Room
    → s₁ ≡ put (words ", the canvas has ") s₀ → s₂ ≡ put (decimal n) s₁ → s₂ ≡ put (limit_text refusal n) s₀
unfolding limit_text number_of
canvas_has refusal n s₀ s₁ s₂ e a b = rw e (put_then (words ", the canvas has ") (decimal n) s₀ a b)

-- of any other: what is allowed
pub allowed : (refusal : Refusal) (n : ℕ) (s₀ s₁ s₂ s₃ : ℕ × List ℕ) → (refusal ≡ refusals.Room → ⊥)
    → s₁ ≡ put (words ", ") s₀ → s₂ ≡ put (decimal n) s₁ → s₃ ≡ put (words " allowed") s₂ → s₃ ≡ put (limit_text refusal n) s₀
unfolding limit_text
allowed refusal n s₀ s₁ s₂ s₃ other a b c =
    rw (ne_eqb (number_of refusal) 7 (room-alone refusal other))
    (put_then (words ", " ++ decimal n) (words " allowed") s₀ (put_then (words ", ") (decimal n) s₀ a b) c)

-- ---- the line

-- the five parts of a line
pub refusal_put : (telling : Telling) (number : ℕ) (s₀ s₁ s₂ s₃ s₄ s₅ : ℕ × List ℕ) → number ≡ number_of telling.refusal
    → s₁ ≡ put (words "refused ") s₀ → s₂ ≡ put (decimal number) s₁ → s₃ ≡ put (place_text telling.place) s₂
    → s₄ ≡ put (words ": ") s₃ → s₅ ≡ put (sentence telling.refusal telling.need) s₄ → s₅ ≡ put (refusal_text telling) s₀
unfolding refusal_text
refusal_put telling number s₀ s₁ s₂ s₃ s₄ s₅ e a b c d f =
    let digits : s₂ ≡ put (decimal (number_of telling.refusal)) s₁ = rw e at b in
    put_then _ _ s₀ (put_then _ _ s₀ (put_then _ _ s₀ (put_then _ _ s₀ a digits) c) d) f
