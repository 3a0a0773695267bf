-- What is told of a refusal as seven numbers, and back (docs/RULES.md, rule 5.11): the refusal's number; 1 where there is a place, else 0; the
-- place; what ran short, or 0; how much was needed; 1 for more than that, else 0; how much is allowed. Whatever the numbers are, they tell
-- something or nothing.
use Rattle.std.specs.Prelude.{Option, Some, None}
use Rattle.std.specs.Prelude.{ℕ, cond, List, [], ◌∷◌, ◌++◌, eqb, get_or}
use Rattle.frame.specs.declared.Refusal.{Refusal}
use Rattle.frame.specs.declared.Refusal.TheVariants as refusals
use Rattle.frame.specs.Numbers.{number_of}
use Rattle.words.specs.declared.Thing.{Thing}
use Rattle.words.specs.declared.Thing.TheVariants as things
use Rattle.words.specs.declared.Shortage.{Shortage}
use Rattle.words.specs.declared.Telling.{Telling}
use Rattle.words.specs.Words.{refusal_text}

-- ---- what is told as numbers

-- the number of what ran short
unfoldable pub thing_number : Thing → ℕ
thing_number things.Repeats = 1
thing_number things.Columns = 2
thing_number things.Rows = 3
thing_number things.Pixels = 4

-- two numbers of a place
unfoldable pub place_numbers : Option ℕ → List ℕ
place_numbers None = 0 ∷ 0 ∷ []
place_numbers (Some offset) = 1 ∷ offset ∷ []

-- four numbers of a need
unfoldable pub need_numbers : Option Shortage → List ℕ
need_numbers None = 0 ∷ 0 ∷ 0 ∷ 0 ∷ []
need_numbers (Some short) = thing_number short.thing ∷ short.needed ∷ cond short.more 1 0 ∷ short.allowed ∷ []

-- rule 5.11: the seven numbers of what is told
unfoldable pub numbers_of : Telling → List ℕ
numbers_of telling = number_of telling.refusal ∷ (place_numbers telling.place ++ need_numbers telling.need)

-- ---- and back

-- the first in a list that has this number
unfoldable pub having : {A : Type 0} → (A → ℕ) → ℕ → List A → Option A
having number n [] = None
having number n (a ∷ rest) = cond (eqb (number a) n) (Some a) (having number n rest)

-- the fourteen refusals
abbrev pub all_refusals : List Refusal
all_refusals =
    refusals.Introducer
    ∷ refusals.HeaderEnded
    ∷ refusals.HeaderByte
    ∷ refusals.Repeat
    ∷ refusals.Size
    ∷ refusals.Pixels
    ∷ refusals.Room
    ∷ refusals.Unfinished
    ∷ refusals.Failed
    ∷ refusals.FinalSize
    ∷ refusals.Opening
    ∷ refusals.Canvas
    ∷ refusals.Allowance
    ∷ refusals.Buffer
    ∷ []

-- what can run short
abbrev pub all_things : List Thing
all_things = things.Repeats ∷ things.Columns ∷ things.Rows ∷ things.Pixels ∷ []

-- the refusal of a number from 1 to 14; no other has one
unfoldable pub refusal_from : ℕ → Option Refusal
refusal_from n = having number_of n all_refusals

-- the thing of a number from 1 to 4; no other has one
unfoldable pub thing_from : ℕ → Option Thing
thing_from n = having thing_number n all_things

-- a flag of 1 says that there is a place
unfoldable pub place_from : ℕ → ℕ → Option ℕ
place_from flag offset = cond (eqb flag 1) (Some offset) None

-- a shortage of some thing, as the last of the numbers say; without a thing there is none
unfoldable pub short_from : Option Thing → List ℕ → Option Shortage
short_from None numbers = None
short_from (Some thing) numbers =
    Some (record { needed = get_or numbers 4 0; allowed = get_or numbers 6 0; thing = thing; more = eqb (get_or numbers 5 0) 1 })

-- the need that the numbers tell
unfoldable pub need_from : List ℕ → Option Shortage
need_from numbers = short_from (thing_from (get_or numbers 3 0)) numbers

-- what the numbers tell of some refusal; without a refusal nothing
unfoldable pub told_of : Option Refusal → List ℕ → Option Telling
told_of None numbers = None
told_of (Some refusal) numbers =
    Some (record { refusal = refusal; place = place_from (get_or numbers 1 0) (get_or numbers 2 0); need = need_from numbers })

-- rule 5.11: what seven numbers tell
unfoldable pub telling_from : List ℕ → Option Telling
telling_from numbers = told_of (refusal_from (get_or numbers 0 0)) numbers

-- the line of what is told, if anything is
unfoldable pub line_of : Option Telling → List ℕ
line_of None = []
line_of (Some telling) = refusal_text telling

-- rule 5.11: the line of seven numbers
unfoldable pub text_of : List ℕ → List ℕ
text_of numbers = line_of (telling_from numbers)
