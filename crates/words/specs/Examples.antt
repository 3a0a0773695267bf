-- Worked examples of the lines, computed: each refusal's, with what is told of it and without.
use Rattle.std.specs.Prelude.{Option, Some, None}
use Rattle.std.specs.Prelude.{◌≡◌, refl, Bool, true, false, List, [], ◌∷◌, ℕ}
use Rattle.text.specs.Text.{digits, decimal, words}
use Rattle.frame.specs.declared.Refusal.{Refusal}
use Rattle.frame.specs.declared.Refusal.TheVariants as refusals
use Rattle.frame.specs.Numbers.{number_of}
use Rattle.words.specs.declared.Shortage.{Shortage}
use Rattle.words.specs.declared.Thing.{Thing}
use Rattle.words.specs.declared.Thing.TheVariants as things
use Rattle.words.specs.declared.Telling.{Telling}
use Rattle.words.specs.Words.{place_text, amount_text, needed_text, limit_text, plain_sentence, sentence, refusal_text}
use Rattle.words.specs.Memory.{thing_number, place_numbers, need_numbers, numbers_of, having, refusal_from, thing_from, place_from, short_from, need_from, told_of, telling_from, line_of, text_of}

-- only the refusal is told
unfoldable pub bare : Refusal → Telling
bare refusal = record { refusal = refusal; place = None; need = None }

-- the place is told too
unfoldable pub placed : Refusal → ℕ → Telling
placed refusal offset = record { refusal = refusal; place = Some offset; need = None }

-- so much of a thing, or more than that, where so much is allowed
unfoldable pub short : Thing → Bool → ℕ → ℕ → Option Shortage
short thing more needed allowed = Some (record { needed = needed; allowed = allowed; thing = thing; more = more })

-- place and need are told
unfoldable pub whole : Refusal → ℕ → Option Shortage → Telling
whole refusal offset need = record { refusal = refusal; place = Some offset; need = need }

-- the lines of all that is told
unfoldable pub lines : List Telling → List (List ℕ)
lines [] = []
lines (telling ∷ rest) = refusal_text telling ∷ lines rest

-- the fourteen, with nothing but the number
pub fourteen : lines (
    bare refusals.Introducer
    ∷ bare refusals.HeaderEnded
    ∷ bare refusals.HeaderByte
    ∷ bare refusals.Repeat
    ∷ bare refusals.Size
    ∷ bare refusals.Pixels
    ∷ bare refusals.Room
    ∷ bare refusals.Unfinished
    ∷ bare refusals.Failed
    ∷ bare refusals.FinalSize
    ∷ bare refusals.Opening
    ∷ bare refusals.Canvas
    ∷ bare refusals.Allowance
    ∷ bare refusals.Buffer
    ∷ []
    )
    ≡ words "refused 1: no DCS introducer"
    ∷ words "refused 2: the header is cut off before its q"
    ∷ words "refused 3: a byte that no header has"
    ∷ words "refused 4: a repeat above the limit"
    ∷ words "refused 5: a width or height above the limit"
    ∷ words "refused 6: more pixels than the limit"
    ∷ words "refused 7: a size above the canvas"
    ∷ words "refused 8: the sequence has not come to its end"
    ∷ words "refused 9: the session was refused before, or there is none"
    ∷ words "refused 10: retired, nothing gives this number"
    ∷ words "refused 11: a limit or the stride is out of range, or the canvas has no whole row"
    ∷ words "refused 12: not the canvas of the opening, or no such picture on it"
    ∷ words "refused 13: the allowance is below six times the width limit"
    ∷ words "refused 14: the buffer is shorter than the picture"
    ∷ []
unfolding lines bare refusal_text number_of place_text sentence plain_sentence decimal digits words
fourteen = refl

-- a place, and a need
pub told : lines (
    placed refusals.Introducer 0
    ∷ placed refusals.HeaderByte 17
    ∷ whole refusals.Repeat 4711 (short things.Repeats false 70000 65535)
    ∷ whole refusals.Repeat 4711 (short things.Repeats true 1000000000000 65535)
    ∷ whole refusals.Size 4711 (short things.Columns false 1037 1024)
    ∷ whole refusals.Size 4711 (short things.Rows true 1000000 1024)
    ∷ whole refusals.Pixels 4711 (short things.Pixels false 800000 786432)
    ∷ whole refusals.Room 4711 (short things.Columns false 1037 1024)
    ∷ []
    )
    ≡ words "refused 1 at byte 0: no DCS introducer"
    ∷ words "refused 3 at byte 17: a byte that no header has"
    ∷ words "refused 4 at byte 4711: a repeat of 70000, 65535 allowed"
    ∷ words "refused 4 at byte 4711: a repeat of more than 1000000000000, 65535 allowed"
    ∷ words "refused 5 at byte 4711: 1037 columns are needed, 1024 allowed"
    ∷ words "refused 5 at byte 4711: more than 1000000 rows are needed, 1024 allowed"
    ∷ words "refused 6 at byte 4711: 800000 pixels are needed, 786432 allowed"
    ∷ words "refused 7 at byte 4711: 1037 columns are needed, the canvas has 1024"
    ∷ []
unfolding lines placed whole short refusal_text number_of place_text sentence plain_sentence needed_text amount_text limit_text decimal digits words
told = refl

-- ---- numbers

-- the seven of a telling
pub seven : numbers_of (whole refusals.Size 4711 (short things.Columns true 1037 1024)) ≡ 5 ∷ 1 ∷ 4711 ∷ 2 ∷ 1037 ∷ 1 ∷ 1024 ∷ []
unfolding numbers_of whole short number_of place_numbers need_numbers thing_number
seven = refl

-- a flag other than 1 counts as 0, and a thing above 4 as none
pub odd : text_of (5 ∷ 2 ∷ 4711 ∷ 5 ∷ 1037 ∷ 1 ∷ 1024 ∷ []) ≡ words "refused 5: a width or height above the limit"
unfolding text_of line_of telling_from told_of refusal_from thing_from having place_from need_from short_from thing_number refusal_text number_of place_text sentence
    plain_sentence decimal digits words
odd = refl

-- no refusal has the number 15
pub fifteen : text_of (15 ∷ 1 ∷ 4711 ∷ 0 ∷ 0 ∷ 0 ∷ 0 ∷ []) ≡ []
unfolding text_of line_of telling_from told_of refusal_from having number_of
fifteen = refl
