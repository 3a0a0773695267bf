-- What is said of a refusal in words (docs/RULES.md, rule 5.11): its number, where it was, and one sentence. There is a line for anything that
-- a telling says.
use Rattle.std.specs.Prelude.{Option, Some, None}
use Rattle.std.specs.Prelude.{ℕ, Bool, true, false, cond, List, [], ◌++◌, eqb}
use Rattle.text.specs.Text.{decimal, words}
use Rattle.frame.specs.declared.Refusal.{Refusal}
use Rattle.frame.specs.declared.Refusal.TheVariants as refusals
use Rattle.frame.specs.Numbers.{number_of}
use Rattle.words.specs.declared.Thing.{Thing}
use Rattle.words.specs.declared.Thing.TheVariants as things
use Rattle.words.specs.declared.Shortage.{Shortage}
use Rattle.words.specs.declared.Telling.{Telling}

-- where the refused byte is, if that is told
unfoldable pub place_text : Option ℕ → List ℕ
place_text None = []
place_text (Some offset) = words " at byte " ++ decimal offset

-- a number, or more than it
unfoldable pub amount_text : ℕ → Bool → List ℕ
amount_text n true = words "more than " ++ decimal n
amount_text n false = decimal n

-- so much of a thing is needed
unfoldable pub needed_text : Thing → ℕ → Bool → List ℕ
needed_text things.Repeats n more = words "a repeat of " ++ amount_text n more
needed_text things.Columns n more = amount_text n more ++ words " columns are needed"
needed_text things.Rows n more = amount_text n more ++ words " rows are needed"
needed_text things.Pixels n more = amount_text n more ++ words " pixels are needed"

-- so much is allowed, or, of refusal 7, is on the canvas
unfoldable pub limit_text : Refusal → ℕ → List ℕ
limit_text refusal n =
    cond (eqb (number_of refusal) 7) (words ", the canvas has " ++ decimal n) (words ", " ++ decimal n ++ words " allowed")

-- rule 5.11: a refusal's sentence where no need is told
unfoldable pub plain_sentence : Refusal → List ℕ
plain_sentence refusals.Introducer = words "no DCS introducer"
plain_sentence refusals.HeaderEnded = words "the header is cut off before its q"
plain_sentence refusals.HeaderByte = words "a byte that no header has"
plain_sentence refusals.Repeat = words "a repeat above the limit"
plain_sentence refusals.Size = words "a width or height above the limit"
plain_sentence refusals.Pixels = words "more pixels than the limit"
plain_sentence refusals.Room = words "a size above the canvas"
plain_sentence refusals.Unfinished = words "the sequence has not come to its end"
plain_sentence refusals.Failed = words "the session was refused before, or there is none"
plain_sentence refusals.FinalSize = words "retired, nothing gives this number"
plain_sentence refusals.Opening = words "a limit or the stride is out of range, or the canvas has no whole row"
plain_sentence refusals.Canvas = words "not the canvas of the opening, or no such picture on it"
plain_sentence refusals.Allowance = words "the allowance is below six times the width limit"
plain_sentence refusals.Buffer = words "the buffer is shorter than the picture"

-- rule 5.11: a refusal's sentence: where a need is told, it says that
unfoldable pub sentence : Refusal → Option Shortage → List ℕ
sentence refusal None = plain_sentence refusal
sentence refusal (Some short) = needed_text short.thing short.needed short.more ++ limit_text refusal short.allowed

-- rule 5.11: the line of a refusal
unfoldable pub refusal_text : Telling → List ℕ
refusal_text telling =
    words "refused " ++ decimal (number_of telling.refusal) ++ place_text telling.place ++ words ": "
    ++ sentence telling.refusal telling.need
