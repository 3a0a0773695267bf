-- What a call over a session in the caller's memory is refused with, as numbers (docs/RULES.md, rules 5.9 to 5.11): the number that the call
-- answers, and the seven of what is told. Each is what `explain` tells of the session that the memory holds.
use Rattle.std.specs.Prelude.{ℕ, List, replicate, Ok, Err}
use Rattle.text.specs.Text.{put}
use Rattle.colours.specs.Palette.{of_table}
use Rattle.frame.specs.declared.Limits.{Limits}
use Rattle.frame.specs.Numbers.{number_of}
use Rattle.payload.specs.Memory as payload_memory
use Rattle.dcs.specs.Memory as dcs_memory
use Rattle.words.specs.Memory.{numbers_of, text_of}
use Rattle.explain.specs.Explained.{Explained, payload_feed_explained, payload_finish_explained, dcs_feed_explained, dcs_finish_explained, read_explained}

-- ---- what is told, as numbers

-- 0 of a call that is not refused, else the refusal's number
unfoldable pub told_number : Explained → ℕ
told_number (Ok tt) = 0
told_number (Err t) = number_of t.refusal

-- seven zeros of a call that is not refused, else what is told of its refusal
unfoldable pub told_numbers : Explained → List ℕ
told_numbers (Ok tt) = replicate 7 0
told_numbers (Err t) = numbers_of t

unfoldable pub told_as : Explained → ℕ × List ℕ
unfolding told_number told_numbers
told_as x = (told_number x, told_numbers x)

-- ---- the outcomes

-- a feed's and a finish's, on a canvas of so many bytes
unfoldable pub payload_feed_told : List ℕ → List ℕ → ℕ → List ℕ → ℕ → ℕ × List ℕ
unfolding told_as
payload_feed_told ns registers size bytes allowance =
    told_as (payload_feed_explained (payload_memory.session_from ns registers) size bytes allowance)

unfoldable pub payload_finish_told : List ℕ → List ℕ → ℕ → ℕ × List ℕ
unfolding told_as
payload_finish_told ns registers size = told_as (payload_finish_explained (payload_memory.session_from ns registers) size)

-- those of a DCS session
unfoldable pub dcs_feed_told : List ℕ → List ℕ → ℕ → List ℕ → ℕ → ℕ × List ℕ
unfolding told_as
dcs_feed_told ns registers size bytes allowance = told_as (dcs_feed_explained (dcs_memory.session_from ns registers) size bytes allowance)

unfoldable pub dcs_finish_told : List ℕ → List ℕ → ℕ → ℕ × List ℕ
unfolding told_as
dcs_finish_told ns registers size = told_as (dcs_finish_explained (dcs_memory.session_from ns registers) size)

-- reading all at once, with the owner's registers
unfoldable pub read_told : Limits → ℕ → ℕ → List ℕ → List ℕ → ℕ × List ℕ
unfolding told_as
read_told l stride size palette bytes = told_as (read_explained l stride size (of_table palette) bytes)

-- how many bytes of the line are written, and the buffer then: the line's first bytes stand at its front
unfoldable pub words_put : List ℕ → List ℕ → ℕ × List ℕ
words_put ns out = put (text_of ns) (0, out)
