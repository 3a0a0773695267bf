-- What moving a session in the caller's memory comes to: the number that is answered, the session's numbers, and the report. It is the move by
-- value of the session that the memory holds, whatever its registers: of the 48 numbers, stride, rows and length alone are others.
use Rattle.std.specs.Prelude.{ℕ, List, [], ◌∷◌, slice_set, Ok, Err}
use Rattle.canvas.specs.Picture.{rows_of}
use Rattle.payload.specs.Memory as payload_memory
use Rattle.dcs.specs.Memory as dcs_memory
use Rattle.moving.specs.Session as payload
use Rattle.moving.specs.Session.{Moving}
use Rattle.moving.specs.DcsSession as dcs
use Rattle.owlgantry.specs.Sessions.{number_or_zero}

-- the picture's width and height, and zeros on a refusal
unfoldable pub moving_report : Moving → List ℕ
moving_report (Ok a) = a.width ∷ a.height ∷ []
moving_report (Err n) = 0 ∷ 0 ∷ []

-- a session's numbers for a canvas of this stride and so many bytes
unfoldable pub placed : List ℕ → ℕ → ℕ → List ℕ
placed ns stride length = slice_set (slice_set (slice_set ns 4 stride) 5 (rows_of length stride)) 7 length

-- refused, they are as they were
unfoldable pub placed_as : Moving → List ℕ → ℕ → ℕ → List ℕ
unfolding placed
placed_as (Ok a) ns stride length = placed ns stride length
placed_as (Err n) ns stride length = ns

-- by the answer
unfoldable pub moved_as : Moving → List ℕ → ℕ → ℕ → ℕ × List ℕ × List ℕ
unfolding number_or_zero moving_report placed_as
moved_as x ns stride length = (number_or_zero x, placed_as x ns stride length, moving_report x)

-- a payload session's move
unfoldable pub payload_moved : List ℕ → ℕ → ℕ → ℕ × List ℕ × List ℕ
unfolding moved_as
payload_moved ns stride length = moved_as (payload.move_answer (payload_memory.session_from ns []) stride length) ns stride length

-- a DCS session's
unfoldable pub dcs_moved : List ℕ → ℕ → ℕ → ℕ × List ℕ × List ℕ
unfolding moved_as
dcs_moved ns stride length = moved_as (dcs.move_answer (dcs_memory.session_from ns []) stride length) ns stride length
