-- What the calls over a session in the caller's memory come to: the number that is answered, the session's numbers and
-- registers, the canvas and the report after it. Each is the call by value on the session that the memory holds.
use Rattle.std.specs.Prelude.{ℕ, List, [], ◌∷◌, take, replicate, Result, Ok, Err}
use Rattle.colours.specs.Palette.{of_table}
use Rattle.frame.specs.declared.Limits.{Limits}
use Rattle.frame.specs.declared.Refusal.{Refusal}
use Rattle.frame.specs.Numbers.{number_of}
use Rattle.meaning.specs.Payload as meant
use Rattle.payload.specs.Results as payload_answer
use Rattle.payload.specs.declared.Answer.TheVariants as payload_answers
use Rattle.payload.specs.declared.Finished.{Finished}
use Rattle.payload.specs.Codes.{given_from}
use Rattle.payload.specs.Memory as payload_memory
use Rattle.payload.specs.Session as payload
use Rattle.dcs.specs.Results as dcs_answer
use Rattle.dcs.specs.declared.Ending.{Ending}
use Rattle.dcs.specs.declared.Ending.TheVariants as endings
use Rattle.dcs.specs.Memory as dcs_memory
use Rattle.dcs.specs.Session as dcs
use Rattle.payload.specs.Meant.{finish_meant}
use Rattle.owlgantry.specs.Reading.{report_numbers, refusal_number}

-- ---- answers as numbers

-- 0, or the refusal's number: of an opening, a feed or a move
unfoldable pub number_or_zero : {T : Type 0} → Result T Refusal → ℕ
number_or_zero (Ok a) = 0
number_or_zero (Err r) = number_of r

-- 0 all bytes read, 1 stopped for ink, 2 ended; bytes consumed, ink, and the byte that ended the payload
unfoldable pub payload_report : payload_answer.Answer → List ℕ
payload_report (Ok (payload_answers.More n i)) = 0 ∷ n ∷ i ∷ 0 ∷ []
payload_report (Ok (payload_answers.Stopped n i)) = 1 ∷ n ∷ i ∷ 0 ∷ []
payload_report (Ok (payload_answers.Ended n i b)) = 2 ∷ n ∷ i ∷ b ∷ []
payload_report (Err r) = 0 ∷ 0 ∷ 0 ∷ 0 ∷ []

-- 2 complete, 3 cancelled, 4 interrupted, and by which byte
unfoldable pub ending_kind : Ending → ℕ
ending_kind endings.Complete = 2
ending_kind (endings.Cancelled b) = 3
ending_kind (endings.Interrupted b) = 4

unfoldable pub ending_byte : Ending → ℕ
ending_byte endings.Complete = 0
ending_byte (endings.Cancelled b) = b
ending_byte (endings.Interrupted b) = b

unfoldable pub dcs_report : dcs_answer.Answer → List ℕ
unfolding ending_kind ending_byte
dcs_report (Ok (payload_answers.More n i)) = 0 ∷ n ∷ i ∷ 0 ∷ []
dcs_report (Ok (payload_answers.Stopped n i)) = 1 ∷ n ∷ i ∷ 0 ∷ []
dcs_report (Ok (payload_answers.Ended n i e)) = ending_kind e ∷ n ∷ i ∷ ending_byte e ∷ []
dcs_report (Err r) = 0 ∷ 0 ∷ 0 ∷ 0 ∷ []

-- a report's numbers without a part's place and length
unfoldable pub finish_report : meant.Finished → List ℕ
finish_report x = take 11 (report_numbers x 0 0)

-- ---- the outcomes

-- an opening's
unfoldable pub payload_opened_as : payload_answer.Opened × List ℕ → ℕ × List ℕ × List ℕ × List ℕ
unfolding number_or_zero
payload_opened_as x = (number_or_zero x.0.answer, payload_memory.numbers_of x.0.session, payload_memory.table_of x.0.session, x.1)

-- the session gets a copy of the owner's registers
unfoldable pub payload_opened : Limits → ℕ → ℕ → ℕ → List ℕ → List ℕ → ℕ × List ℕ × List ℕ × List ℕ
unfolding payload_opened_as
payload_opened l stride p1 p2 palette canvas =
    payload_opened_as (payload.opened_by l stride (record { p1 = given_from p1; p2 = given_from p2 }) (of_table palette) canvas)

-- a feed's
unfoldable pub payload_fed_as : payload_answer.Fed × List ℕ → ℕ × List ℕ × List ℕ × List ℕ × List ℕ
unfolding number_or_zero payload_report
payload_fed_as x = (
  number_or_zero x.0.answer,
  payload_memory.numbers_of x.0.session,
  payload_memory.table_of x.0.session,
  x.1,
  payload_report x.0.answer,
)

unfoldable pub payload_fed : List ℕ → List ℕ → List ℕ → List ℕ → ℕ → ℕ × List ℕ × List ℕ × List ℕ × List ℕ
unfolding payload_fed_as
payload_fed ns registers canvas bytes allowance =
    payload_fed_as (payload.fed_by (payload_memory.session_from ns registers) canvas bytes allowance)

-- a finish's: no session is left, and the registers are the owner's
unfoldable pub finished_as : Finished × List ℕ → ℕ × List ℕ × List ℕ × List ℕ × List ℕ
unfolding finish_report
finished_as x =
    let answer : meant.Finished = finish_meant x.0.answer x.0.palette in
    (refusal_number answer, replicate 48 0, x.0.palette.colors, x.1, finish_report answer)

unfoldable pub payload_finished : List ℕ → List ℕ → List ℕ → List ℕ → ℕ × List ℕ × List ℕ × List ℕ × List ℕ
unfolding finished_as
payload_finished ns registers palette canvas =
    finished_as (payload.finished_by (payload_memory.session_from ns registers) (of_table palette) canvas)

-- those of a DCS session
unfoldable pub dcs_opened_as : dcs_answer.Opened → ℕ × List ℕ × List ℕ
unfolding number_or_zero
dcs_opened_as x = (number_or_zero x.answer, dcs_memory.numbers_of x.session, dcs_memory.table_of x.session)

unfoldable pub dcs_opened : Limits → ℕ → ℕ → List ℕ → ℕ × List ℕ × List ℕ
unfolding dcs_opened_as
dcs_opened l stride size palette = dcs_opened_as (dcs.opened_by l stride (of_table palette) size)

unfoldable pub dcs_fed_as : dcs_answer.Fed × List ℕ → ℕ × List ℕ × List ℕ × List ℕ × List ℕ
unfolding number_or_zero dcs_report
dcs_fed_as x = (
  number_or_zero x.0.answer,
  dcs_memory.numbers_of x.0.session,
  dcs_memory.table_of x.0.session,
  x.1,
  dcs_report x.0.answer,
)

unfoldable pub dcs_fed : List ℕ → List ℕ → List ℕ → List ℕ → ℕ → ℕ × List ℕ × List ℕ × List ℕ × List ℕ
unfolding dcs_fed_as
dcs_fed ns registers canvas bytes allowance = dcs_fed_as (dcs.fed_by (dcs_memory.session_from ns registers) canvas bytes allowance)

unfoldable pub dcs_finished : List ℕ → List ℕ → List ℕ → List ℕ → ℕ × List ℕ × List ℕ × List ℕ × List ℕ
unfolding finished_as
dcs_finished ns registers palette canvas =
    finished_as (dcs.finished_by (dcs_memory.session_from ns registers) (of_table palette) canvas)
