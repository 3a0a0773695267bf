-- Which refusals each function can answer, of any session, canvas and memory that it is lent, whatever they hold; and in which order a finish
-- is refused. Number 10 is retired: no list here has it.
use Rattle.std.specs.Prelude.{ℕ, Bool, true, false, ◌||◌, Ok, Err, List, [], ◌∷◌, ◌≡◌, eqb}
use Rattle.std.proofs.Math.Option.{Option, none, some}
use Rattle.frame.specs.Commands.{ended}
use Rattle.frame.specs.Numbers.{number_of}
use Rattle.frame.specs.declared.Outcome.{Outcome}
use Rattle.frame.specs.declared.Outcome.TheVariants as outcomes
use Rattle.meaning.specs.Calls.{Test, first_of}
use Rattle.meaning.specs.Payload as meant
use Rattle.payload.specs.Results as payload_answer
use Rattle.payload.specs.declared.Answer.TheVariants as payload_answers
use Rattle.payload.specs.Results.{Finishing, Opening}
use Rattle.payload.specs.declared.Session as payload
use Rattle.payload.specs.Refusals.{is_failed, misfitting}
use Rattle.dcs.specs.Results as dcs_answer
use Rattle.dcs.specs.declared.Phase.{Phase}
use Rattle.dcs.specs.declared.Phase.TheVariants as phases
use Rattle.dcs.specs.declared.Session as dcs

-- ---- the number that an answer is refused with, where it is refused

unfoldable pub opening_number : Opening → Option ℕ
opening_number (Ok tt) = none
opening_number (Err n) = some (number_of n)

unfoldable pub payload_number : payload_answer.Answer → Option ℕ
payload_number (Ok (payload_answers.More n i)) = none
payload_number (Ok (payload_answers.Stopped n i)) = none
payload_number (Ok (payload_answers.Ended n i b)) = none
payload_number (Err r) = some (number_of r)

unfoldable pub dcs_number : dcs_answer.Answer → Option ℕ
dcs_number (Ok (payload_answers.More n i)) = none
dcs_number (Ok (payload_answers.Stopped n i)) = none
dcs_number (Ok (payload_answers.Ended n i e)) = none
dcs_number (Err r) = some (number_of r)

unfoldable pub finish_number : Finishing → Option ℕ
finish_number (Ok r) = none
finish_number (Err n) = some (number_of n)

unfoldable pub read_number : meant.Finished → Option ℕ
read_number (meant.finished r) = none
read_number (meant.turned_down n) = some n

-- what an export answers: the number, and 0 where nothing is refused
unfoldable pub or_zero : Option ℕ → ℕ
or_zero none = 0
or_zero (some n) = n

-- ---- the numbers of each function

-- one of some numbers
unfoldable pub one_of : ℕ → List ℕ → Bool
one_of n [] = false
one_of n (m ∷ ms) = eqb n m || one_of n ms

-- none, or one of some numbers
abbrev pub Only : List ℕ → Option ℕ → Type 0
Only ms none = Unit {0}
Only ms (some n) = one_of n ms ≡ true

abbrev pub opening_numbers : List ℕ
opening_numbers = 11 ∷ []

-- a command's
abbrev pub command_numbers : List ℕ
command_numbers = 4 ∷ 5 ∷ 6 ∷ 7 ∷ []

abbrev pub payload_feed_numbers : List ℕ
payload_feed_numbers = 9 ∷ 12 ∷ 13 ∷ command_numbers

abbrev pub dcs_feed_numbers : List ℕ
dcs_feed_numbers = 9 ∷ 12 ∷ 13 ∷ 1 ∷ 2 ∷ 3 ∷ command_numbers

abbrev pub payload_finish_numbers : List ℕ
payload_finish_numbers = 9 ∷ 12 ∷ command_numbers

abbrev pub dcs_finish_numbers : List ℕ
dcs_finish_numbers = 9 ∷ 12 ∷ 8 ∷ command_numbers

abbrev pub read_numbers : List ℕ
read_numbers = 11 ∷ 8 ∷ 2 ∷ 3 ∷ command_numbers

-- ---- the order of a finish

-- what ending the pending command is refused with
unfoldable pub outcome_number : Outcome → Option ℕ
outcome_number outcomes.Read = none
outcome_number outcomes.Stopped = none
outcome_number (outcomes.Ended b) = none
outcome_number (outcomes.Refused n) = some (number_of n)

unfoldable pub pending_number : payload.Session → Option ℕ
unfolding outcome_number
pending_number s = outcome_number (ended s.frame s.ground s.palette).progress.outcome

-- the number of the first test that holds, or else another
unfoldable pub first_or : List Test → Option ℕ → Option ℕ
first_or ts other = elim (first_of ts) [ none ↦ other | some n ↦ some n ]

-- 9, 12, the pending command's
unfoldable pub payload_finish_order : payload.Session → ℕ → Option ℕ
unfolding first_or pending_number
payload_finish_order s length =
    first_or (record { holds = is_failed s.life; number = 9 } ∷ record { holds = misfitting s length; number = 12 } ∷ []) (pending_number s)

-- before the end
unfoldable pub is_early : Phase → Bool
is_early (phases.Before t) = true
is_early phases.Within = true
is_early phases.Escaped = true
is_early (phases.Over e) = false

-- 9, 12, 8, the pending command's
unfoldable pub dcs_finish_order : dcs.Session → ℕ → Option ℕ
unfolding first_or pending_number is_early
dcs_finish_order s length =
    first_or
    (record { holds = is_failed s.payload.life; number = 9 }
    ∷ record { holds = misfitting s.payload length; number = 12 }
    ∷ record { holds = is_early s.phase; number = 8 }
    ∷ [])
    (pending_number s.payload)
