-- A session as 48 numbers and 256 registers, and back: the 34 numbers of its payload session, its phase, the nine of its header, and four
-- zeros. All that `session_from` is given makes a session.
use Rattle.std.specs.Prelude.{ℕ, ◌+◌, ◌%◌, ◌<◌, cond, List, [], ◌∷◌, ◌++◌, set, ◌==◌, nat_lt, slice_index, slice_set}
use Rattle.numbers.specs.Memory as parameters
use Rattle.payload.specs.Codes.{life_from}
use Rattle.payload.specs.Memory as payload
use Rattle.payload.specs.Ranges as payload_ranges
use Rattle.dcs.specs.declared.Ending.{Ending}
use Rattle.dcs.specs.declared.Ending.TheVariants as endings
use Rattle.dcs.specs.declared.Phase.{Phase}
use Rattle.dcs.specs.declared.Phase.TheVariants as phases
use Rattle.dcs.specs.declared.Session.{Session}
use Rattle.dcs.specs.declared.kernel.Core.{Core}
use Rattle.header.specs.declared.Place.{Place}
use Rattle.header.specs.declared.Place.TheVariants as places

-- 0 to 2 before the payload, 3 in it, 4 after the 1B that ended it, 5 complete
unfoldable pub place_number : Place → ℕ
place_number places.Start = 0
place_number places.Introduced = 1
place_number places.Header = 2

-- and 256 or 512 more than the byte that cancelled or interrupted it
unfoldable pub ending_number : Ending → ℕ
ending_number endings.Complete = 5
ending_number (endings.Cancelled b) = b + 256
ending_number (endings.Interrupted b) = b + 512

unfoldable pub phase_number : Phase → ℕ
unfolding place_number ending_number
phase_number (phases.Before t) = place_number t
phase_number phases.Within = 3
phase_number phases.Escaped = 4
phase_number (phases.Over e) = ending_number e

unfoldable pub phase_from : ℕ → Phase
phase_from n =
    cond (n == 0) (phases.Before places.Start)
    (cond (n == 1) (phases.Before places.Introduced)
    (cond (n == 2) (phases.Before places.Header)
    (cond (n == 3) phases.Within
    (cond (n == 4) phases.Escaped
    (cond (nat_lt n 256) (phases.Over endings.Complete)
    (cond (nat_lt n 512) (phases.Over (endings.Cancelled (n % 256)))
    (phases.Over (endings.Interrupted (n % 256)))))))))

-- nine numbers written from a place on
unfoldable pub nine_written : List ℕ → ℕ → List ℕ → List ℕ
nine_written ns i vs =
    set (set (set (set (set (slice_set (slice_set (slice_set (slice_set ns i (slice_index vs 0)) (i + 1) (slice_index vs 1)) (i + 2) (slice_index vs 2)) (i + 3) (slice_index vs 3))
    (i + 4) (slice_index vs 4)) (i + 5) (slice_index vs 5)) (i + 6) (slice_index vs 6)) (i + 7) (slice_index vs 7)) (i + 8) (slice_index vs 8)

unfoldable pub numbers_of : Session → List ℕ
unfolding phase_number
numbers_of s =
    payload.own_numbers s.payload ++ (phase_number s.phase ∷ (parameters.numbers_of s.header ++ s.payload.frame.held ∷ 0 ∷ 0 ∷ 0 ∷ []))

abbrev pub table_of : Session → List ℕ
table_of s = payload.table_of s.payload

unfoldable pub core_from : List ℕ → Core
unfolding phase_from
core_from ns =
    record {
      setup = payload.setup_from ns;
      life = life_from (slice_index ns 10);
      frame = payload.frame_from ns;
      header = parameters.parameters_from (payload.nine_from ns 35);
      phase = phase_from (slice_index ns 34);
    }

unfoldable pub session_from : List ℕ → List ℕ → Session
unfolding phase_from
session_from ns table =
    record {
      payload = payload.session_from ns table;
      header = parameters.parameters_from (payload.nine_from ns 35);
      phase = phase_from (slice_index ns 34);
    }

-- ---- what each session of the code is: its fields are in the ranges of their types

abbrev pub EndingRanged : Ending → Type 0
EndingRanged endings.Complete = Unit {0}
EndingRanged (endings.Cancelled b) = b < 256
EndingRanged (endings.Interrupted b) = b < 256

abbrev pub PhaseRanged : Phase → Type 0
PhaseRanged (phases.Before t) = Unit {0}
PhaseRanged phases.Within = Unit {0}
PhaseRanged phases.Escaped = Unit {0}
PhaseRanged (phases.Over e) = EndingRanged e

pub record Ranged (s : Session) : Type 0 where
  pub payload : payload_ranges.Ranged s.payload
  pub header : parameters.Ranged s.header
  pub phase : PhaseRanged s.phase
