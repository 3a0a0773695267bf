-- What a move makes of a DCS session of the code: its payload session moves, and header and phase stay.
use Rattle.std.specs.Prelude.{ℕ, Ok, Err}
use Rattle.frame.specs.declared.VisibleArea.{VisibleArea}
use Rattle.dcs.specs.declared.Phase.{Phase}
use Rattle.dcs.specs.declared.Phase.TheVariants as phases
use Rattle.dcs.specs.declared.Session.{Session}
use Rattle.dcs.specs.Session.{session_of}
use Rattle.moving.specs.declared.Moved as moved
use Rattle.moving.specs.Session as payload
use Rattle.moving.specs.Session.{Moving}

-- rule 14.3: the size of the picture: before `q` there is none
unfoldable pub shown_size : Phase → VisibleArea → VisibleArea
shown_size (phases.Before t) a = record { width = 0; height = 0 }
shown_size phases.Within a = a
shown_size phases.Escaped a = a
shown_size (phases.Over e) a = a

unfoldable pub moved_to : Session → ℕ → ℕ → Session
moved_to s stride length = session_of (payload.moved_to s.payload stride length) s.header s.phase

unfoldable pub move_answer : Session → ℕ → ℕ → Moving
move_answer s stride length = payload.answer_as (payload.move_judged s.payload stride length) (shown_size s.phase s.payload.frame.area)

-- refused, the session is as it was
unfoldable pub moved_as : Moving → Session → ℕ → ℕ → moved.Moved Session
unfolding moved_to
moved_as (Ok a) s stride length = record { answer = Ok a; session = moved_to s stride length }
moved_as (Err n) s stride length = record { answer = Err n; session = s }

unfoldable pub moved_by : Session → ℕ → ℕ → moved.Moved Session
unfolding moved_as move_answer
moved_by s stride length = moved_as (move_answer s stride length) s stride length
