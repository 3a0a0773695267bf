-- What a move makes of a session of the code, on its own records: the session for a canvas of another stride and length, or a refusal.
use Rattle.std.specs.Prelude.{ℕ, Bool, cond, not, ◌&&◌, nat_le, Result, Ok, Err}
use Rattle.canvas.specs.Picture.{rows_of}
use Rattle.frame.specs.declared.Ground.{Ground}
use Rattle.frame.specs.declared.Refusal.TheVariants as refusals
use Rattle.frame.specs.declared.VisibleArea.{VisibleArea}
use Rattle.payload.specs.declared.Session.{Session}
use Rattle.payload.specs.declared.kernel.Setup.{Setup}
use Rattle.payload.specs.Results.{Verdict}
use Rattle.payload.specs.Refusals.{openable, is_failed}
use Rattle.frame.specs.declared.Refusal.{Refusal}
use Rattle.moving.specs.declared.Moved as moved

-- an area has room on a canvas of this stride and so many bytes
unfoldable pub area_room : VisibleArea → ℕ → ℕ → Bool
area_room a stride length = nat_le a.width stride && nat_le a.height (rows_of length stride)

-- 9, 11, 12
unfoldable pub move_judged : Session → ℕ → ℕ → Verdict
unfolding area_room
move_judged s stride length =
    cond (is_failed s.life) (Err refusals.Failed)
    (cond (not (openable s.ground.limits stride length)) (Err refusals.Opening)
    (cond (not (area_room s.frame.area stride length)) (Err refusals.Canvas) (Ok tt)))

-- the session for that canvas: stride, rows and length alone are others
unfoldable pub moved_to : Session → ℕ → ℕ → Session
moved_to s stride length =
    let ground : Ground = record { limits = s.ground.limits; stride = stride; rows = rows_of length stride; background = s.ground.background } in
    record {
      ground = ground;
      length = length;
      settings = s.settings;
      life = s.life;
      frame = s.frame;
      palette = s.palette;
    }

-- the same of a session's setup
unfoldable pub setup_moved : Setup → ℕ → ℕ → Setup
setup_moved u stride length =
    record {
      ground = record { limits = u.ground.limits; stride = stride; rows = rows_of length stride; background = u.ground.background };
      length = length;
      settings = u.settings;
    }

-- what a move answers: the size of the picture that has to be carried over, or the refusal
abbrev pub Moving : Type 0
Moving = Result VisibleArea Refusal

unfoldable pub answer_as : Verdict → VisibleArea → Moving
answer_as (Ok tt) size = Ok size
answer_as (Err n) size = Err n

unfoldable pub move_answer : Session → ℕ → ℕ → Moving
unfolding answer_as move_judged
move_answer s stride length = answer_as (move_judged s stride length) s.frame.area

-- refused, the session is as it was
unfoldable pub moved_as : Moving → Session → ℕ → ℕ → moved.Moved Session
unfolding moved_to
moved_as (Ok a) s stride length = record { answer = Ok a; session = moved_to s stride length }
moved_as (Err n) s stride length = record { answer = Err n; session = s }

unfoldable pub moved_by : Session → ℕ → ℕ → moved.Moved Session
unfolding moved_as move_answer
moved_by s stride length = moved_as (move_answer s stride length) s stride length
