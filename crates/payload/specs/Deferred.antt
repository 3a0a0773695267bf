-- A payload session inside a DCS session: before `q`, at it, and failed.
use Rattle.std.specs.Prelude.{ℕ, cond, List, length, nat_le, Ok, Err, None}
use Rattle.colours.specs.declared.Palette.{Palette}
use Rattle.canvas.specs.Picture.{span}
use Rattle.canvas.specs.Paint.{painted}
use Rattle.frame.specs.declared.Ground.{Ground}
use Rattle.frame.specs.declared.Limits.{Limits}
use Rattle.frame.specs.declared.Refusal.TheVariants as refusals
use Rattle.payload.specs.declared.Life.TheVariants as lives
use Rattle.payload.specs.Results.{Opened}
use Rattle.payload.specs.declared.Session.{Session}
use Rattle.payload.specs.declared.Settings.{Settings}
use Rattle.payload.specs.Refusals.{openable}
use Rattle.payload.specs.Session.{background_for, blank_frame, session_for, session_with}

-- no parameters
unfoldable pub no_settings : Settings
no_settings = record { p1 = None; p2 = None }

unfoldable pub reserved_by : Limits → ℕ → Palette → ℕ → Opened
unfolding no_settings
reserved_by l stride p size =
    cond (openable l stride size)
    (record { answer = Ok tt; session = session_for l stride size no_settings p lives.Live })
    (record { answer = Err refusals.Opening; session = session_for l stride size no_settings p lives.Failed })

unfoldable pub with_background : Ground → List ℕ → Ground
with_background g background = record { limits = g.limits; stride = g.stride; rows = g.rows; background = background }

-- the session at `q`, its palette as it stands
unfoldable pub begun_session : Session → Settings → Session
unfolding with_background
begun_session s o =
    let ground : Ground = with_background s.ground (background_for s.palette o.p2) in
    record {
      ground = ground;
      length = s.length;
      settings = o;
      life = s.life;
      frame = blank_frame s.palette;
      palette = s.palette;
    }

unfoldable pub begun_by : Session → Settings → List ℕ → Session × List ℕ
unfolding begun_session
begun_by s o canvas =
    (begun_session s o, cond (nat_le 4 (length canvas)) (painted (span 0 1) (background_for s.palette o.p2) canvas) canvas)

unfoldable pub failed_of : Session → Session
failed_of s = session_with s lives.Failed s.frame s.palette
