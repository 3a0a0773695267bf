-- Laws of a session that starts later: one for each path through a function of `deferred`.
use Rattle.std.specs.Prelude.{◌≡◌, ℕ, Bool, true, false, cond, leb, List, length, Ok, Err}
use mathlib.Core.Path.{refl}
use Rattle.colours.specs.declared.Palette.{Palette}
use Rattle.frame.specs.declared.Frame.{Frame}
use Rattle.frame.specs.declared.Limits.{Limits}
use Rattle.frame.specs.declared.Refusal.TheVariants as refusals
use Rattle.payload.specs.declared.Life.{Life}
use Rattle.payload.specs.declared.Life.TheVariants as lives
use Rattle.payload.specs.Results.{Opened}
use Rattle.payload.specs.declared.Settings.{Settings}
use Rattle.payload.specs.declared.kernel.Setup.{Setup}
use Rattle.payload.specs.Core.{over, begun_over}
use Rattle.payload.specs.Refusals.{openable}
use Rattle.payload.specs.Session.{background_for, session_for, opening_for, first_life, opened_if, first_painted}
use Rattle.payload.specs.Deferred.{no_settings, reserved_by, with_background, begun_session, begun_by}

module _ (l : Limits) (stride : ℕ) (p : Palette) (size : ℕ) where
  either : (t : Bool) → opened_if t l stride size no_settings p
      ≡ cond t (record { answer = Ok tt; session = session_for l stride size no_settings p lives.Live })
      (record { answer = Err refusals.Opening; session = session_for l stride size no_settings p lives.Failed })
  unfolding opened_if opening_for first_life
  either true = refl
  either false = refl

  pub reserved-as : {t : Bool} {o : Settings} {x : Opened} → t ≡ openable l stride size → o ≡ no_settings → x ≡ opened_if t l stride size o p
      → x ≡ reserved_by l stride p size
  unfolding reserved_by
  reserved-as e o k = rw (k, e, o) (either (openable l stride size))

-- the session at `q`, as the code makes it
pub begun-as : (u : Setup) (life : Life) (f : Frame) (p : Palette) (o : Settings) (canvas : List ℕ) {background after : List ℕ}
    → background ≡ background_for p o.p2 → after ≡ first_painted (leb 4 (length canvas)) background canvas
    → begun_over
    (record {
      ground = record { limits = u.ground.limits; stride = u.ground.stride; rows = u.ground.rows; background = background };
      length = u.length;
      settings = o;
    })
    life p after
    ≡ begun_by (over u life f p) o canvas
unfolding begun_by begun_session with_background first_painted
begun-as u life f p o canvas b a = rw (a, b) refl

pub ruleset beginnings = (reserved-as, begun-as)
