-- Every session that a call hands back has its fields in their ranges, where the session that it is given has.
use Rattle.std.specs.Prelude.{ℕ, ltb, List, [], ◌∷◌, Ok, Err}
use native.Mathlib.Omega.{arith}
use borrow.Author.Tests.{ltb-true}
use mathlib.Core.Path.{refl}
use Rattle.numbers.proofs.MemoryLaws.{opened-ranged}
use Rattle.colours.specs.declared.Palette.{Palette}
use Rattle.colours.specs.Marks.{lasting}
use Rattle.meaning.proofs.AreaLaws.{cond-case}
use Rattle.frame.specs.declared.Frame.{Frame}
use Rattle.frame.specs.declared.Limits.{Limits}
use Rattle.frame.specs.declared.Outcome.{Outcome}
use Rattle.frame.specs.declared.Outcome.TheVariants as outcomes
use Rattle.frame.specs.declared.Progress.{Progress}
use Rattle.reference.specs.Step.{Reached}
use Rattle.reference.specs.Feed.{feed_from}
use Rattle.payload.specs.Results.{Given, Opened, Verdict}
use Rattle.payload.specs.declared.Life.{Life}
use Rattle.payload.specs.declared.Life.TheVariants as lives
use Rattle.payload.specs.declared.Session.{Session}
use Rattle.payload.specs.declared.Settings.{Settings}
use Rattle.payload.specs.Deferred.{no_settings, reserved_by, with_background, begun_session, begun_by, failed_of}
use Rattle.payload.specs.Codes.{given_from}
use Rattle.payload.specs.Refusals.{openable, feed_judged}
use Rattle.payload.specs.Ranges.{ColorRanged, GivenRanged, SettingsRanged, LifeRanged, FrameRanged, Ranged}
use Rattle.payload.specs.Session.{clear_for, background_for, blank_frame, ground_for, session_for, opened_by, session_with, answered_in, answered_by, fed_live, fed_in, fed_as, fed_by}
use Rattle.payload.proofs.RangeLaws.{register-ranged, OutcomeRanged, ReachedRanged, feed-ranged}

-- ---- opening

clear-ranged : ColorRanged (0 ∷ 0 ∷ 0 ∷ 0 ∷ [])
clear-ranged = record { four = refl; red = omega arith; green = omega arith; blue = omega arith; alpha = omega arith }

background-ranged : (p : Palette) (o : Given) → ColorRanged (background_for p o)
unfolding background_for
background-ranged p o = cond-case ColorRanged (clear_for o) (λ _. clear-ranged) (λ _. register-ranged p 0)

blank-ranged : (p : Palette) → FrameRanged (blank_frame p)
unfolding blank_frame
blank-ranged p = record { color = register-ranged p 0; ratio = omega arith; parameters = opened-ranged 0 }

new-ranged : (l : Limits) (stride size : ℕ) (o : Settings) (p : Palette) (x : Life) → SettingsRanged o → LifeRanged x → Ranged (session_for l stride size o p x)
unfolding session_for ground_for
new-ranged l stride size o p x h k = record { background = background-ranged p o.p2; settings = h; life = k; frame = blank-ranged p }

pub opened-ranged-by : (l : Limits) (stride : ℕ) (o : Settings) (p : Palette) (canvas : List ℕ) → SettingsRanged o
    → Ranged (opened_by l stride o p canvas).0.session
unfolding opened_by
opened-ranged-by l stride o p canvas h =
    cond-case (λ (x : Opened × List ℕ). Ranged x.0.session) (openable l stride _) (λ _. new-ranged l stride _ o (lasting p) lives.Live h tt)
    (λ _. new-ranged l stride _ o (lasting p) lives.Failed h tt)

-- a parameter that is told by a number
pub given-ranged : (n : ℕ) → GivenRanged (given_from n)
unfolding given_from
given-ranged n = cond-case GivenRanged (ltb n 65536) (λ e. ltb-true n 65536 e) (λ _. tt)

-- ---- feeding

with-ranged : (s : Session) (x : Life) (f : Frame) (p : Palette) → Ranged s → LifeRanged x → FrameRanged f → Ranged (session_with s x f p)
unfolding session_with
with-ranged s x f p h k j = record { background = h.background; settings = h.settings; life = k; frame = j }

answered-ranged : (o : Outcome) (s : Session) (r : Progress) (p : Palette) → Ranged s → FrameRanged r.frame → OutcomeRanged o
    → Ranged (answered_in o s r p).session
unfolding answered_in
answered-ranged outcomes.Read s r p h k j = with-ranged s lives.Live r.frame p h tt k
answered-ranged outcomes.Stopped s r p h k j = with-ranged s lives.Live r.frame p h tt k
answered-ranged (outcomes.Ended b) s r p h k j = with-ranged s (lives.Ended b) r.frame p h j k
answered-ranged (outcomes.Refused n) s r p h k j = with-ranged s lives.Failed r.frame p h tt k

module _ (s : Session) (h : Ranged s) (canvas bytes : List ℕ) (allowance : ℕ) where
  live-ranged : Ranged (fed_live s canvas bytes allowance).0.session
  unfolding fed_live answered_by
  live-ranged =
      let r : Reached = feed_from s.ground allowance bytes 0 0 s.frame s.palette canvas in
      let k : ReachedRanged r = feed-ranged s.ground allowance bytes 0 0 s.frame s.palette canvas h.frame in
      answered-ranged r.progress.outcome s r.progress r.palette h k.frame k.outcome

  in-ranged : (x : Life) → Ranged (fed_in x s canvas bytes allowance).0.session
  unfolding fed_in
  in-ranged lives.Live = live-ranged
  in-ranged (lives.Ended b) = h
  in-ranged lives.Failed = live-ranged

  as-ranged : (j : Verdict) → Ranged (fed_as j s canvas bytes allowance).0.session
  unfolding fed_as
  as-ranged (Ok tt) = in-ranged s.life
  as-ranged (Err n) = h

  pub fed-ranged : Ranged (fed_by s canvas bytes allowance).0.session
  unfolding fed_by
  fed-ranged = as-ranged (feed_judged s _ allowance)

-- ---- inside a DCS session

pub reserved-ranged : (l : Limits) (stride : ℕ) (p : Palette) (size : ℕ) → Ranged (reserved_by l stride p size).session
unfolding reserved_by no_settings
reserved-ranged l stride p size =
    let none : SettingsRanged no_settings = record { p1 = tt; p2 = tt } in
    cond-case (λ (x : Opened). Ranged x.session) (openable l stride size) (λ _. new-ranged l stride size no_settings p lives.Live none tt)
    (λ _. new-ranged l stride size no_settings p lives.Failed none tt)

pub begun-ranged : (s : Session) (o : Settings) (canvas : List ℕ) → Ranged s → SettingsRanged o → Ranged (begun_by s o canvas).0
unfolding begun_by begun_session with_background
begun-ranged s o canvas h k =
    record { background = background-ranged s.palette o.p2; settings = k; life = h.life; frame = blank-ranged s.palette }

pub failed-ranged : (s : Session) → Ranged s → Ranged (failed_of s)
unfolding failed_of
failed-ranged s h = with-ranged s lives.Failed s.frame s.palette h tt h.frame
