-- Laws of moves: one for each path through a function that moves a session of the code.
use Rattle.std.specs.Prelude.{◌≡◌, ℕ, ◌<◌, ◌≤◌, Bool, true, false, not, ◌&&◌, leb, Ok, Err}
use mathlib.Core.Path.{refl, sym, ap, ◌∙◌}
use borrow.Author.Tests.{lt-leb, le-leb}
use Rattle.numbers.proofs.Laws.{cond_yes, cond_no}
use Rattle.canvas.specs.Picture.{rows_of}
use Rattle.colours.specs.declared.Palette.{Palette}
use Rattle.frame.specs.declared.Frame.{Frame}
use Rattle.frame.specs.declared.Refusal.{Refusal}
use Rattle.frame.specs.declared.Refusal.TheVariants as refusals
use Rattle.frame.specs.declared.VisibleArea.{VisibleArea}
use Rattle.payload.specs.declared.Life.{Life}
use Rattle.payload.specs.declared.Session.{Session}
use Rattle.payload.specs.declared.kernel.Setup.{Setup}
use Rattle.payload.specs.Results.{Verdict}
use Rattle.payload.specs.Core.{setup_of, over}
use Rattle.payload.specs.Refusals.{openable, is_failed}
use Rattle.header.specs.declared.Place.{Place}
use Rattle.dcs.specs.declared.Ending.{Ending}
use Rattle.dcs.specs.declared.Phase.{Phase}
use Rattle.dcs.specs.declared.Phase.TheVariants as phases
use Rattle.dcs.specs.declared.Session as dcs_session
use Rattle.dcs.specs.declared.kernel.Core.{Core}
use Rattle.dcs.specs.Core as dcs_core
use Rattle.moving.specs.Session.{Moving, area_room, move_judged, moved_to, setup_moved, answer_as, move_answer, moved_as, moved_by}
use Rattle.moving.specs.DcsSession as dcs
use Rattle.moving.specs.DcsSession.{shown_size}

-- ---- room

module _ (a : VisibleArea) (stride length : ℕ) where
  pub room-narrow : stride < a.width → false ≡ area_room a stride length
  unfolding area_room
  room-narrow h = sym (ap (λ (t : Bool). t && leb a.height (rows_of length stride)) (lt-leb a.width stride h))

  pub room-rows : {r : ℕ} → r ≡ rows_of length stride → a.width ≤ stride → leb a.height r ≡ area_room a stride length
  unfolding area_room
  room-rows e h =
      ap (leb a.height) e ∙ sym (ap (λ (t : Bool). t && leb a.height (rows_of length stride)) (le-leb a.width stride h))

pub ruleset rooms = (room-narrow, room-rows)

-- ---- 9, 11, 12

module _ (s : Session) (stride length : ℕ) {f : Bool} (failed : f ≡ is_failed s.life) where
  pub judged-failed : f ≡ true → Err refusals.Failed ≡ move_judged s stride length
  unfolding move_judged
  judged-failed h = sym (cond_yes _ _ (sym failed ∙ h))

  module _ {o : Bool} (live : f ≡ false) (opens : o ≡ openable s.ground.limits stride length) where
    pub judged-opening : not o ≡ true → Err refusals.Opening ≡ move_judged s stride length
    unfolding move_judged
    judged-opening h = sym (cond_no _ _ (sym failed ∙ live) ∙ cond_yes _ _ (ap not (sym opens) ∙ h))

    module _ {r : Bool} (allowed : not o ≡ false) (room : r ≡ area_room s.frame.area stride length) where
      pub judged-canvas : not r ≡ true → Err refusals.Canvas ≡ move_judged s stride length
      unfolding move_judged
      judged-canvas h =
          sym (cond_no _ _ (sym failed ∙ live) ∙ cond_no _ _ (ap not (sym opens) ∙ allowed) ∙ cond_yes _ _ (ap not (sym room) ∙ h))

      pub judged-fine : not r ≡ false → Ok tt ≡ move_judged s stride length
      unfolding move_judged
      judged-fine h =
          sym (cond_no _ _ (sym failed ∙ live) ∙ cond_no _ _ (ap not (sym opens) ∙ allowed) ∙ cond_no _ _ (ap not (sym room) ∙ h))

pub ruleset judging = (judged-failed, judged-opening, judged-canvas, judged-fine)

-- ---- the session after it

-- before `q` there is no picture, and later it is the visible area
pub size_none : {t : Place} (x : Phase) (a : VisibleArea) → x ≡ phases.Before t → record { width = 0; height = 0 } ≡ shown_size x a
unfolding shown_size
size_none x a e = sym (ap (λ (y : Phase). shown_size y a) e)

pub size-within : (x : Phase) (a : VisibleArea) → x ≡ phases.Within → a ≡ shown_size x a
unfolding shown_size
size-within x a e = sym (ap (λ (y : Phase). shown_size y a) e)

pub size-escaped : (x : Phase) (a : VisibleArea) → x ≡ phases.Escaped → a ≡ shown_size x a
unfolding shown_size
size-escaped x a e = sym (ap (λ (y : Phase). shown_size y a) e)

pub size-over : {e : Ending} (x : Phase) (a : VisibleArea) → x ≡ phases.Over e → a ≡ shown_size x a
unfolding shown_size
size-over x a e = sym (ap (λ (y : Phase). shown_size y a) e)

pub ruleset sizes = (size_none, size-within, size-escaped, size-over)

pub setup-made : {r : ℕ} (u : Setup) (stride length : ℕ) → r ≡ rows_of length stride
    → record {
      ground = record { limits = u.ground.limits; stride = stride; rows = r; background = u.ground.background };
      length = length;
      settings = u.settings;
    }
    ≡ setup_moved u stride length
unfolding setup_moved
setup-made u stride length e =
    ap
    (λ (n : ℕ).
    record {
      ground = record { limits = u.ground.limits; stride = stride; rows = n; background = u.ground.background };
      length = length;
      settings = u.settings;
    })
    e

-- the answer, by the verdict
pub answer-refused : {j v : Verdict} {n : Refusal} (size : VisibleArea) → j ≡ v → j ≡ Err n → Err n ≡ answer_as v size
unfolding answer_as
answer-refused size e h = ap (λ (x : Verdict). answer_as x size) (sym h ∙ e)

pub answer-fine : {j v : Verdict} (size : VisibleArea) → j ≡ v → j ≡ Ok tt → Ok size ≡ answer_as v size
unfolding answer_as
answer-fine size e h = ap (λ (x : Verdict). answer_as x size) (sym h ∙ e)

-- of a payload session it tells the visible area
pub answer-area : {r : Moving} (s : Session) (stride length : ℕ) → r ≡ answer_as (move_judged s stride length) s.frame.area
    → r ≡ move_answer s stride length
unfolding move_answer
answer-area s stride length e = e

pub answer-shown : {r : Moving} {size : VisibleArea} (s : dcs_session.Session) (stride length : ℕ)
    → size ≡ shown_size s.phase s.payload.frame.area → r ≡ answer_as (move_judged s.payload stride length) size
    → r ≡ dcs.move_answer s stride length
unfolding dcs.move_answer
answer-shown s stride length k e = e ∙ ap (answer_as (move_judged s.payload stride length)) k

-- a session's parts: of a payload session
module _ (s : Session) {u : Setup} {life : Life} {f : Frame} {r : Moving} (stride length : ℕ) (a : u ≡ setup_of s) (b : life ≡ s.life) (c : f ≡ s.frame)
    (e : (p : Palette) → r ≡ move_answer (over u life f p) stride length) where
  answered : r ≡ move_answer s stride length
  answered = e s.palette ∙ rw (a, b, c) refl

  -- a refused move
  pub moved-refused : {n : Refusal} → r ≡ Err n → record { answer = r; session = s } ≡ moved_by s stride length
  unfolding moved_by moved_as
  moved-refused h =
      ap (λ (x : Moving). record { answer = x; session = s }) h ∙ ap (λ (x : Moving). moved_as x s stride length) (sym h ∙ answered)

  -- and one that is made: the moved parts are those of the moved session
  pub moved_made : {k : VisibleArea} {u' : Setup} {p : Palette} {s' : Session} → r ≡ Ok k → u' ≡ setup_moved u stride length → p ≡ s.palette
      → s' ≡ over u' life f p
      → record { answer = r; session = s' } ≡ moved_by s stride length
  unfolding moved_by moved_as setup_moved moved_to
  moved_made {k} h d g q = rw (q, d, g, a, b, c, h) (ap (λ (x : Moving). moved_as x s stride length) (sym h ∙ answered))

-- the same of a DCS session
module _ (s : dcs_session.Session) {c : Core} {r : Moving} (stride length : ℕ) (a : c ≡ dcs_core.core_of s)
    (e : (p : Palette) → r ≡ dcs.move_answer (dcs_core.over c p) stride length) where
  dcs-answered : r ≡ dcs.move_answer s stride length
  dcs-answered = e s.payload.palette ∙ ap (λ (x : Core). dcs.move_answer (dcs_core.over x s.payload.palette) stride length) a

  pub dcs-refused : {n : Refusal} → r ≡ Err n → record { answer = r; session = s } ≡ dcs.moved_by s stride length
  unfolding dcs.moved_by dcs.moved_as
  dcs-refused h =
      ap (λ (x : Moving). record { answer = x; session = s }) h ∙ ap (λ (x : Moving). dcs.moved_as x s stride length) (sym h ∙ dcs-answered)

  pub dcs-made : {k : VisibleArea} {u : Setup} {p : Palette} {s' : dcs_session.Session} → r ≡ Ok k → u ≡ setup_moved c.setup stride length
      → p ≡ s.payload.palette
      → s' ≡ dcs_core.over (record { setup = u; life = c.life; frame = c.frame; header = c.header; phase = c.phase }) p
      → record { answer = r; session = s' } ≡ dcs.moved_by s stride length
  unfolding dcs.moved_by dcs.moved_as dcs.moved_to setup_moved moved_to
  dcs-made h d g q = rw (q, d, g, a, h) (ap (λ (x : Moving). dcs.moved_as x s stride length) (sym h ∙ dcs-answered))
