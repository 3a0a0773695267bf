-- After any calls of an accepted opening the visible area fits and the extent follows the ink, before and after the pending command is carried
-- out, and the size that a finish reports fits, with the extent inside. Of an opening nothing is used but W, H, M and a stride of at least 1
-- and a whole row; and each of these is needed.
use Prim.Native.Nat.{ℕ}
use mathlib.Core.Bool.{false}
use mathlib.Core.Option.{Option, none, some}
use mathlib.Core.List.{List, [], ◌∷◌}
use mathlib.Core.Path.{◌≡◌, refl, subst, sym}
use Rattle.colours.specs.declared.Palette.{Palette}
use Rattle.canvas.specs.Picture.{Area}
use Rattle.meaning.specs.Commands.{ended_commands}
use Rattle.meaning.specs.Drawing.{Setting, Drawing, blank, pixels_of}
use Rattle.meaning.specs.Payload.{Parameters, payload, drawn_so_far, Finished}
use Rattle.meaning.specs.OneShot.{Found, found, lacking, refused_with, find_payload, answer_of, one_shot}
use Rattle.meaning.specs.Sessions.{Reading, opened, settled, payload_step, rested, finish_reading, Phase, start, introduced, header, within, after_escape, over, dcs_step, dcs_rested, finish_dcs}
use Rattle.meaning.specs.Calls.{Session, Fed, first_of, misfits, finish_session, dcs_end, reading_of, drawing_of, drawing_settled, visible_area, drawing_found, feed_payload, finish_payload, feed_dcs, finish_dcs_session}
use Rattle.meaning.specs.Callers.{Ask, fed_all}
use Rattle.meaning.specs.Sizes.{Roomy, Fits, VisibleFits, ReportFits}
use Rattle.meaning.specs.Extents.{VisibleFollows}
use Rattle.meaning.proofs.Cases.{option-case}
use Rattle.meaning.proofs.KeptLaws.{calls-kept}
use Rattle.meaning.proofs.CommandLaws.{draw_all-sound}
use Rattle.meaning.proofs.SizeLaws.{blank-sound, payload-sound, outcome_fits}
use Rattle.meaning.proofs.StepLaws.{OnDrawing, dcs-step-keeps, dcs-rested-keeps}
use Rattle.meaning.proofs.ExtentLaws.{SoundSix, follows-ink, blank-six, settled-six, step-six, rested-six, payload-six}

-- Each premise is needed: the first visible area fits nowhere else.
pub roomy-needed : {s : Setting} (p : Palette) (p2 : Option ℕ) → Fits s (blank p p2).area → Roomy s
unfolding blank pixels_of
roomy-needed p p2 h = record { width = h.width; height = h.height; pixels = h.pixels; stride = h.stride; rows = h.rows }

-- ---- any session

-- a finish reports what its state's finish does
finish-fits : {S : Type 0} (area_of : S → Area) (finish_state : Setting → S → Finished) (s : Setting) (m : Session S) (size : ℕ)
    → m.setting ≡ s
    → ReportFits s (finish_state s m.state) → ReportFits s (finish_session area_of finish_state m size)
unfolding finish_session
finish-fits area_of finish_state s m size e h =
    option-case (ReportFits s)
    (first_of (record { holds = m.failed; number = 9 } ∷ record { holds = misfits area_of m size; number = 12 } ∷ []))
    (λ _. subst (λ (x : Setting). ReportFits s (finish_state x m.state)) (sym e) h)
    (λ n _. tt)

-- what a drawing's history keeps, if there is a drawing
visible-fits : (s : Setting) (d : Option Drawing) → OnDrawing (SoundSix s) d → VisibleFits s d
visible-fits s none h = tt
visible-fits s (some d) h = h.0.fits

visible-follows : (s : Setting) (d : Option Drawing) → OnDrawing (SoundSix s) d → VisibleFollows d
visible-follows s none h = tt
visible-follows s (some d) h = follows-ink h

-- the pending command is carried out, whether that is refused or not
reading-fits : (s : Setting) (r : Reading) → SoundSix s r.drawing → ReportFits s (finish_reading s r)
unfolding finish_reading
reading-fits s r h = outcome_fits s r.parameters (settled s r) (settled-six s r h).0

-- ---- a payload session

module _ {s : Setting} (roomy : Roomy s) (o : Parameters) (p : Palette) (size : ℕ) (cs : List Ask) where
  -- the session that was opened, after any calls
  abbrev pub payload_after : Session Reading
  payload_after =
      (fed_all (λ m bs a. let x : Fed Reading ℕ = feed_payload m size a bs in (x.session, x.answer))
      (record { setting = s; length = size; state = opened o p; failed = false }) cs).state

  -- what every byte and stop keeps, its drawing has still
  six-after : (payload_after.setting ≡ s) × SoundSix s payload_after.state.drawing
  unfolding feed_payload opened
  six-after =
      calls-kept (λ r. r.drawing.area) payload_step rested (λ r. r.over) s (λ r. SoundSix s r.drawing) (step-six s) (rested-six s) size _ cs
      (refl, blank-six roomy p o)

  pub payload-visible : VisibleFits s (some payload_after.state.drawing)
  payload-visible = six-after.1.0.fits

  pub payload-visible-settled : VisibleFits s (some (settled s payload_after.state).drawing)
  payload-visible-settled = (settled-six s payload_after.state six-after.1).0.fits

  pub payload-extent-after : VisibleFollows (some payload_after.state.drawing)
  payload-extent-after = follows-ink six-after.1

  pub payload-extent-settled : VisibleFollows (some (settled s payload_after.state).drawing)
  payload-extent-settled = follows-ink (settled-six s payload_after.state six-after.1)

  -- whatever the length of the canvas that a finish is lent
  pub payload-reported : (lent : ℕ) → ReportFits s (finish_payload payload_after lent)
  unfolding finish_payload
  payload-reported lent =
      finish-fits (λ r. r.drawing.area) finish_reading s payload_after lent six-after.0
      (reading-fits s payload_after.state six-after.1)

-- ---- a DCS session

-- the drawing, if there is one, with the pending command carried out
phase-settled : (s : Setting) (t : Phase) → OnDrawing (SoundSix s) (drawing_of t) → OnDrawing (SoundSix s) (drawing_settled s t)
unfolding drawing_of drawing_settled reading_of
phase-settled s start h = tt
phase-settled s introduced h = tt
phase-settled s (header bs) h = tt
phase-settled s (within r) h = settled-six s r h
phase-settled s (after_escape r) h = settled-six s r h
phase-settled s (over e r) h = settled-six s r h

phase-reported : (s : Setting) (t : Phase) → OnDrawing (SoundSix s) (drawing_of t) → ReportFits s (finish_dcs s t)
unfolding finish_dcs drawing_of
phase-reported s start h = tt
phase-reported s introduced h = tt
phase-reported s (header bs) h = tt
phase-reported s (within r) h = tt
phase-reported s (after_escape r) h = tt
phase-reported s (over e r) h = reading-fits s r h

module _ {s : Setting} (roomy : Roomy s) (p : Palette) (size : ℕ) (cs : List Ask) where
  abbrev pub dcs_after : Session Phase
  dcs_after =
      (fed_all (λ m bs a. let x : Fed Phase _ = feed_dcs p m size a bs in (x.session, x.answer))
      (record { setting = s; length = size; state = start; failed = false }) cs).state

  phase-after : (dcs_after.setting ≡ s) × OnDrawing (SoundSix s) (drawing_of dcs_after.state)
  unfolding feed_dcs drawing_of
  phase-after =
      calls-kept (λ t. visible_area (drawing_of t)) (λ x. dcs_step x p) dcs_rested dcs_end s (λ t. OnDrawing (SoundSix s) (drawing_of t))
      (dcs-step-keeps s p (SoundSix s) (blank-six roomy p) (step-six s) (rested-six s))
      (dcs-rested-keeps s p (SoundSix s) (blank-six roomy p) (step-six s) (rested-six s)) size _ cs (refl, tt)

  phase-after-settled : OnDrawing (SoundSix s) (drawing_settled s dcs_after.state)
  phase-after-settled = phase-settled s dcs_after.state phase-after.1

  pub dcs-visible : VisibleFits s (drawing_of dcs_after.state)
  dcs-visible = visible-fits s (drawing_of dcs_after.state) phase-after.1

  pub dcs-visible-settled : VisibleFits s (drawing_settled s dcs_after.state)
  dcs-visible-settled = visible-fits s (drawing_settled s dcs_after.state) phase-after-settled

  pub dcs-extent-after : VisibleFollows (drawing_of dcs_after.state)
  dcs-extent-after = visible-follows s (drawing_of dcs_after.state) phase-after.1

  pub dcs-extent-settled : VisibleFollows (drawing_settled s dcs_after.state)
  dcs-extent-settled = visible-follows s (drawing_settled s dcs_after.state) phase-after-settled

  pub dcs-reported : (lent : ℕ) → ReportFits s (finish_dcs_session dcs_after lent)
  unfolding finish_dcs_session
  dcs-reported lent =
      finish-fits (λ t. visible_area (drawing_of t)) finish_dcs s dcs_after lent phase-after.0
      (phase-reported s dcs_after.state phase-after.1)

-- ---- reading all at once

module _ {s : Setting} (roomy : Roomy s) (p : Palette) where
  found-six : (f : Found) → OnDrawing (SoundSix s) (drawing_found s p f)
  unfolding drawing_found
  found-six (found o part) = payload-six roomy o p part
  found-six lacking = tt
  found-six (refused_with n) = tt

  -- with the pending command carried out; before it the payload's drawing fits too
  pub one-shot-visible : (bs : List ℕ) → VisibleFits s (drawing_found s p (find_payload bs))
  one-shot-visible bs = visible-fits s (drawing_found s p (find_payload bs)) (found-six (find_payload bs))

  pub one-shot-extent : (bs : List ℕ) → VisibleFollows (drawing_found s p (find_payload bs))
  one-shot-extent bs = visible-follows s (drawing_found s p (find_payload bs)) (found-six (find_payload bs))

  pub drawn-visible : (o : Parameters) (bs : List ℕ) → VisibleFits s (some (drawn_so_far s o p bs).drawing)
  unfolding drawn_so_far
  drawn-visible o bs = (draw_all-sound (ended_commands bs) (blank-sound roomy p o.p2)).fits

  pub one-shot-reported : (bs : List ℕ) → ReportFits s (one_shot s p bs)
  unfolding one_shot answer_of
  one-shot-reported bs = go (find_payload bs)
    where
      go : (f : Found) → ReportFits s (answer_of s p f)
      go (found o part) = outcome_fits s o (payload s o p part) (payload-sound roomy o p part)
      go lacking = tt
      go (refused_with n) = tt
