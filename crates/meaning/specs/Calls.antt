-- Opening, feeding and finishing a session, with the order of their refusals (docs/RULES.md, sections 1, 5 and 6).
-- Said once for a payload and a DCS session: `S` is what the session reads with, `E` how it can end.
use Rattle.std.specs.Prelude.{ℕ, ◌*◌, ◌^◌, Bool, true, false, cond, not, ◌&&◌, ◌||◌, List, [], ◌∷◌, leb, eqb}
use Rattle.std.proofs.Math.Option.{Option, none, some, map}
use Rattle.std.proofs.Math.Dec.{ltb}
use Rattle.colours.specs.declared.Palette.{Palette}
use Rattle.canvas.specs.Picture.{Area, rows_of, fits, picture}
use Rattle.meaning.specs.Drawing.{Limits, Setting, Drawing}
use Rattle.meaning.specs.Payload.{Parameters, payload, Finished, turned_down}
use Rattle.meaning.specs.Reader.{Step, read_all, stopped, halted, refused_by, Run, call, Turn, Caller, ready, turns, proper}
use Rattle.meaning.specs.OneShot.{Found, found, lacking, refused_with, find_payload, part_of, one_shot}
use Rattle.meaning.specs.Sessions.{Reading, opened, settled, payload_step, rested, finish_reading, End, Phase, start, introduced, header, within, after_escape, over, dcs_step, dcs_rested, finish_dcs}

-- ---- opening

-- 1 to a largest
unfoldable pub ranges : ℕ → ℕ → Bool
ranges most n = leb 1 n && leb n most

-- rule 1.1: W and H are 1 to 1,000,000, R and M 1 to 10^12
unfoldable pub limits_hold : Limits → Bool
unfolding ranges
limits_hold l =
    ranges 1000000 l.width && (ranges 1000000 l.height && (ranges (10 ^ 12) l.repeats && ranges (10 ^ 12) l.pixels))

-- rule 1.3: a session on a canvas of so many bytes
unfoldable pub setting_for : Limits → ℕ → ℕ → Setting
setting_for l stride length = record { limits = l; stride = stride; rows = rows_of length stride }

-- rule 1.4: the stride is 1 to 1,000,000, and there is a whole row; else the opening is 11
unfoldable pub opens : Limits → ℕ → ℕ → Bool
unfolding limits_hold
opens l stride length = limits_hold l && (ranges 1000000 stride && leb 1 (rows_of length stride))

-- ---- the order of refusals

pub record Test : Type 0 where
  pub holds : Bool
  pub number : ℕ

-- the number of the first test that holds
unfoldable pub first_of : List Test → Option ℕ
first_of [] = none
first_of (t ∷ ts) = cond t.holds (some t.number) (first_of ts)

-- ---- sessions

pub record Session (S : Type 0) : Type 0 where
  pub setting : Setting
  pub length : ℕ
  pub state : S
  pub failed : Bool

-- the answer of an opening: a session, or 11
pub data Opened (S : Type 0) : Type 0 where
  is_open : Session S → Opened S
  not_opened : ℕ → Opened S

-- rule 1.4: a session where it may be opened, and else 11
unfoldable pub open_with : {S : Type 0} → Limits → ℕ → ℕ → S → Opened S
unfolding opens setting_for
open_with l stride length state =
    cond (opens l stride length)
    (is_open (record { setting = setting_for l stride length; length = length; state = state; failed = false }))
    (not_opened 11)

-- what an answered call says besides its counts
pub data Status (E : Type 0) : Type 0 where
  needs_more stopped_for_ink : Status E
  ended : E → Status E

-- rule 5.6: the answer of a feed: bytes consumed, ink and status, or a refusal's number and no counts
pub data Answer (E : Type 0) : Type 0 where
  told : ℕ → ℕ → Status E → Answer E
  refused : ℕ → Answer E

pub record Fed (S E : Type 0) : Type 0 where
  pub answer : Answer E
  pub session : Session S

-- rule 6.4: whether the end has come
unfoldable pub at_end : {E : Type 0} → Option E → Status E
at_end none = needs_more
at_end (some e) = ended e

-- the session after a call
unfoldable pub session_after : {S : Type 0} → Session S → S → Bool → Session S
session_after s t failed = record { setting = s.setting; length = s.length; state = t; failed = failed }

-- a call that is not refused tells its counts and a status
unfoldable pub tells : {S E : Type 0} → Session S → Run S → Status E → Fed S E
unfolding session_after
tells s r status = record { answer = told r.consumed r.ink status; session = session_after s r.state false }

-- rules 5.6, 6.4: a stopped call says so; any other says whether the end has come; a refusal fails the session
unfoldable pub answered : {S E : Type 0} → (S → Option E) → Session S → Run S → Fed S E
unfolding tells at_end
answered end s r =
    elim r.how [
      | read_all ↦ tells s r (at_end (end r.state))
      | stopped ↦ tells s r stopped_for_ink
      | halted ↦ tells s r (at_end (end r.state))
      | refused_by n ↦ record { answer = refused n; session = session_after s r.state true }
    ]

module _ {S : Type 0} (area_of : S → Area) where
  -- another length than at the opening, or a picture that does not fit
  unfoldable pub misfits : Session S → ℕ → Bool
  misfits s length = not (eqb length s.length) || not (fits s.setting.stride length (area_of s.state))

  -- rules 5.2, 6.2: feed: 9, 12, 13
  unfoldable pub feed_refusal : Session S → ℕ → ℕ → Option ℕ
  unfolding misfits first_of
  feed_refusal s length allowance =
      first_of
      (record { holds = s.failed; number = 9 }
      ∷ record { holds = misfits s length; number = 12 }
      ∷ record { holds = ltb allowance (6 * s.setting.limits.width); number = 13 }
      ∷ [])

  -- rule 5.3: finish: 9, 12, and then what the state says
  unfoldable pub finish_session : (Setting → S → Finished) → Session S → ℕ → Finished
  unfolding misfits first_of
  finish_session finish_state s length =
      elim (first_of (record { holds = s.failed; number = 9 } ∷ record { holds = misfits s length; number = 12 } ∷ [])) [
        | none ↦ finish_state s.setting s.state
        | some n ↦ turned_down n
      ]

  -- rules 5.2, 5.6: a call on a canvas of so many bytes, with an allowance; a refused one leaves the session as it is
  unfoldable pub feed : {E : Type 0} → (Setting → S → ℕ → Step S) → (Setting → S → S) → (S → Option E) → Session S → ℕ → ℕ → List ℕ
      → Fed S E
  unfolding feed_refusal answered
  feed step rest end s length allowance bs =
      elim (feed_refusal s length allowance) [
        | none ↦ answered end s (call (step s.setting) (rest s.setting) allowance s.state bs)
        | some n ↦ record { answer = refused n; session = s }
      ]

-- ---- the two kinds

-- rule 7.6: how a DCS sequence ended
unfoldable pub dcs_end : Phase → Option End
dcs_end start = none
dcs_end introduced = none
dcs_end (header bs) = none
dcs_end (within r) = none
dcs_end (after_escape r) = none
dcs_end (over e r) = some e

-- where the payload of a DCS sequence stands, once it has begun
unfoldable pub reading_of : Phase → Option Reading
reading_of start = none
reading_of introduced = none
reading_of (header bs) = none
reading_of (within r) = some r
reading_of (after_escape r) = some r
reading_of (over e r) = some r

-- what has been drawn
unfoldable pub drawing_of : Phase → Option Drawing
unfolding reading_of
drawing_of t = map (λ r. r.drawing) (reading_of t)

-- the same with the pending command carried out
unfoldable pub drawing_settled : Setting → Phase → Option Drawing
unfolding reading_of
drawing_settled s t = map (λ r. (settled s r).drawing) (reading_of t)

-- what finishing leaves: at an end the pending command is carried out, and before it, which is 8, it is not
unfoldable pub drawing_at_finish : Setting → Phase → Option Drawing
unfolding dcs_end drawing_of drawing_settled
drawing_at_finish s t = elim (dcs_end t) [ none ↦ drawing_of t | some e ↦ drawing_settled s t ]

-- the visible area; before the payload there is none
unfoldable pub visible_area : Option Drawing → Area
visible_area none = record { width = 0; height = 0 }
visible_area (some d) = d.area

-- rule 6.5: what the canvas shows: the drawing's picture on the bytes of the opening; before the payload nothing is written
unfoldable pub shown : ℕ → Option Drawing → List ℕ → List ℕ
shown stride none opening = opening
shown stride (some d) opening = picture stride d.area d.background d.strokes opening

-- Rules 1.7, 6.5. After an opening and after every call the canvas shows the drawing of the session's state; a payload session
-- opens with the blank drawing, which is pixel (0,0) in the background, and a DCS session has none before `q`. After a call that
-- read all its bytes the pending command is not yet carried out; after a stop (`call` of Reader) or an end it is.
unfoldable pub payload_shown : Session Reading → List ℕ → List ℕ
unfolding shown
payload_shown s opening = shown s.setting.stride (some s.state.drawing) opening

-- rules 1.7, 6.5: the same of a DCS session
unfoldable pub dcs_shown : Session Phase → List ℕ → List ℕ
unfolding drawing_of shown
dcs_shown s opening = shown s.setting.stride (drawing_of s.state) opening

-- rule 6.6: after finishing it shows the drawing with the pending command carried out; a finish that is 12 writes nothing
unfoldable pub payload_shown_at_finish : Session Reading → List ℕ → List ℕ
unfolding shown settled
payload_shown_at_finish s opening = shown s.setting.stride (some (settled s.setting s.state).drawing) opening

-- rule 6.6: the same of a DCS session; before its end, which is 8, it stays as it is
unfoldable pub dcs_shown_at_finish : Session Phase → List ℕ → List ℕ
unfolding shown drawing_at_finish
dcs_shown_at_finish s opening = shown s.setting.stride (drawing_at_finish s.setting s.state) opening

-- a one-shot's drawing is its payload's
unfoldable pub drawing_found : Setting → Palette → Found → Option Drawing
drawing_found s p (found o part) = some (payload s o p part).drawing
drawing_found s p lacking = none
drawing_found s p (refused_with n) = none

-- rule 8.4: after a one-shot the canvas shows that; where there is no payload, and on 11, nothing is written
unfoldable pub one_shot_shown : Limits → ℕ → ℕ → Palette → List ℕ → List ℕ → List ℕ
unfolding opens setting_for drawing_found shown
one_shot_shown l stride length p bs opening =
    cond (opens l stride length) (shown stride (drawing_found (setting_for l stride length) p (find_payload bs)) opening) opening

-- rule 1.5: a payload session is told P1 and P2
unfoldable pub open_payload : Limits → ℕ → ℕ → Parameters → Palette → Opened Reading
unfolding open_with
open_payload l stride length o p = open_with l stride length (opened o p)

-- rule 1.5: a DCS session finds them in its header
unfoldable pub open_dcs : Limits → ℕ → ℕ → Opened Phase
unfolding open_with
open_dcs l stride length = open_with l stride length start

unfoldable pub feed_payload : Session Reading → ℕ → ℕ → List ℕ → Fed Reading ℕ
unfolding feed
feed_payload = feed (λ r. r.drawing.area) payload_step rested (λ r. r.over)

unfoldable pub finish_payload : Session Reading → ℕ → Finished
unfolding finish_session
finish_payload = finish_session (λ r. r.drawing.area) finish_reading

unfoldable pub feed_dcs : Palette → Session Phase → ℕ → ℕ → List ℕ → Fed Phase End
unfolding feed
feed_dcs p = feed (λ t. visible_area (drawing_of t)) (λ s. dcs_step s p) dcs_rested dcs_end

unfoldable pub finish_dcs_session : Session Phase → ℕ → Finished
unfolding finish_session
finish_dcs_session = finish_session (λ t. visible_area (drawing_of t)) finish_dcs

-- rule 8.3: all at once: 11, then what the bytes give
unfoldable pub read_one_shot : Limits → ℕ → ℕ → Palette → List ℕ → Finished
unfolding opens setting_for
read_one_shot l stride length p bs = cond (opens l stride length) (one_shot (setting_for l stride length) p bs) (turned_down 11)

-- rule 8.2: the part that it hands back: on 11 an empty one
unfoldable pub part_handed_back : Limits → ℕ → ℕ → List ℕ → List ℕ
unfolding opens
part_handed_back l stride length bs = cond (opens l stride length) (part_of (find_payload bs)) []

-- ---- callers that present what was left unread (rule 6.7)

-- where a caller of a payload session stands after its turns, from the opening on
abbrev pub payload_turns : Setting → Parameters → Palette → List Turn → Caller Reading
payload_turns s o p ts = turns (payload_step s) (rested s) (ready (opened o p)) ts

-- each call of it may be made, with an allowance of at least A
abbrev pub proper_payload : Setting → Parameters → Palette → ℕ → List Turn → Bool
proper_payload s o p A ts = proper (payload_step s) (rested s) A (ready (opened o p)) ts

-- the same of a DCS session
abbrev pub dcs_turns : Setting → Palette → List Turn → Caller Phase
dcs_turns s p ts = turns (dcs_step s p) (dcs_rested s) (ready start) ts

-- and its calls
abbrev pub proper_dcs : Setting → Palette → ℕ → List Turn → Bool
proper_dcs s p A ts = proper (dcs_step s p) (dcs_rested s) A (ready start) ts
