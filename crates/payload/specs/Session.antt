-- The whole outcome of each function over a payload session: its answer, the session, the palette and every byte of the canvas.
use Rattle.std.specs.Prelude.{ℕ, Bool, false, cond, List, [], ◌∷◌, length, ◌==◌, Ok, Err, Some, None}
use Rattle.numbers.specs.Step as numbers
use Rattle.colours.specs.declared.Palette.{Palette}
use Rattle.colours.specs.Palette.{of_table, register_of}
use Rattle.colours.specs.Marks.{lasting, defined_count}
use Rattle.canvas.specs.Picture.{rows_of, span}
use Rattle.canvas.specs.Paint.{painted}
use Rattle.frame.specs.declared.Frame.{Frame}
use Rattle.frame.specs.declared.Ground.{Ground}
use Rattle.frame.specs.declared.Kind.{Kind}
use Rattle.frame.specs.declared.Kind.TheVariants as kinds
use Rattle.frame.specs.declared.Limits.{Limits}
use Rattle.frame.specs.declared.Outcome.{Outcome}
use Rattle.frame.specs.declared.Outcome.TheVariants as outcomes
use Rattle.frame.specs.declared.Progress.{Progress}
use Rattle.frame.specs.declared.Raster.{Raster}
use Rattle.frame.specs.declared.Refusal.{Refusal}
use Rattle.frame.specs.declared.Refusal.TheVariants as refusals
use Rattle.frame.specs.Commands.{unread_as, Ended, ended}
use Rattle.reference.specs.Step.{Reached, area_grown, settled_step}
use Rattle.reference.specs.Feed.{feed_from}
use Rattle.payload.specs.Results.{Answer, Fed, Given, Opened, Opening, Verdict}
use Rattle.payload.specs.declared.Answer.TheVariants as answers
use Rattle.payload.specs.declared.Finished.{Finished}
use Rattle.payload.specs.declared.Life.{Life}
use Rattle.payload.specs.declared.Life.TheVariants as lives
use Rattle.payload.specs.declared.Ratio.{Ratio}
use Rattle.payload.specs.declared.Ratio.TheVariants as ratios
use Rattle.payload.specs.declared.Report.{Report}
use Rattle.payload.specs.declared.Session.{Session}
use Rattle.payload.specs.declared.Settings.{Settings}
use Rattle.payload.specs.Refusals.{openable, feed_judged, finish_judged}

-- ---- opening

-- the background is transparent exactly when P2 is 1
unfoldable pub clear_for : Given → Bool
clear_for None = false
clear_for (Some n) = n == 1

unfoldable pub background_for : Palette → Given → List ℕ
unfolding clear_for
background_for p p2 = cond (clear_for p2) (0 ∷ 0 ∷ 0 ∷ 0 ∷ []) (register_of p 0)

-- the frame before the first byte
unfoldable pub blank_frame : Palette → Frame
blank_frame p =
    record {
      pen = record { column = 0; row = 0; repeat = 1; register = 0; color = register_of p 0 };
      area = record { width = 1; height = 1 };
      extent = record { right = 0; bottom = 0 };
      raster = record { ratio = 0; width = 0; height = 0 };
      held = 0;
      command = record { kind = kinds.Data; number = 0; parameters = numbers.opened 0 };
    }

unfoldable pub ground_for : Limits → ℕ → ℕ → List ℕ → Ground
ground_for l stride size background = record { limits = l; stride = stride; rows = rows_of size stride; background = background }

unfoldable pub session_for : Limits → ℕ → ℕ → Settings → Palette → Life → Session
unfolding background_for blank_frame ground_for
session_for l stride size o p life =
    record {
      ground = ground_for l stride size (background_for p o.p2);
      length = size;
      settings = o;
      life = life;
      frame = blank_frame p;
      palette = p;
    }

-- by whether it may open
unfoldable pub opening_for : Bool → Opening
opening_for may = cond may (Ok tt) (Err refusals.Opening)

unfoldable pub first_life : Bool → Life
first_life may = cond may lives.Live lives.Failed

unfoldable pub opened_if : Bool → Limits → ℕ → ℕ → Settings → Palette → Opened
unfolding opening_for first_life session_for
opened_if may l stride size o p = record { answer = opening_for may; session = session_for l stride size o p (first_life may) }

unfoldable pub first_painted : Bool → List ℕ → List ℕ → List ℕ
first_painted due px canvas = cond due (painted (span 0 1) px canvas) canvas

-- with the registers that it is to start from: pixel (0, 0) gets the background, or nothing is written
unfoldable pub opened_on : Limits → ℕ → Settings → Palette → List ℕ → Opened × List ℕ
unfolding session_for
opened_on l stride o p canvas =
    cond (openable l stride (length canvas))
    (record { answer = Ok tt; session = session_for l stride (length canvas) o p lives.Live }, painted (span 0 1) (background_for p o.p2) canvas)
    (record { answer = Err refusals.Opening; session = session_for l stride (length canvas) o p lives.Failed }, canvas)

-- with its owner's palette, of which it has a copy: colours and marks
unfoldable pub opened_by : Limits → ℕ → Settings → Palette → List ℕ → Opened × List ℕ
unfolding opened_on
opened_by l stride o owner canvas = opened_on l stride o (lasting owner) canvas

-- ---- feeding

unfoldable pub session_with : Session → Life → Frame → Palette → Session
session_with s life f p =
    let ground : Ground = s.ground in
    record { ground = ground; length = s.length; settings = s.settings; life = life; frame = f; palette = p }

-- what reading came to, as an answer
unfoldable pub answer_of : Outcome → ℕ → ℕ → Answer
answer_of outcomes.Read n i = Ok (answers.More n i)
answer_of outcomes.Stopped n i = Ok (answers.Stopped n i)
answer_of (outcomes.Ended b) n i = Ok (answers.Ended n i b)
answer_of (outcomes.Refused r) n i = Err r

-- the session's life then: a refusal fails it
unfoldable pub life_after : Outcome → Life
life_after outcomes.Read = lives.Live
life_after outcomes.Stopped = lives.Live
life_after (outcomes.Ended b) = lives.Ended b
life_after (outcomes.Refused r) = lives.Failed

-- what reading came to: its answer, and the session after it
unfoldable pub answered_in : Outcome → Session → Progress → Palette → Fed
unfolding session_with answer_of life_after
answered_in o s r p =
    record { answer = answer_of o r.consumed r.ink; session = session_with s (life_after o) r.frame p }

unfoldable pub answered_by : Session → Progress → Palette → Fed
unfolding answered_in
answered_by s r p = answered_in r.outcome s r p

-- the bytes are read
unfoldable pub fed_live : Session → List ℕ → List ℕ → ℕ → Fed × List ℕ
unfolding answered_by
fed_live s canvas bytes allowance =
    let r : Reached = feed_from s.ground allowance bytes 0 0 s.frame s.palette canvas in
    (answered_by s r.progress r.palette, r.canvas)

-- an ended session repeats its end
unfoldable pub fed_in : Life → Session → List ℕ → List ℕ → ℕ → Fed × List ℕ
unfolding fed_live
fed_in lives.Live s canvas bytes allowance = fed_live s canvas bytes allowance
fed_in (lives.Ended b) s canvas bytes allowance = (record { answer = Ok (answers.Ended 0 0 b); session = s }, canvas)
fed_in lives.Failed s canvas bytes allowance = fed_live s canvas bytes allowance

-- 9, 12, 13 leave all as it is
unfoldable pub fed_as : Verdict → Session → List ℕ → List ℕ → ℕ → Fed × List ℕ
unfolding fed_in
fed_as (Ok tt) s canvas bytes allowance = fed_in s.life s canvas bytes allowance
fed_as (Err n) s canvas bytes allowance = (record { answer = Err n; session = s }, canvas)

unfoldable pub fed_by : Session → List ℕ → List ℕ → ℕ → Fed × List ℕ
unfolding fed_as
fed_by s canvas bytes allowance = fed_as (feed_judged s (length canvas) allowance) s canvas bytes allowance

-- ---- finishing

unfoldable pub ratio_for : Raster → Given → Ratio
ratio_for r p1 = cond (r.ratio == 0) (ratios.LeftToP1 p1) (ratios.Raster r.ratio)

unfoldable pub reported_as : Frame → Settings → ℕ → Report
unfolding ratio_for clear_for
reported_as f o defined =
    record {
      width = f.area.width;
      height = f.area.height;
      right = f.extent.right;
      bottom = f.extent.bottom;
      ratio = ratio_for f.raster o.p1;
      transparent = clear_for o.p2;
      defined = defined;
      declared_width = f.raster.width;
      declared_height = f.raster.height;
      held = f.held;
    }

-- where a call led: its answer, the palette and the canvas
abbrev pub reached_by : Progress → Palette → List ℕ → Reached
reached_by r p canvas = record { progress = r; palette = p; canvas = canvas }

-- the palette lent as a table
abbrev pub reached_on : Progress → List ℕ → List ℕ → Reached
reached_on r colors canvas = reached_by r (of_table colors) canvas

-- the byte 1B ends the pending command, and then the payload
unfoldable pub then_ended : Outcome → Outcome
then_ended outcomes.Read = outcomes.Ended 0x1B
then_ended outcomes.Stopped = outcomes.Stopped
then_ended (outcomes.Ended b) = outcomes.Ended b
then_ended (outcomes.Refused n) = outcomes.Refused n

unfoldable pub closed_by : Reached → Reached
unfolding then_ended
closed_by t = reached_by (unread_as t.progress.frame (then_ended t.progress.outcome)) t.palette t.canvas

-- the pending command carried out; where none is pending all is as it was
unfoldable pub carried_out_in : Kind → Frame → Ground → Palette → List ℕ → Reached
unfolding closed_by
carried_out_in kinds.Data f g p canvas = reached_by (unread_as f outcomes.Read) p canvas
carried_out_in kinds.Repeat f g p canvas = closed_by (settled_step f g p canvas)
carried_out_in kinds.Color f g p canvas = closed_by (settled_step f g p canvas)
carried_out_in kinds.Raster f g p canvas = closed_by (settled_step f g p canvas)

unfoldable pub carried_out : Frame → Ground → Palette → List ℕ → Reached
unfolding carried_out_in
carried_out f g p canvas = carried_out_in f.command.kind f g p canvas

unfoldable pub turned_away : Palette → Refusal → List ℕ → Finished × List ℕ
turned_away owner n canvas = (record { answer = Err n; palette = owner }, canvas)

-- the picture: the area that the pending command grew gets the background, and the palette's colours and marks are the owner's from now on
unfoldable pub pictured : Session → Frame → Palette → List ℕ → Finished × List ℕ
unfolding reported_as
pictured s last p canvas = (
  record { answer = Ok (reported_as last s.settings (defined_count p)); palette = lasting p },
  area_grown s.frame s.ground last.area.width last.area.height canvas,
)

-- the pending command's refusal
unfoldable pub finished_in : Outcome → Session → Palette → Frame → Palette → List ℕ → Finished × List ℕ
unfolding turned_away pictured
finished_in outcomes.Read s owner last p canvas = pictured s last p canvas
finished_in outcomes.Stopped s owner last p canvas = pictured s last p canvas
finished_in (outcomes.Ended b) s owner last p canvas = pictured s last p canvas
finished_in (outcomes.Refused n) s owner last p canvas = turned_away owner n canvas

unfoldable pub finished_live : Session → Palette → List ℕ → Finished × List ℕ
unfolding finished_in
finished_live s owner canvas =
    let e : Ended = ended s.frame s.ground s.palette in
    finished_in e.progress.outcome s owner e.progress.frame e.palette canvas

unfoldable pub finished_as : Verdict → Session → Palette → List ℕ → Finished × List ℕ
unfolding finished_live turned_away
finished_as (Ok tt) s owner canvas = finished_live s owner canvas
finished_as (Err n) s owner canvas = turned_away owner n canvas

-- 9, 12, the pending command's refusal
unfoldable pub finished_by : Session → Palette → List ℕ → Finished × List ℕ
unfolding finished_as
finished_by s owner canvas = finished_as (finish_judged s (length canvas)) s owner canvas
