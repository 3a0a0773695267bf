-- No finish has a size to judge: after any calls of an accepted opening the size that it reports is at least one pixel and keeps within W, H, M,
-- the stride and the rows, and the extent that it reports lies inside the size. Of the four readers (promises/Readers) and of a reading all at
-- once. The area that a session holds keeps within them too.
use Rattle.std.specs.Prelude.{Ok, Err}
use Prim.Native.Nat.{ℕ, ◌≤◌}
use mathlib.Core.Bool.{true}
use mathlib.Core.List.{List, [], ◌∷◌}
use mathlib.Core.Option.{Option, none, some}
use mathlib.Core.Path.{◌≡◌, refl, sym, subst}
use lib.ListN.{length, replicate}
use Rattle.numbers.specs.declared.Parameters.{Parameters}
use Rattle.canvas.specs.Picture.{Area, area_of, rows_of}
use Rattle.colours.specs.declared.Palette.{Palette}
use Rattle.colours.specs.Palette.{standard, of_table}
use Rattle.frame.specs.Commands.{settled_as, Ended, ended_in, ended}
use Rattle.frame.specs.declared.Frame.{Frame}
use Rattle.frame.specs.declared.Limits.{Limits}
use Rattle.frame.specs.declared.Outcome.{Outcome}
use Rattle.frame.specs.declared.Outcome.TheVariants as outcomes
use Rattle.frame.specs.declared.VisibleArea.{VisibleArea}
use Rattle.meaning.specs.Calls as calls
use Rattle.meaning.specs.Callers.{fed_all, Ask}
use Rattle.meaning.specs.Sessions.{Reading, Phase}
use Rattle.meaning.specs.Drawing as drawing
use Rattle.meaning.specs.Drawing.{Setting}
use Rattle.meaning.specs.Sizes.{Roomy, Fits, ReportFits, SizesFit}
use Rattle.meaning.proofs.AreaLaws.{cond-case, opens-roomy, blank-sound}
use Rattle.meaning.proofs.SizeHistories.{payload-reported, dcs-reported, one-shot-reported}
use Rattle.frame.specs.declared.Refusal.TheVariants as refusals
use Rattle.reference.specs.Step as step
use Rattle.reference.proofs.StepLaws.{settle-room}
use Rattle.agreement.specs.Same as same
use Rattle.agreement.proofs.Settle.{same-fact}
use Rattle.payload.specs.Results.{Finishing, Verdict}
use Rattle.payload.specs.declared.Life.TheVariants as lives
use Rattle.payload.specs.declared.Session as session
use Rattle.payload.specs.declared.Settings.{Settings}
use Rattle.payload.specs.History as payload
use Rattle.payload.specs.Deferred.{no_settings}
use Rattle.payload.specs.Refusals.{is_failed, fitting, misfitting, finish_judged}
use Rattle.payload.specs.Meant.{limits_meant, setting_meant, parameters_meant, answer_meant}
use Rattle.payload.specs.Session as payload_coded
use Rattle.payload.proofs.History as history
use Rattle.payload.proofs.RefusalLaws.{passes, fitting-fits}
use Rattle.payload.proofs.Openings.{opened-stands}
use Rattle.dcs.specs.declared.Session as dcs_session
use Rattle.dcs.specs.declared.Phase as coded_phase
use Rattle.dcs.specs.declared.Phase.TheVariants as phases
use Rattle.dcs.specs.History as dcs
use Rattle.dcs.specs.Session as dcs_coded
use Rattle.dcs.specs.Meant as dcs_meant
use Rattle.dcs.proofs.History as dcs_history
use Rattle.dcs.proofs.Openings as dcs_openings
use Rattle.dcs.proofs.SessionRanges.{Bytes}
use Rattle.oneshot.specs.OneShot.{read_whole}
use Rattle.promises.specs.Readers.{concluded_by, payload_feed, payload_finish, payload_lend, dcs_feed, dcs_finish, dcs_lend, payload_memory_feed, payload_memory_finish, dcs_memory_feed, dcs_memory_finish, memory_lend}
use Rattle.promises.proofs.Alike.{GoodCalls, all-calls, sizes-alike}
use Rattle.promises.proofs.Demands.{held, opened_meant}
use Rattle.promises.proofs.DcsDemands as dcs_demands
use Rattle.promises.proofs.FailedHistories.{payload-kept-setting, payload-kept-length}
use Rattle.promises.proofs.LentCanvases.{payload-lent-finishes, dcs-lent-finishes}
use Rattle.promises.proofs.MemoryDemands.{given, owned, payload_in_memory, payload-memory-alike, dcs_in_memory, dcs-memory-alike}
use Rattle.promises.proofs.MemoryReaders.{AnyBytes, payload-in-memory, payload-lent-memory, dcs-in-memory, dcs-lent-memory}
use Rattle.promises.proofs.Opened.{may-open}
use Rattle.promises.proofs.ToldPasts.{told-stands}

-- what the opening of a session needs
roomy-opening : (l : Limits) (stride size : ℕ) → calls.opens (limits_meant l) stride size ≡ true → Roomy (setting_meant l stride size)
unfolding setting_meant
roomy-opening l stride size opens = opens-roomy (limits_meant l) stride size opens

-- a session that stands for the definition's holds its area
stands-fits : {opening : List ℕ} {s : session.Session} {c : List ℕ} {m : calls.Session Reading} → payload.Stands opening s c m
    → Fits m.setting (area_of s.frame.area.width s.frame.area.height)
unfolding same.frame_of same.code_area
stands-fits {m = m} k =
    same-fact (λ g f q c. Fits m.setting (area_of f.area.width f.area.height)) k.drawing k.drawing.sound.fits

-- ---- a payload session

module _ (l : Limits) (stride : ℕ) (o : Settings) (p : Palette) (opening : List ℕ)
    (opens : calls.opens (limits_meant l) stride (length opening) ≡ true) (cs : List Ask) where
  abbrev setting : Setting
  setting = setting_meant l stride (length opening)

  abbrev past : payload.PastMeant
  past = payload.fed_all_meant (opened_meant l stride o p opening) (length opening) cs

  abbrev now : payload.Held
  now = (fed_all payload_feed (held l stride o p opening) cs).state

  stands : payload.Stands opening now.0 now.1 past.state
  stands =
      told-stands (payload.feed_with payload_coded.fed_by) answer_meant (held l stride o p opening) cs
      (history.history-stands (opened-stands l stride o p opening (may-open l stride (length opening) opens)) cs)

  -- The size that a finish reports fits, and its extent lies inside it.
  pub payload-sizes-fit : SizesFit payload_feed payload_lend payload_finish setting (held l stride o p opening) cs
  unfolding concluded_by
  payload-sizes-fit lent owner =
      subst (ReportFits setting)
      (sym (payload-lent-finishes stands (payload-kept-length (length opening) (opened_meant l stride o p opening) cs) lent owner))
      (payload-reported (roomy-opening l stride (length opening) opens) (parameters_meant o) p (length opening) cs (length lent))

  -- The area that the session holds fits, its pending command not carried out yet.
  pub payload-held-fits : Fits setting (area_of now.0.frame.area.width now.0.frame.area.height)
  payload-held-fits =
      subst (λ (s : Setting). Fits s (area_of now.0.frame.area.width now.0.frame.area.height))
      (payload-kept-setting (length opening) (opened_meant l stride o p opening) cs) (stands-fits stands)

-- ---- a DCS session

module _ (l : Limits) (stride : ℕ) (p : Palette) (opening : List ℕ)
    (opens : calls.opens (limits_meant l) stride (length opening) ≡ true) (cs : List Ask) where
  abbrev first : dcs.Held
  first = dcs_demands.held l stride p opening

  dcs-stands : dcs.Stands l stride p opening (fed_all dcs_feed first cs).state.0 (fed_all dcs_feed first cs).state.1
      (dcs.fed_all_meant p (dcs_demands.opened_meant l stride p opening) (length opening) cs).state
  dcs-stands =
      told-stands dcs.feed_held dcs_meant.answer_meant first cs
      (dcs_history.history-stands l stride p opening (dcs_openings.opened-stands l stride p opening (may-open l stride (length opening) opens)) cs)

  -- The size that a finish reports fits, and its extent lies inside it.
  pub dcs-sizes-fit : SizesFit dcs_feed dcs_lend dcs_finish (setting_meant l stride (length opening)) first cs
  unfolding concluded_by
  dcs-sizes-fit lent owner =
      subst (ReportFits (setting_meant l stride (length opening)))
      (sym (dcs-lent-finishes l stride p opening dcs-stands lent owner))
      (dcs-reported (roomy-opening l stride (length opening) opens) p (length opening) cs (length lent))

  -- The area that the session holds fits; before `q` it is the first, a single pixel, and nothing is visible yet.
  pub dcs-held-fits : let area : VisibleArea = (fed_all dcs_feed first cs).state.0.payload.frame.area in
      Fits (setting_meant l stride (length opening)) (area_of area.width area.height)
  unfolding payload_coded.session_for drawing.blank
  dcs-held-fits = go dcs-stands
    where
      go : {s : dcs_session.Session} {c : List ℕ} {m : calls.Session Phase} → dcs.Stands l stride p opening s c m
          → Fits (setting_meant l stride (length opening)) (area_of s.payload.frame.area.width s.payload.frame.area.height)
      go (dcs.before h place) = (blank-sound (roomy-opening l stride (length opening) opens) p none).fits
      go (dcs.refused place) = (blank-sound (roomy-opening l stride (length opening) opens) p none).fits
      go (dcs.inside k going) = stands-fits k
      go (dcs.escaped k) = stands-fits k
      go (dcs.ended k) = stands-fits k

-- ---- both in the caller's memory

module _ (l : Limits) (stride p1 p2 : ℕ) (registers opening : List ℕ)
    (opens : calls.opens (limits_meant l) stride (length opening) ≡ true) (cs : List Ask) where
  pub payload-memory-sizes-fit : SizesFit payload_memory_feed memory_lend payload_memory_finish (setting_meant l stride (length opening))
      (payload_in_memory l stride p1 p2 registers opening) cs
  payload-memory-sizes-fit =
      sizes-alike payload-in-memory payload-lent-memory _ (payload-memory-alike l stride p1 p2 registers opening) cs (all-calls AnyBytes (λ bs. tt) cs)
      (payload-sizes-fit l stride (given l stride p1 p2 registers opening) (owned l stride p1 p2 registers opening) opening opens cs)

module _ (l : Limits) (stride : ℕ) (registers opening : List ℕ)
    (opens : calls.opens (limits_meant l) stride (length opening) ≡ true) (cs : List Ask) (good : GoodCalls Bytes cs) where
  pub dcs-memory-sizes-fit : SizesFit dcs_memory_feed memory_lend dcs_memory_finish (setting_meant l stride (length opening))
      (dcs_in_memory l stride registers opening)
      cs
  dcs-memory-sizes-fit =
      sizes-alike dcs-in-memory dcs-lent-memory _ (dcs-memory-alike l stride registers opening) cs good
      (dcs-sizes-fit l stride (of_table registers) opening opens cs)

-- ---- reading all at once

-- The size that it reports fits, and its extent lies inside it; where it cannot be opened it reports nothing.
pub read_fits : (l : drawing.Limits) (stride : ℕ) (p : Palette) (canvas bytes : List ℕ)
    → ReportFits (calls.setting_for l stride (length canvas)) (read_whole l stride p canvas bytes).answer
unfolding read_whole calls.read_one_shot
read_fits l stride p canvas bytes =
    cond-case (ReportFits (calls.setting_for l stride (length canvas))) (calls.opens l stride (length canvas))
    (λ opens. one-shot-reported (opens-roomy l stride (length canvas) opens) p bytes)
    (λ _. tt)

-- ---- any session, whatever it holds

-- a size that is reported has room on a canvas of so many bytes
abbrev pub OnCanvas : ℕ → ℕ → Finishing → Type 0
OnCanvas stride size (Ok r) = (r.width ≤ stride) × (r.height ≤ rows_of size stride)
OnCanvas stride size (Err n) = Unit {0}

module _ (s : session.Session) (owner : Palette) (canvas : List ℕ) where
  outcome-on-canvas : (o : Outcome) (last : Frame) (p : Palette)
      → (last.area.width ≤ s.ground.stride) × (last.area.height ≤ rows_of (length canvas) s.ground.stride)
      → OnCanvas s.ground.stride (length canvas) (payload_coded.finished_in o s owner last p canvas).0.answer
  unfolding payload_coded.finished_in payload_coded.pictured payload_coded.reported_as payload_coded.turned_away
  outcome-on-canvas outcomes.Read last p room = room
  outcome-on-canvas outcomes.Stopped last p room = room
  outcome-on-canvas (outcomes.Ended b) last p room = room
  outcome-on-canvas (outcomes.Refused n) last p room = tt

  -- what is not refused has room for its area
  judged-fits : finish_judged s (length canvas) ≡ Ok tt → step.Fits s.frame s.ground (length canvas)
  unfolding finish_judged
  judged-fits e =
      fitting-fits s (length canvas)
      (passes refusals.Canvas (misfitting s (length canvas)) (Ok tt) (passes refusals.Failed (is_failed s.life) _ e).1).0

  -- A damaged session too reports a size that lies on the canvas, since 12 is judged before, and 7 of what the pending command asks.
  pub payload-reports-on-canvas : OnCanvas s.ground.stride (length canvas) (payload_coded.finished_by s owner canvas).0.answer
  unfolding payload_coded.finished_by payload_coded.finished_as payload_coded.finished_live payload_coded.turned_away
  payload-reports-on-canvas = go (finish_judged s (length canvas)) refl
    where
      last : Ended
      last = ended s.frame s.ground s.palette

      go : (j : Verdict) → finish_judged s (length canvas) ≡ j
          → OnCanvas s.ground.stride (length canvas) (payload_coded.finished_as j s owner canvas).0.answer
      go (Ok tt) e =
          let room = settle-room {s = last.progress} {q = last.palette} s.frame s.ground s.palette (length canvas) (judged-fits e) refl in
          outcome-on-canvas last.progress.outcome last.progress.frame last.palette (room.1, room.3)
      go (Err n) e = tt

  -- A DCS session's finish is its payload's, or refused.
  pub dcs-reports-on-canvas : (header : Parameters) (phase : coded_phase.Phase)
      → OnCanvas s.ground.stride (length canvas) (dcs_coded.finished_by (dcs_coded.session_of s header phase) owner canvas).0.answer
  unfolding dcs_coded.finished_by dcs_coded.finished_as dcs_coded.finished_in payload_coded.turned_away
  dcs-reports-on-canvas header phase = go (finish_judged s (length canvas))
    where
      at : (t : coded_phase.Phase)
          → OnCanvas s.ground.stride (length canvas) (dcs_coded.finished_in t (dcs_coded.session_of s header phase) owner canvas).0.answer
      at (phases.Before t) = tt
      at phases.Within = tt
      at phases.Escaped = tt
      at (phases.Over e) = payload-reports-on-canvas

      go : (j : Verdict) → OnCanvas s.ground.stride (length canvas) (dcs_coded.finished_as j (dcs_coded.session_of s header phase) owner canvas).0.answer
      go (Ok tt) = at phase
      go (Err n) = tt

-- The smallest such session: eight columns have been read under W 8, and in memory W is then lowered to 4.
pub lowered : session.Session
lowered =
    let blank : Frame = payload_coded.blank_frame standard in
    record {
      ground = record {
        limits = record { width = 4; height = 12; repeats = 1024; pixels = 768 };
        stride = 8;
        rows = 12;
        background = 0 ∷ 0 ∷ 0 ∷ 255 ∷ [];
      };
      length = 384;
      settings = no_settings;
      life = lives.Live;
      frame =
          record {
            pen = blank.pen;
            area = record { width = 8; height = 6 };
            extent = record { right = 8; bottom = 6 };
            raster = blank.raster;
            held = blank.held;
            command = blank.command;
          };
      palette = standard;
    }

-- the size that a finish reports
pub size_told : Finishing → Option Area
size_told (Ok r) = some (area_of r.width r.height)
size_told (Err n) = none

-- Its finish reports all eight.
pub lowered-limit : (owner : Palette) → size_told (payload_coded.finished_by lowered owner (replicate 384 0)).0.answer ≡ some (area_of 8 6)
unfolding lowered size_told payload_coded.blank_frame payload_coded.finished_by payload_coded.finished_as finish_judged is_failed misfitting fitting
    payload_coded.finished_live ended ended_in settled_as payload_coded.finished_in payload_coded.pictured payload_coded.reported_as rows_of
lowered-limit owner = refl
