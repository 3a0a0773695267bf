-- A finish of the code is the definition's.
use Rattle.std.specs.Prelude.{◌≡◌, ℕ, Bool, false, eqb, List, length, Ok, Err}
use mathlib.Core.Path.{refl, sym, ap, ap₂, ◌∙◌, subst}
use Rattle.colours.specs.declared.Palette.{Palette}
use Rattle.colours.specs.Marks.{lasting, defined_count}
use Rattle.canvas.specs.Picture.{area_of}
use Rattle.canvas.proofs.Covers.{by-test}
use Rattle.frame.specs.declared.Frame.{Frame}
use Rattle.frame.specs.declared.Outcome.{Outcome}
use Rattle.frame.specs.declared.Outcome.TheVariants as outcomes
use Rattle.frame.specs.declared.Raster.{Raster}
use Rattle.frame.specs.declared.Refusal.TheVariants as refusals
use Rattle.frame.specs.Commands.{Ended, ended}
use Rattle.reference.specs.Step.{settled_step}
use Rattle.meaning.specs.Calls as calls
use Rattle.meaning.specs.Payload as meant
use Rattle.meaning.specs.Sessions.{Reading, settled, finish_reading}
use Rattle.agreement.specs.Same as same
use Rattle.meaning.proofs.FeedingLaws.{finished_as_lem}
use Rattle.agreement.proofs.Finish.{Finishing, reporting, declining, finish-agrees}
use Rattle.payload.specs.declared.Finished.{Finished}
use Rattle.payload.specs.Results.{Given, Verdict}
use Rattle.payload.specs.declared.Session.{Session}
use Rattle.payload.specs.declared.Settings.{Settings}
use Rattle.payload.specs.declared.Report.{Report}
use Rattle.payload.specs.Refusals.{is_failed, finish_judged}
use Rattle.payload.specs.Session.{ratio_for, reported_as, turned_away, pictured, finished_in, finished_live, finished_as, finished_by}
use Rattle.payload.proofs.RefusalLaws.{passes}
use Rattle.payload.specs.History.{Stands, Finishes, pictures, declines}
use Rattle.payload.specs.Meant.{given_meant, parameters_meant, ratio_meant, report_meant}
use Rattle.payload.proofs.Openings.{clear-meant}
use Rattle.payload.proofs.Judgements.{judged_meant, misfit, failed-test, finish-judged}

ratio-meant : (r : Raster) (g : Given) → ratio_meant (ratio_for r g) ≡ same.ratio_from (given_meant g) r.ratio
unfolding ratio_meant ratio_for same.ratio_from
ratio-meant r g = by-test (eqb r.ratio 0) (λ e. rw e refl) (λ e. rw e refl)

-- the report of the code means the definition's
report-meant : (f : Frame) (o : Settings) (p : Palette) → report_meant (reported_as f o (defined_count p)) (lasting p) ≡ same.report_from (parameters_meant o) f p
unfolding report_meant reported_as same.report_from parameters_meant
report-meant f o p =
    ap₂
    (λ (x : meant.Ratio) (t : Bool).
    record {
      size = area_of f.area.width f.area.height;
      ratio = x;
      clear = t;
      extent = area_of f.extent.right f.extent.bottom;
      defined = defined_count p;
      declared = area_of f.raster.width f.raster.height;
      held = f.held;
      palette = lasting p;
    })
    (ratio-meant f.raster o.p1)
    (clear-meant o.p2)

module _ {opening : List ℕ} {s : Session} {l : List ℕ} {m : calls.Session Reading} (k : Stands opening s l m) (owner : Palette) where
  -- the pending command's end
  last : Ended
  last = ended s.frame s.ground s.palette

  -- what is told then: the report of the frame and the palette that it leads to
  told : Finished
  unfolding last
  told =
      let report : Report = reported_as last.progress.frame s.settings (defined_count last.palette) in
      record { answer = Ok report; palette = lasting last.palette }

  -- a report: the drawing with the pending command carried out is on the canvas
  live-pictures : last.progress.outcome ≡ outcomes.Read
      → same.SameDrawing m.setting opening (settled m.setting m.state).drawing s.ground last.progress.frame last.palette
      (settled_step s.frame s.ground s.palette l).canvas
      → finished_live s owner l
      ≡ (told, calls.payload_shown_at_finish m opening)
  unfolding told last finished_live finished_in pictured settled_step calls.payload_shown_at_finish calls.shown same.canvas_of
  live-pictures e d =
      ap (λ (o : Outcome). finished_in o s owner last.progress.frame last.palette l) e
      ∙ ap
      (λ (c : List ℕ). (told, c))
      d.canvas

  live-finishes : {x : meant.Finished} → Finishing m.setting opening m.state s.ground x (settled_step s.frame s.ground s.palette l)
      → Finishes (calls.payload_shown_at_finish m opening) owner l (finished_live s owner l) x
  unfolding told last settled_step finished_live finished_in turned_away
  live-finishes (reporting {answer} e rep d) =
      subst (λ (y : Finished × List ℕ). Finishes (calls.payload_shown_at_finish m opening) owner l y (meant.finished answer)) (sym (live-pictures e d))
      (subst
      (λ (r : meant.Report).
      Finishes (calls.payload_shown_at_finish m opening) owner l
      (told, calls.payload_shown_at_finish m opening)
      (meant.finished r))
      (report-meant last.progress.frame s.settings last.palette
      ∙ ap (λ (o : meant.Parameters). same.report_from o last.progress.frame last.palette) (sym k.parameters)
      ∙ sym rep)
      pictures)
  live-finishes (declining {n = n} why number e kept d) =
      subst (λ (y : Finished × List ℕ). Finishes (calls.payload_shown_at_finish m opening) owner l y (meant.turned_down n))
      (ap (λ (o : Outcome). finished_in o s owner last.progress.frame last.palette l) (sym e))
      (subst
      (λ (i : ℕ).
      Finishes (calls.payload_shown_at_finish m opening) owner l (record { answer = Err why; palette = owner }, l)
      (meant.turned_down i))
      number
      (declines why))

-- a finish of the code is the definition's
pub finish-stands : {opening : List ℕ} {s : Session} {l : List ℕ} {m : calls.Session Reading} → Stands opening s l m → (owner : Palette)
    → Finishes (calls.payload_shown_at_finish m opening) owner l (finished_by s owner l) (calls.finish_payload m (length l))
unfolding finished_by finished_as turned_away judged_meant misfit finish_judged calls.finish_payload
finish-stands {opening} {s} {l} {m} k owner = go (finish_judged s (length l)) refl
  where
    go : (j : Verdict) → finish_judged s (length l) ≡ j
        → Finishes (calls.payload_shown_at_finish m opening) owner l (finished_as j s owner l) (calls.finish_payload m (length l))
    go (Ok tt) e =
        let live : m.failed ≡ false = sym (failed-test k (length l)) ∙ (passes refusals.Failed (is_failed s.life) _ e).0 in
        subst (Finishes (calls.payload_shown_at_finish m opening) owner l (finished_live s owner l))
        (sym (finished_as_lem (λ (r : Reading). r.drawing.area) finish_reading m (length l) (sym (finish-judged k (length l)) ∙ ap judged_meant e)))
        (live-finishes k owner (finish-agrees (record { drawing = k.drawing; begun = k.begun live })))
    go (Err n) e =
        subst (Finishes (calls.payload_shown_at_finish m opening) owner l (record { answer = Err n; palette = owner }, l))
        (sym (finished_as_lem (λ (r : Reading). r.drawing.area) finish_reading m (length l) (sym (finish-judged k (length l)) ∙ ap judged_meant e))) (declines n)
