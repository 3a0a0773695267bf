-- The three demands (`meaning/Demands`), of the payload session's code. Each only chains what `payload` and `meaning` have proved.
use Prim.Native.Nat.{ℕ, ◌*◌, ◌≤◌}
use mathlib.Core.Bool.{true, false}
use mathlib.Core.List.{List, []}
use mathlib.Core.Path.{◌≡◌, ap}
use lib.ListN.{length}
use Rattle.colours.specs.declared.Palette.{Palette}
use Rattle.frame.specs.declared.Limits.{Limits}
use Rattle.meaning.specs.Calls as calls
use Rattle.meaning.specs.Callers.{fed_all, Ask}
use Rattle.meaning.specs.Demands.{Whole, payload_whole, DemandOne, DemandTwo, DemandThree}
use Rattle.meaning.specs.Reader.{is_all, is_refused, Turn, ready}
use Rattle.meaning.specs.Sessions.{Reading, opened}
use Rattle.payload.specs.declared.Settings.{Settings}
use Rattle.payload.specs.Refusals.{openable}
use Rattle.payload.specs.Session.{opened_by, fed_by}
use Rattle.payload.specs.History.{Held, feed_with, feed_meant, proper_calls}
use Rattle.payload.specs.Meant.{parameters_meant, limits_meant, setting_meant, answer_meant}
use Rattle.payload.proofs.Openings.{opened-stands}
use Rattle.payload.proofs.Judgements.{stands-shows}
use Rattle.payload.proofs.History as history
use Rattle.promises.specs.Readers.{payload_feed, payload_canvas, payload_finish}
use Rattle.promises.proofs.Concluding.{finishes-concluded}
use Rattle.promises.proofs.Opened.{may-open}
use Rattle.promises.proofs.ToldPasts.{told-answers, told-stands}

module _ (l : Limits) (stride : ℕ) (o : Settings) (p : Palette) (opening : List ℕ) where
  -- what the opening gives, and what the definition's gives
  abbrev pub held : Held
  held = ((opened_by l stride o p opening).0.session, (opened_by l stride o p opening).1)

  abbrev pub opened_meant : calls.Session Reading
  opened_meant = record { setting = setting_meant l stride (length opening); length = length opening; state = opened (parameters_meant o) p; failed = false }

  -- what a stream means to it
  abbrev pub whole_of : List ℕ → Whole ℕ
  whole_of = payload_whole (setting_meant l stride (length opening)) (parameters_meant o) p opening

  -- Demand 1: whatever the bytes, the allowances and the canvas, every call and the finish have a stated outcome.
  pub demand-one : calls.opens (limits_meant l) stride (length opening) ≡ true → (cs : List Ask)
      → DemandOne payload_feed payload_canvas payload_finish (feed_meant (length opening)) (λ m. calls.payload_shown m opening)
      (λ m. calls.payload_shown_at_finish m opening) (λ m. calls.finish_payload m (length opening)) held opened_meant cs
  unfolding fed_all
  demand-one opens cs =
      let passes = history.history-stands (opened-stands l stride o p opening (may-open l stride (length opening) opens)) cs in
      let stands = told-stands (feed_with fed_by) answer_meant held cs passes in
      record {
        answers = told-answers (feed_with fed_by) answer_meant held cs passes;
        canvas-shows = stands-shows stands;
        finishes = λ owner. finishes-concluded (history.history-finishes stands [] owner);
      }

  module _ (opens : calls.opens (limits_meant l) stride (length opening) ≡ true) (A : ℕ) (ts : List Turn) (enough : 6 * l.width ≤ A)
      (ok : proper_calls A (ready held) ts ≡ true) where
    may : openable l stride (length opening) ≡ true
    may = may-open l stride (length opening) opens

    -- Demand 2, however the stream is split.
    pub demand-two : DemandTwo payload_feed payload_canvas payload_finish whole_of held ts
    unfolding payload_whole setting_meant calls.setting_for is_all is_refused
    demand-two =
        record {
          refusal = λ going. history.whole-refusal l stride o p opening may A ts enough ok going;
          status = λ t. history.whole-status l stride o p opening may A ts enough ok t.0 t.1;
          consumed = λ t. history.whole-consumed l stride o p opening may A ts enough ok t.0 t.1;
          canvas-read = λ going. history.whole-drawn l stride o p opening may A ts enough ok going;
          canvas-stopped = λ e. history.so-far-shown l stride o p opening may A ts enough ok (ap is_all e) (ap is_refused e);
          finishes = λ t owner. finishes-concluded (history.whole-finishes l stride o p opening may A ts enough ok t.0 t.1 owner);
        }

    -- Demand 3; its outcome is demand 2's.
    pub demand-three : DemandThree payload_feed whole_of l.width A held ts
    unfolding payload_whole
    demand-three =
        record {
          calls = history.calls-bounded l stride o p opening may A ts enough ok;
          ink = λ t. history.whole-ink l stride o p opening may A ts enough ok t.0 t.1;
        }
