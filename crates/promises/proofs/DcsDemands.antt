-- The three demands (`meaning/Demands`), of the DCS session's code. Each only chains what `dcs` and `meaning` have proved.
use Prim.Native.Nat.{ℕ, ◌*◌, ◌≤◌}
use mathlib.Core.Bool.{true, false}
use mathlib.Core.List.{List, []}
use mathlib.Core.Path.{◌≡◌, ap}
use lib.ListN.{length}
use Rattle.colours.specs.declared.Palette.{Palette}
use Rattle.frame.specs.declared.Limits.{Limits}
use Rattle.meaning.specs.Calls as calls
use Rattle.meaning.specs.Callers.{fed_all, Ask}
use Rattle.meaning.specs.Demands.{Whole, sequence_whole, DemandOne, DemandTwo, DemandThree}
use Rattle.meaning.specs.Reader.{is_all, is_refused, Turn, ready}
use Rattle.meaning.specs.Sessions.{End, Phase, start}
use Rattle.payload.specs.Refusals.{openable}
use Rattle.payload.specs.Meant.{limits_meant, setting_meant}
use Rattle.dcs.specs.Session.{opened_by}
use Rattle.dcs.specs.History.{held_at, Held, feed_held, feed_meant, proper_calls}
use Rattle.dcs.specs.Meant.{answer_meant}
use Rattle.dcs.proofs.Standing.{stands-shows}
use Rattle.dcs.proofs.Openings.{opened-stands}
use Rattle.dcs.proofs.History as history
use Rattle.dcs.proofs.SoFar as so_far
use Rattle.promises.specs.Readers.{dcs_feed, dcs_canvas, dcs_finish}
use Rattle.promises.proofs.Concluding.{finishes-concluded}
use Rattle.promises.proofs.Opened.{may-open}
use Rattle.promises.proofs.ToldPasts.{told-answers, told-stands}

module _ (l : Limits) (stride : ℕ) (p : Palette) (opening : List ℕ) where
  -- what the opening gives, and what the definition's gives
  abbrev pub held : Held
  held = ((opened_by l stride p (length opening)).session, opening)

  abbrev pub opened_meant : calls.Session Phase
  opened_meant = held_at l stride (length opening) start false

  -- what a stream means to it
  abbrev pub whole_of : List ℕ → Whole End
  whole_of = sequence_whole (setting_meant l stride (length opening)) p opening

  -- Demand 1: whatever the bytes, the allowances and the canvas, every call and the finish have a stated outcome; before `q` nothing is written.
  pub demand-one : calls.opens (limits_meant l) stride (length opening) ≡ true → (cs : List Ask)
      → DemandOne dcs_feed dcs_canvas dcs_finish (feed_meant p (length opening)) (λ m. calls.dcs_shown m opening)
      (λ m. calls.dcs_shown_at_finish m opening) (λ m. calls.finish_dcs_session m (length opening)) held opened_meant cs
  unfolding fed_all
  demand-one opens cs =
      let passes = history.history-stands l stride p opening (opened-stands l stride p opening (may-open l stride (length opening) opens)) cs in
      let stands = told-stands feed_held answer_meant held cs passes in
      record {
        answers = told-answers feed_held answer_meant held cs passes;
        canvas-shows = stands-shows l stride p opening stands;
        finishes = λ owner. finishes-concluded (history.history-finishes l stride p opening stands [] owner);
      }

  module _ (opens : calls.opens (limits_meant l) stride (length opening) ≡ true) (A : ℕ) (ts : List Turn) (enough : 6 * l.width ≤ A)
      (ok : proper_calls A (ready held) ts ≡ true) where
    may : openable l stride (length opening) ≡ true
    may = may-open l stride (length opening) opens

    -- Demand 2, however the stream is split.
    pub demand-two : DemandTwo dcs_feed dcs_canvas dcs_finish whole_of held ts
    unfolding sequence_whole setting_meant calls.setting_for is_all is_refused
    demand-two =
        record {
          refusal = λ going. history.whole-refusal l stride p opening may A ts enough ok going;
          status = λ t. history.whole-status l stride p opening may A ts enough ok t.0 t.1;
          consumed = λ t. history.whole-consumed l stride p opening may A ts enough ok t.0 t.1;
          canvas-read = λ going. history.whole-drawn l stride p opening may A ts enough ok going;
          canvas-stopped = λ e. so_far.so-far-shown l stride p opening may A ts enough ok (ap is_all e) (ap is_refused e);
          finishes = λ t owner. finishes-concluded (history.whole-concludes l stride p opening may A ts enough ok t.0 t.1 owner);
        }

    -- Demand 3; its outcome is demand 2's.
    pub demand-three : DemandThree dcs_feed whole_of l.width A held ts
    unfolding sequence_whole
    demand-three =
        record {
          calls = history.calls-bounded l stride p opening may A ts enough ok;
          ink = λ t. history.whole-ink l stride p opening may A ts enough ok t.0 t.1;
        }
