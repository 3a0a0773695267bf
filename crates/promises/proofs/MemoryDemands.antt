-- The three demands (`meaning/Demands`) for callers in C and Rust, of a session that lies in the caller's memory as 48 numbers and 256
-- registers. Such a session is fed, canvas and answers alike, as the one by value is, and so keeps what that keeps.
use Prim.Native.Nat.{ℕ, ◌*◌, ◌≤◌}
use mathlib.Core.Bool.{true, cond}
use mathlib.Core.List.{List}
use mathlib.Core.Path.{◌≡◌, refl, sym, ◌∙◌}
use lib.ListN.{length}
use Rattle.colours.specs.declared.Palette.{Palette}
use Rattle.colours.specs.Palette.{of_table}
use Rattle.frame.specs.declared.Limits.{Limits}
use Rattle.meaning.specs.Calls as calls
use Rattle.meaning.specs.Callers.{proper_calls, Ask}
use Rattle.meaning.specs.Demands.{DemandOne, DemandTwo, DemandThree, FeedRefusals, FinishRefusals, FinishedEarly}
use Rattle.meaning.specs.Reader.{Turn, ready}
use Rattle.payload.specs.declared.Settings.{Settings}
use Rattle.payload.specs.Codes.{given_from}
use Rattle.payload.specs.History as payload
use Rattle.payload.specs.Meant.{limits_meant}
use Rattle.dcs.specs.History as dcs
use Rattle.dcs.proofs.SessionRanges.{Bytes}
use Rattle.owlgantry.specs.Sessions.{payload_opened_as, payload_opened, dcs_opened_as, dcs_opened}
use Rattle.owlgantry.proofs.SessionLaws.{payload-opens, dcs-opens}
use Rattle.promises.specs.Readers.{payload_feed, dcs_feed, Memory, payload_memory_feed, payload_memory_finish, dcs_memory_feed, dcs_memory_finish, memory_canvas, memory_lend}
use Rattle.promises.proofs.Alike.{GoodCalls, GoodPieces, all-calls, all-pieces, ready-alike, proper-alike, one_alike, two-alike, three-alike, feeds-alike, finish-alike, early-alike}
use Rattle.promises.proofs.Demands as by_value
use Rattle.promises.proofs.DcsDemands as dcs_by_value
use Rattle.promises.proofs.DcsFirstRefusals as dcs_first
use Rattle.promises.proofs.FirstRefusals as first
use Rattle.promises.proofs.Opened.{opening-stated, dcs-opening-stated}
use Rattle.promises.proofs.MemoryReaders.{PayloadAlike, AnyBytes, payload-in-memory, payload-lent-memory, DcsAlike, dcs-in-memory, dcs-lent-memory}

-- ---- a payload session

module _ (l : Limits) (stride p1 p2 : ℕ) (registers opening : List ℕ) where
  -- the parameters and the palette that it is opened with
  abbrev pub given : Settings
  given = record { p1 = given_from p1; p2 = given_from p2 }

  abbrev pub owned : Palette
  owned = of_table registers

  -- the memory and the canvas after an opening
  abbrev pub payload_in_memory : Memory
  payload_in_memory =
      let x : ℕ × List ℕ × List ℕ × List ℕ = payload_opened l stride p1 p2 registers opening in
      record { numbers = x.1; registers = x.2; canvas = x.3 }

  -- Demand 1, the opening: 0 where it may be opened, and else 11.
  pub payload-memory-opens : (payload_opened l stride p1 p2 registers opening).0 ≡ cond (calls.opens (limits_meant l) stride (length opening)) 0 11
  unfolding payload_opened payload_opened_as
  payload-memory-opens = opening-stated l stride given owned opening

  pub payload-memory-alike : PayloadAlike (by_value.held l stride given owned opening) payload_in_memory
  unfolding payload_opened payload_opened_as
  payload-memory-alike = (payload-opens l stride p1 p2 registers opening, refl)

  module _ (opens : calls.opens (limits_meant l) stride (length opening) ≡ true) where
    -- Demand 1.
    pub payload-demand-one : (cs : List Ask)
        → DemandOne payload_memory_feed memory_canvas payload_memory_finish (payload.feed_meant (length opening)) (λ m. calls.payload_shown m opening)
        (λ m. calls.payload_shown_at_finish m opening) (λ m. calls.finish_payload m (length opening)) payload_in_memory
        (by_value.opened_meant l stride given owned opening) cs
    payload-demand-one cs =
        one_alike payload-in-memory _ _ _ _ payload-memory-alike _ cs (all-calls AnyBytes (λ bs. tt) cs)
        (by_value.demand-one l stride given owned opening opens cs)

    module _ (cs : List Ask) (lent : List ℕ) where
      -- The refusals that come first.
      pub payload-feed-first : (bs : List ℕ) (a : ℕ) → FeedRefusals payload_memory_feed memory_lend (length opening) payload_in_memory cs lent l.width bs a
      payload-feed-first bs a =
          feeds-alike payload-in-memory payload-lent-memory (length opening) payload-memory-alike cs (all-calls AnyBytes (λ bs. tt) cs) lent l.width bs tt a
          (first.feed-first l stride given owned opening opens cs lent bs a)

      pub payload-finish-first : (owner : Palette)
          → FinishRefusals payload_memory_feed memory_lend (length opening) payload_in_memory cs lent payload_memory_finish owner
      payload-finish-first owner =
          finish-alike payload-in-memory payload-lent-memory (length opening) payload-memory-alike cs (all-calls AnyBytes (λ bs. tt) cs) lent owner
          (first.finish-first l stride given owned opening opens cs lent owner)

    module _ (A : ℕ) (ts : List Turn) (enough : 6 * l.width ≤ A) (ok : proper_calls payload_memory_feed A (ready payload_in_memory) ts ≡ true) where
      -- the same calls may be made by value
      may-be-made : proper_calls payload_feed A (ready (by_value.held l stride given owned opening)) ts ≡ true
      may-be-made = sym (proper-alike payload-in-memory A (ready-alike payload-in-memory payload-memory-alike) ts (all-pieces AnyBytes (λ bs. tt) ts)) ∙ ok

      -- Demand 2.
      pub payload-demand-two : DemandTwo payload_memory_feed memory_canvas payload_memory_finish (by_value.whole_of l stride given owned opening) payload_in_memory ts
      payload-demand-two =
          two-alike payload-in-memory _ payload-memory-alike ts (all-pieces AnyBytes (λ bs. tt) ts)
          (by_value.demand-two l stride given owned opening opens A ts enough may-be-made)

      -- Demand 3.
      pub payload-demand-three : DemandThree payload_memory_feed (by_value.whole_of l stride given owned opening) l.width A payload_in_memory ts
      payload-demand-three =
          three-alike payload-in-memory _ payload-memory-alike ts (all-pieces AnyBytes (λ bs. tt) ts) l.width A
          (by_value.demand-three l stride given owned opening opens A ts enough may-be-made)

-- ---- a DCS session; what is fed is bytes, numbers below 256

module _ (l : Limits) (stride : ℕ) (registers opening : List ℕ) where
  -- the memory after an opening, and the canvas, of which it wrote nothing
  abbrev pub dcs_in_memory : Memory
  dcs_in_memory =
      let x : ℕ × List ℕ × List ℕ = dcs_opened l stride (length opening) registers in record { numbers = x.1; registers = x.2; canvas = opening }

  -- Demand 1, the opening: 0 where it may be opened, and else 11.
  pub dcs-memory-opens : (dcs_opened l stride (length opening) registers).0 ≡ cond (calls.opens (limits_meant l) stride (length opening)) 0 11
  unfolding dcs_opened dcs_opened_as
  dcs-memory-opens = dcs-opening-stated l stride (of_table registers) (length opening)

  pub dcs-memory-alike : DcsAlike (dcs_by_value.held l stride (of_table registers) opening) dcs_in_memory
  dcs-memory-alike = (dcs-opens l stride (length opening) registers, refl)

  module _ (opens : calls.opens (limits_meant l) stride (length opening) ≡ true) where
    -- Demand 1.
    pub dcs-demand-one : (cs : List Ask) → GoodCalls Bytes cs
        → DemandOne dcs_memory_feed memory_canvas dcs_memory_finish (dcs.feed_meant (of_table registers) (length opening)) (λ m. calls.dcs_shown m opening)
        (λ m. calls.dcs_shown_at_finish m opening) (λ m. calls.finish_dcs_session m (length opening)) dcs_in_memory
        (dcs_by_value.opened_meant l stride (of_table registers) opening) cs
    dcs-demand-one cs good =
        one_alike dcs-in-memory _ _ _ _ dcs-memory-alike _ cs good (dcs_by_value.demand-one l stride (of_table registers) opening opens cs)

    module _ (cs : List Ask) (good : GoodCalls Bytes cs) (lent : List ℕ) where
      -- The refusals that come first.
      pub dcs-feed-first : (bs : List ℕ) → Bytes bs → (a : ℕ) → FeedRefusals dcs_memory_feed memory_lend (length opening) dcs_in_memory cs lent l.width bs a
      dcs-feed-first bs fine a =
          feeds-alike dcs-in-memory dcs-lent-memory (length opening) dcs-memory-alike cs good lent l.width bs fine a
          (dcs_first.dcs-feed-first l stride (of_table registers) opening opens cs lent bs a)

      pub dcs-finish-first : (owner : Palette) → FinishRefusals dcs_memory_feed memory_lend (length opening) dcs_in_memory cs lent dcs_memory_finish owner
      dcs-finish-first owner =
          finish-alike dcs-in-memory dcs-lent-memory (length opening) dcs-memory-alike cs good lent owner
          (dcs_first.dcs-finish-first l stride (of_table registers) opening opens cs lent owner)

      pub dcs-finish-early : (owner : Palette) → FinishedEarly dcs_memory_feed memory_lend (length opening) dcs_in_memory cs lent dcs_memory_finish owner
      dcs-finish-early owner =
          early-alike dcs-in-memory dcs-lent-memory (length opening) dcs-memory-alike cs good lent owner
          (dcs_first.dcs-finish-early l stride (of_table registers) opening opens cs lent owner)

    module _ (A : ℕ) (ts : List Turn) (good : GoodPieces Bytes ts) (enough : 6 * l.width ≤ A)
        (ok : proper_calls dcs_memory_feed A (ready dcs_in_memory) ts ≡ true) where
      -- the same calls may be made by value
      dcs-may-be-made : proper_calls dcs_feed A (ready (dcs_by_value.held l stride (of_table registers) opening)) ts ≡ true
      dcs-may-be-made = sym (proper-alike dcs-in-memory A (ready-alike dcs-in-memory dcs-memory-alike) ts good) ∙ ok

      -- Demand 2.
      pub dcs-demand-two : DemandTwo dcs_memory_feed memory_canvas dcs_memory_finish (dcs_by_value.whole_of l stride (of_table registers) opening) dcs_in_memory ts
      dcs-demand-two =
          two-alike dcs-in-memory _ dcs-memory-alike ts good (dcs_by_value.demand-two l stride (of_table registers) opening opens A ts enough dcs-may-be-made)

      -- Demand 3.
      pub dcs-demand-three : DemandThree dcs_memory_feed (dcs_by_value.whole_of l stride (of_table registers) opening) l.width A dcs_in_memory ts
      dcs-demand-three =
          three-alike dcs-in-memory _ dcs-memory-alike ts good l.width A
          (dcs_by_value.demand-three l stride (of_table registers) opening opens A ts enough dcs-may-be-made)
