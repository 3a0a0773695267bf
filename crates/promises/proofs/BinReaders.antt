-- What the bin reader tells of a picture that was read, by each of the four readers (promises/Readers): each keeps demand 2.
use Prim.Native.Nat.{ℕ, ◌*◌, ◌≤◌}
use mathlib.Core.Bool.{true}
use mathlib.Core.List.{List}
use mathlib.Core.Path.{◌≡◌}
use lib.ListN.{length}
use Rattle.colours.specs.declared.Palette.{Palette}
use Rattle.colours.specs.Palette.{of_table}
use Rattle.frame.specs.declared.Limits.{Limits}
use Rattle.meaning.specs.Calls as calls
use Rattle.meaning.specs.Callers as callers
use Rattle.meaning.specs.Reader.{Turn, ready}
use Rattle.payload.specs.declared.Settings.{Settings}
use Rattle.payload.specs.Meant.{limits_meant, setting_meant, parameters_meant}
use Rattle.payload.specs.History as payload
use Rattle.dcs.specs.History as dcs
use Rattle.dcs.proofs.SessionRanges.{Bytes}
use Rattle.promises.specs.BinReadings.{PayloadBins, SequenceBins}
use Rattle.promises.specs.Readers.{payload_feed, payload_canvas, payload_finish, dcs_feed, dcs_canvas, dcs_finish, memory_canvas, payload_memory_feed, payload_memory_finish, dcs_memory_feed, dcs_memory_finish}
use Rattle.promises.proofs.Alike.{GoodPieces}
use Rattle.promises.proofs.BinReadings.{payload-bins, sequence-bins}
use Rattle.promises.proofs.Demands as payloads
use Rattle.promises.proofs.DcsDemands as sequences
use Rattle.promises.proofs.MemoryDemands as memory

module _ (l : Limits) (stride : ℕ) (opening : List ℕ) (opens : calls.opens (limits_meant l) stride (length opening) ≡ true)
    (A : ℕ) (enough : 6 * l.width ≤ A) (ts : List Turn) where
  -- A payload session by value.
  pub payload-session-bins : (o : Settings) (p : Palette) → payload.proper_calls A (ready (payloads.held l stride o p opening)) ts ≡ true
      → PayloadBins payload_finish (setting_meant l stride (length opening)) p (payloads.held l stride o p opening) ts payload_feed (parameters_meant o)
  unfolding setting_meant
  payload-session-bins o p ok =
      payload-bins (limits_meant l) stride opening opens p payload_canvas payload_finish _ ts payload_feed (parameters_meant o)
      (payloads.demand-two l stride o p opening opens A ts enough ok)

  -- A DCS session by value.
  pub dcs-session-bins : (p : Palette) → dcs.proper_calls A (ready (sequences.held l stride p opening)) ts ≡ true
      → SequenceBins dcs_finish (setting_meant l stride (length opening)) p (sequences.held l stride p opening) ts dcs_feed
  unfolding setting_meant
  dcs-session-bins p ok =
      sequence-bins (limits_meant l) stride opening opens p dcs_canvas dcs_finish _ ts dcs_feed (sequences.demand-two l stride p opening opens A ts enough ok)

  -- A payload session in the caller's memory.
  pub payload-memory-bins : (p1 p2 : ℕ) (registers : List ℕ)
      → callers.proper_calls payload_memory_feed A (ready (memory.payload_in_memory l stride p1 p2 registers opening)) ts ≡ true
      → PayloadBins payload_memory_finish (setting_meant l stride (length opening)) (memory.owned l stride p1 p2 registers opening)
      (memory.payload_in_memory l stride p1 p2 registers opening) ts payload_memory_feed (parameters_meant (memory.given l stride p1 p2 registers opening))
  unfolding setting_meant
  payload-memory-bins p1 p2 registers ok =
      payload-bins (limits_meant l) stride opening opens _ memory_canvas payload_memory_finish _ ts payload_memory_feed _
      (memory.payload-demand-two l stride p1 p2 registers opening opens A ts enough ok)

  -- A DCS session in the caller's memory.
  pub dcs-memory-bins : (registers : List ℕ) → GoodPieces Bytes ts
      → callers.proper_calls dcs_memory_feed A (ready (memory.dcs_in_memory l stride registers opening)) ts ≡ true
      → SequenceBins dcs_memory_finish (setting_meant l stride (length opening)) (of_table registers)
      (memory.dcs_in_memory l stride registers opening) ts dcs_memory_feed
  unfolding setting_meant
  dcs-memory-bins registers good ok =
      sequence-bins (limits_meant l) stride opening opens _ memory_canvas dcs_memory_finish _ ts dcs_memory_feed
      (memory.dcs-demand-two l stride registers opening opens A ts good enough ok)
