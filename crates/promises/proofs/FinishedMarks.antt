-- What a finish leaves of marks follows from the commands of all that was fed and from the owner's marks at the opening: of the four readers
-- (promises/Readers), however the stream is split, and of a reading all at once. A refused one leaves the owner's palette.
use Prim.Native.Nat.{ℕ, ◌*◌, ◌≤◌}
use mathlib.Core.Bool.{true}
use mathlib.Core.List.{List}
use mathlib.Core.Path.{◌≡◌}
use lib.ListN.{length}
use Rattle.colours.specs.declared.Palette.{Palette}
use Rattle.colours.specs.Palette.{of_table}
use Rattle.frame.specs.declared.Limits.{Limits}
use Rattle.meaning.specs.Calls as calls
use Rattle.meaning.specs.Callers.{proper_calls}
use Rattle.meaning.specs.Commands.{Placed, commands}
use Rattle.meaning.specs.Definitions.{commands_found, ReportMarks, FinishMarks, MarksKept}
use Rattle.meaning.specs.Demands.{Concluded, concluded, payload_whole, sequence_whole}
use Rattle.meaning.specs.Drawing as drawing
use Rattle.meaning.specs.OneShot.{find_payload, one_shot}
use Rattle.meaning.specs.Payload as meant
use Rattle.meaning.specs.Reader.{Turn, ready}
use Rattle.meaning.specs.Sequence.{sequence_payload}
use Rattle.meaning.proofs.Cases.{cond-case}
use Rattle.meaning.proofs.MarkLaws.{payload-marks, sequence-marks, one-shot-marks, concluded-marks, reader-marks}
use Rattle.payload.specs.declared.Settings.{Settings}
use Rattle.payload.specs.Meant.{parameters_meant, limits_meant, setting_meant}
use Rattle.dcs.proofs.SessionRanges.{Bytes}
use Rattle.oneshot.specs.OneShot.{Read, palette_after, read_whole}
use Rattle.promises.specs.Readers.{payload_feed, payload_finish, dcs_feed, dcs_finish, payload_memory_feed, payload_memory_finish, dcs_memory_feed, dcs_memory_finish}
use Rattle.promises.proofs.Alike.{GoodPieces}
use Rattle.promises.proofs.Demands as by_value
use Rattle.promises.proofs.DcsDemands as dcs_by_value
use Rattle.promises.proofs.MemoryDemands as memory

-- the commands of a DCS sequence's payload
abbrev pub sequence_commands : List ℕ → List Placed
sequence_commands bs = commands_found (sequence_payload bs)

-- what a stream means to a payload session, and to a DCS session
payload-means : (s : drawing.Setting) (o : meant.Parameters) (p : Palette) (opening bs : List ℕ)
    → ReportMarks p (commands bs) (payload_whole s o p opening bs).finish
unfolding payload_whole
payload-means s o p opening bs = payload-marks s p o bs

sequence-means : (s : drawing.Setting) (p : Palette) (opening bs : List ℕ) → ReportMarks p (sequence_commands bs) (sequence_whole s p opening bs).finish
unfolding sequence_whole
sequence-means s p opening bs = sequence-marks s p bs

-- ---- sessions by value

module _ (l : Limits) (stride : ℕ) (o : Settings) (p : Palette) (opening : List ℕ)
    (opens : calls.opens (limits_meant l) stride (length opening) ≡ true) (A : ℕ) (ts : List Turn) (enough : 6 * l.width ≤ A)
    (ok : proper_calls payload_feed A (ready (by_value.held l stride o p opening)) ts ≡ true) where
  pub payload-marks-kept : MarksKept payload_feed payload_finish p commands (by_value.held l stride o p opening) ts
  payload-marks-kept =
      reader-marks p commands (payload-means (setting_meant l stride (length opening)) (parameters_meant o) p opening)
      (by_value.demand-two l stride o p opening opens A ts enough ok)

module _ (l : Limits) (stride : ℕ) (p : Palette) (opening : List ℕ)
    (opens : calls.opens (limits_meant l) stride (length opening) ≡ true) (A : ℕ) (ts : List Turn) (enough : 6 * l.width ≤ A)
    (ok : proper_calls dcs_feed A (ready (dcs_by_value.held l stride p opening)) ts ≡ true) where
  pub dcs-marks-kept : MarksKept dcs_feed dcs_finish p sequence_commands (dcs_by_value.held l stride p opening) ts
  dcs-marks-kept =
      reader-marks p sequence_commands (sequence-means (setting_meant l stride (length opening)) p opening)
      (dcs_by_value.demand-two l stride p opening opens A ts enough ok)

-- ---- both in the caller's memory

module _ (l : Limits) (stride p1 p2 : ℕ) (registers opening : List ℕ)
    (opens : calls.opens (limits_meant l) stride (length opening) ≡ true) (A : ℕ) (ts : List Turn) (enough : 6 * l.width ≤ A)
    (ok : proper_calls payload_memory_feed A (ready (memory.payload_in_memory l stride p1 p2 registers opening)) ts ≡ true) where
  pub payload-memory-marks-kept : MarksKept payload_memory_feed payload_memory_finish (of_table registers) commands
      (memory.payload_in_memory l stride p1 p2 registers opening) ts
  payload-memory-marks-kept =
      reader-marks (of_table registers) commands
      (payload-means (setting_meant l stride (length opening)) (parameters_meant (memory.given l stride p1 p2 registers opening)) (of_table registers) opening)
      (memory.payload-demand-two l stride p1 p2 registers opening opens A ts enough ok)

module _ (l : Limits) (stride : ℕ) (registers opening : List ℕ)
    (opens : calls.opens (limits_meant l) stride (length opening) ≡ true) (A : ℕ) (ts : List Turn) (good : GoodPieces Bytes ts)
    (enough : 6 * l.width ≤ A) (ok : proper_calls dcs_memory_feed A (ready (memory.dcs_in_memory l stride registers opening)) ts ≡ true) where
  pub dcs-memory-marks-kept : MarksKept dcs_memory_feed dcs_memory_finish (of_table registers) sequence_commands
      (memory.dcs_in_memory l stride registers opening) ts
  dcs-memory-marks-kept =
      reader-marks (of_table registers) sequence_commands (sequence-means (setting_meant l stride (length opening)) (of_table registers) opening)
      (memory.dcs-demand-two l stride registers opening opens A ts good enough ok)

-- ---- reading all at once

-- what it leaves, as a finish leaves it
abbrev pub left_by : Read → Concluded
left_by x = record { answer = x.answer; palette = x.palette; canvas = x.canvas }

-- The palette is the owner's at the start and after it.
pub read-marks : (l : drawing.Limits) (stride : ℕ) (p : Palette) (canvas bytes : List ℕ)
    → FinishMarks p p (commands_found (find_payload bytes)) (left_by (read_whole l stride p canvas bytes))
unfolding read_whole palette_after calls.read_one_shot concluded
read-marks l stride p canvas bytes =
    cond-case (λ (f : meant.Finished). FinishMarks p p said (record { answer = f; palette = palette_after f p; canvas = after }))
    (calls.opens l stride (length canvas))
    (λ _. left (one_shot setting p bytes) (one-shot-marks setting p bytes))
    (λ _. left (meant.turned_down 11) tt)
  where
    setting : drawing.Setting
    setting = calls.setting_for l stride (length canvas)

    said : List Placed
    said = commands_found (find_payload bytes)

    after : List ℕ
    after = calls.one_shot_shown l stride (length canvas) p bytes canvas

    left : (f : meant.Finished) → ReportMarks p said f → FinishMarks p p said (record { answer = f; palette = palette_after f p; canvas = after })
    left (meant.finished r) m = concluded-marks after after p p said (meant.finished r) m
    left (meant.turned_down n) m = concluded-marks after after p p said (meant.turned_down n) m
