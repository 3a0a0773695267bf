-- The declared size that a finish reports is what the commands of all that was fed declare, and lies inside the size; the count of held
-- definitions is theirs: of the four readers (promises/Readers), however the stream is split, and of a reading all at once.
use Prim.Native.Nat.{ℕ, ◌*◌, ◌≤◌}
use mathlib.Core.Bool.{true}
use mathlib.Core.List.{List}
use mathlib.Core.Path.{◌≡◌}
use lib.ListN.{length}
use Rattle.colours.specs.declared.Palette.{Palette}
use Rattle.colours.specs.Palette.{of_table}
use Rattle.frame.specs.declared.Limits.{Limits}
use Rattle.meaning.specs.Calls as calls
use Rattle.meaning.specs.Callers.{proper_calls}
use Rattle.meaning.specs.Commands.{commands}
use Rattle.meaning.specs.Reported.{FinishFollows, ReportsFollow}
use Rattle.meaning.specs.Definitions.{commands_found}
use Rattle.meaning.specs.Demands.{payload_whole, sequence_whole}
use Rattle.meaning.specs.Drawing as drawing
use Rattle.meaning.specs.OneShot.{find_payload}
use Rattle.meaning.specs.Payload as meant
use Rattle.meaning.specs.Reader.{Turn, ready}
use Rattle.meaning.proofs.Cases.{cond-case}
use Rattle.meaning.proofs.ReportLaws.{payload-report, sequence-report, one-shot-report, reader-reports}
use Rattle.payload.specs.declared.Settings.{Settings}
use Rattle.payload.specs.Meant.{parameters_meant, limits_meant, setting_meant}
use Rattle.dcs.proofs.SessionRanges.{Bytes}
use Rattle.oneshot.specs.OneShot.{read_whole}
use Rattle.promises.specs.Readers.{payload_feed, payload_finish, dcs_feed, dcs_finish, payload_memory_feed, payload_memory_finish, dcs_memory_feed, dcs_memory_finish}
use Rattle.promises.proofs.Alike.{GoodPieces}
use Rattle.promises.proofs.Demands as by_value
use Rattle.promises.proofs.DcsDemands as dcs_by_value
use Rattle.promises.proofs.FinishedMarks.{sequence_commands}
use Rattle.promises.proofs.MemoryDemands as memory

-- what a stream means to a payload session, and to a DCS session
payload-means : (s : drawing.Setting) (o : meant.Parameters) (p : Palette) (opening bs : List ℕ)
    → FinishFollows (commands bs) (payload_whole s o p opening bs).finish
unfolding payload_whole
payload-means s o p opening bs = payload-report s p o bs

sequence-means : (s : drawing.Setting) (p : Palette) (opening bs : List ℕ) → FinishFollows (sequence_commands bs) (sequence_whole s p opening bs).finish
unfolding sequence_whole
sequence-means s p opening bs = sequence-report s p bs

-- ---- sessions by value

module _ (l : Limits) (stride : ℕ) (o : Settings) (p : Palette) (opening : List ℕ)
    (opens : calls.opens (limits_meant l) stride (length opening) ≡ true) (A : ℕ) (ts : List Turn) (enough : 6 * l.width ≤ A)
    (ok : proper_calls payload_feed A (ready (by_value.held l stride o p opening)) ts ≡ true) where
  pub payload-reports-follow : ReportsFollow payload_feed payload_finish commands (by_value.held l stride o p opening) ts
  payload-reports-follow =
      reader-reports commands (payload-means (setting_meant l stride (length opening)) (parameters_meant o) p opening)
      (by_value.demand-two l stride o p opening opens A ts enough ok)

module _ (l : Limits) (stride : ℕ) (p : Palette) (opening : List ℕ)
    (opens : calls.opens (limits_meant l) stride (length opening) ≡ true) (A : ℕ) (ts : List Turn) (enough : 6 * l.width ≤ A)
    (ok : proper_calls dcs_feed A (ready (dcs_by_value.held l stride p opening)) ts ≡ true) where
  pub dcs-reports-follow : ReportsFollow dcs_feed dcs_finish sequence_commands (dcs_by_value.held l stride p opening) ts
  dcs-reports-follow =
      reader-reports sequence_commands (sequence-means (setting_meant l stride (length opening)) p opening)
      (dcs_by_value.demand-two l stride p opening opens A ts enough ok)

-- ---- both in the caller's memory

module _ (l : Limits) (stride p1 p2 : ℕ) (registers opening : List ℕ)
    (opens : calls.opens (limits_meant l) stride (length opening) ≡ true) (A : ℕ) (ts : List Turn) (enough : 6 * l.width ≤ A)
    (ok : proper_calls payload_memory_feed A (ready (memory.payload_in_memory l stride p1 p2 registers opening)) ts ≡ true) where
  pub payload-memory-reports-follow : ReportsFollow payload_memory_feed payload_memory_finish commands
      (memory.payload_in_memory l stride p1 p2 registers opening) ts
  payload-memory-reports-follow =
      reader-reports commands
      (payload-means (setting_meant l stride (length opening)) (parameters_meant (memory.given l stride p1 p2 registers opening)) (of_table registers) opening)
      (memory.payload-demand-two l stride p1 p2 registers opening opens A ts enough ok)

module _ (l : Limits) (stride : ℕ) (registers opening : List ℕ)
    (opens : calls.opens (limits_meant l) stride (length opening) ≡ true) (A : ℕ) (ts : List Turn) (good : GoodPieces Bytes ts)
    (enough : 6 * l.width ≤ A) (ok : proper_calls dcs_memory_feed A (ready (memory.dcs_in_memory l stride registers opening)) ts ≡ true) where
  pub dcs-memory-reports-follow : ReportsFollow dcs_memory_feed dcs_memory_finish sequence_commands (memory.dcs_in_memory l stride registers opening) ts
  dcs-memory-reports-follow =
      reader-reports sequence_commands (sequence-means (setting_meant l stride (length opening)) (of_table registers) opening)
      (memory.dcs-demand-two l stride registers opening opens A ts good enough ok)

-- ---- reading all at once

-- What it answers, under any limits.
pub read-report : (l : drawing.Limits) (stride : ℕ) (p : Palette) (canvas bytes : List ℕ)
    → FinishFollows (commands_found (find_payload bytes)) (read_whole l stride p canvas bytes).answer
unfolding read_whole calls.read_one_shot
read-report l stride p canvas bytes =
    cond-case (FinishFollows (commands_found (find_payload bytes))) (calls.opens l stride (length canvas))
    (λ _. one-shot-report (calls.setting_for l stride (length canvas)) p bytes)
    (λ _. tt)
