-- `header::read_lead` meets its contract. The loop's invariant: from the place and the values that it has come to, the bytes that are
-- left lead to where all bytes lead.
use Prim.Native.Nat.{max, ◌≤◌}
use lib.ListN.{length, drop}
use Rattle.header.proofs.LeadLaws.{Going}
use Rattle.header.specs.Lead.{lead_from}
use Rattle.header.proofs.read_lead.Given as goal

abbrev pub invariant-loop-consumed : goal.invariant-loop-consumed
invariant-loop-consumed l =
    Going l.bytes (lead_from (drop l.from l.bytes) l.from l.initial.here l.initial.values) l.here l.values l.consumed
    × (l.consumed ≤ max l.from (length l.bytes))
