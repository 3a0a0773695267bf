-- `process` meets its contract. The loop's invariant is `Going`: the bytes that are left lead to where all lead. It is kept by what the fast
-- machine reads and by a step of the reference machine, and each pass leaves less to do.
use lib.ListN.{length}
use Rattle.colours.specs.Palette.{of_table}
use Rattle.reference.specs.Feed.{feed_from}
use Rattle.reference.proofs.FeedLaws.{Going, left_over}
use Rattle.reading.proofs.process.Given as goal

abbrev pub invariant-loop-consumed : goal.invariant-loop-consumed
invariant-loop-consumed l =
    Going l.ground l.allowance l.bytes (feed_from l.ground l.allowance l.bytes 0 0 l.initial.now (of_table l.initial.colors) l.initial.canvas) (length l.initial.canvas) (of_table l.colors) l.canvas l.now
    l.consumed
    l.ink

abbrev pub decreases-loop-consumed : goal.decreases-loop-consumed
decreases-loop-consumed l = left_over l.bytes l.consumed l.now
