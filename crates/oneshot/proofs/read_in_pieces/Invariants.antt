-- `read_in_pieces` meets its contract: its loop stays `Midway`, so that each turn passes 9, 12 and 13, what is left of the part grows
-- shorter with each turn, and the laws of ReadLaws say of a `Turn` what each answer of its feed leads to.
use Rattle.std.specs.Prelude.{◌-◌, length}
use Rattle.colours.specs.Palette.{of_table}
use Rattle.payload.specs.Core.{over}
use Rattle.oneshot.proofs.FeedLaws.{Midway}
use Rattle.oneshot.proofs.read_in_pieces.Given as goal

abbrev pub invariant-loop-consumed : goal.invariant-loop-consumed
invariant-loop-consumed l =
    Midway l.allowance (over l.setup l.initial.life l.initial.frame (of_table l.initial.colors)) l.initial.canvas l.part l.canvas (over l.setup l.life l.frame (of_table l.colors)) l.at

abbrev pub decreases-loop-consumed : goal.decreases-loop-consumed
decreases-loop-consumed l =
    length l.part - l.at
