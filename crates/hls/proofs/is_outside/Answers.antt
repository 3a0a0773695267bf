-- `hls::is_outside` meets its contract: what the library says of the range from 0 to 100. Assumes nothing.
use Rattle.std.proofs.Common.{w32}
use mir.ValLaws.{to_z-of_z}
use Rattle.hls.proofs.Whole.{outside_is}
use Rattle.hls.proofs.is_outside.Goals as goal

pub returns : goal.returns
returns c =
    rw (c.contains.ensures.value, c.new.ensures.start, c.new.ensures.end, c.new.ensures.exhausted, to_z-of_z w32 c.args.value c.ranges.value)
    (outside_is c.args.value)
