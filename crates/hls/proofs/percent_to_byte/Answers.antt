-- `hls::percent_to_byte` meets its contract: the byte and the test are those of the same number. Assumes nothing.
use Rattle.std.proofs.Common.{ap, ◌∙◌, w32}
use mir.ValLaws.{to_z-of_z}
use Rattle.hls.specs.Percent.{outside, percent_byte}
use Rattle.hls.proofs.Whole.{percent-made}
use Rattle.hls.proofs.percent_to_byte.Goals as goal

pub returns : goal.returns
returns c =
    let read = to_z-of_z w32 c.args.value c.ranges.value in
    percent-made c.args.value (c.percent_byte.ensures ∙ ap percent_byte read) (c.is_outside.ensures ∙ ap outside read)
