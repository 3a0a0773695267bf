-- `hls::upper_end` meets its contract: each arm returns what its test picks. Assumes nothing.
use Rattle.std.proofs.Common.{refl}
use lib.Ieee.{of_bits}
use Rattle.hls.specs.Hls.{upper, upper_by}
use Rattle.hls.proofs.Steps.{pick_yes, pick_no}
use Rattle.hls.proofs.upper_end.Goals as goal

pub returns-then-lum : goal.returns-then-lum
unfolding of_bits upper upper_by
returns-then-lum c = pick_yes _ _ c.if-lum.true

pub returns : goal.returns
unfolding of_bits upper upper_by
returns c = pick_no _ _ c.if-lum.false refl
