-- `hls::lower` meets its contract: each arm returns what its test picks. Assumes nothing.
use Rattle.std.proofs.Common.{refl}
use lib.Ieee.{of_bits}
use Rattle.hls.specs.Hls.{lowered}
use Rattle.hls.proofs.Steps.{pick_yes, pick_no}
use Rattle.hls.proofs.lower.Goals as goal

pub returns-then-t : goal.returns-then-t
unfolding of_bits lowered
returns-then-t c = pick_yes _ _ c.if-t.true

pub returns : goal.returns
unfolding of_bits lowered
returns c = pick_no _ _ c.if-t.false refl
