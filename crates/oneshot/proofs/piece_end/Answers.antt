-- `piece_end` meets its contract: to the end of all, or so many bytes on.
use Rattle.std.proofs.Common.{arith}
use Rattle.std.proofs.lemmas.Bool.Decides.{nat_tests}
use Rattle.oneshot.specs.OneShot.{piece_end}
use Rattle.oneshot.proofs.piece_end.Goals as goal

pub returns-then-length-at : goal.returns-then-length-at
unfolding piece_end
returns-then-length-at c = grind (arith, nat_tests)

pub returns-else-length-at : goal.returns-else-length-at
unfolding piece_end
returns-else-length-at c = grind (arith, nat_tests)
