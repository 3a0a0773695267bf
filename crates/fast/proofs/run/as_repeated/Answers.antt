-- `as_repeated` meets its contract: it is the frame itself, with another repeat.
use mathlib.Core.Path.{refl}
use Rattle.frame.specs.Commands.{with_repeat}
use Rattle.fast.specs.Run.{planned}
use Rattle.fast.proofs.run.as_repeated.Goals as goal

pub returns : goal.returns
unfolding planned with_repeat
returns c = refl
