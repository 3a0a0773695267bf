-- `settled` meets its contract, as its record says.
use mathlib.Core.Path.{refl}
use Rattle.fast.specs.Advance.{settled_to}
use Rattle.fast.proofs.drawn.settled.Goals as goal

pub returns : goal.returns
unfolding settled_to
returns c = refl
