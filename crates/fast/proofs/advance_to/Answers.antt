-- `advance_to` meets its contract: it is the record itself.
use mathlib.Core.Path.{refl}
use Rattle.fast.specs.Advance.{advance_to}
use Rattle.fast.proofs.advance_to.Goals as goal

pub returns : goal.returns
unfolding advance_to
returns c = refl
