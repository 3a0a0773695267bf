-- `no_settings` meets its contract, which is its value.
use mathlib.Core.Path.{refl}
use Rattle.payload.specs.Deferred.{no_settings}
use Rattle.payload.proofs.no_settings.Goals as goal

pub returns : goal.returns
unfolding no_settings
returns c = refl
