-- `tell` meets its contract: the answer with the session in the phase that was told, whatever the palette.
use Rattle.dcs.proofs.SessionLaws.{told-as}
use Rattle.dcs.proofs.kernel.feeding.tell.Goals as goal

pub returns : goal.returns
returns c p = told-as _ _ _
