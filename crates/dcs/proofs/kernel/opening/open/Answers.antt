-- `open` meets its contract: the payload session is reserved, and the phase is before the introducer.
use Rattle.dcs.proofs.SessionLaws.{opened-as}
use Rattle.dcs.proofs.kernel.opening.open.Goals as goal

pub returns : goal.returns
returns c = opened-as _ _ _ _ c.reserve-opened.ensures c.new-header.ensures
