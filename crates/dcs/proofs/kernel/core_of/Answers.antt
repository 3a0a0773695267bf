-- `core_of` meets its contract: the parts of the payload session, with header and phase.
use Rattle.dcs.proofs.CoreLaws.{core-as}
use Rattle.dcs.proofs.kernel.core_of.Goals as goal

pub returns : goal.returns
returns c =
    core-as c.args.session c.setup_of.ensures c.life_of.ensures c.frame_of.ensures
