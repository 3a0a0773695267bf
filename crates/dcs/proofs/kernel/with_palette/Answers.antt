-- `with_palette` meets its contract: the payload session of the parts, with header and phase.
use mathlib.Core.Path.{ap}
use Rattle.payload.specs.declared.Session as payload_session
use Rattle.dcs.specs.Session.{session_of}
use Rattle.dcs.proofs.kernel.with_palette.Goals as goal

pub returns : goal.returns
returns c =
    let core = c.args.core in
    ap (λ (x : payload_session.Session). session_of x core.header core.phase) c.session_of.ensures
