-- `is_transparent` meets its contract: P2 is equal to 1, or it is not.
use mathlib.Core.Path.{◌∙◌}
use Rattle.payload.proofs.SessionLaws.{clear-tested}
use Rattle.payload.proofs.kernel.opening.is_transparent.Goals as goal

pub returns : goal.returns
returns c = c.eq.ensures ∙ clear-tested c.args.p2
