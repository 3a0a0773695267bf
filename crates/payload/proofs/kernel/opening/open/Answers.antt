-- `open` meets its contract: where the opening may be, the canvas has a pixel to paint.
use Rattle.payload.proofs.SessionLaws.{openings-made}
use borrow.Author.Rules.{rules}
use Rattle.payload.proofs.kernel.opening.open.Goals as goal

pub paint_if-requires : goal.paint_if-requires
paint_if-requires c = search (rules, openings-made)

pub returns : goal.returns
returns c = search (rules, openings-made)
