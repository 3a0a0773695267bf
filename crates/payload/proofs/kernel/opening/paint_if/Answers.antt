-- `paint_if` meets its contract: the pixel is painted, or nothing is written.
use Rattle.payload.proofs.SessionLaws.{openings-made}
use borrow.Author.Rules.{rules}
use Rattle.payload.proofs.kernel.opening.paint_if.Goals as goal

pub first_pixel-requires : goal.first_pixel-requires
first_pixel-requires c = search (rules, c.requires)

pub returns-then-due : goal.returns-then-due
returns-then-due c = search (rules, openings-made)

pub returns-else-due : goal.returns-else-due
returns-else-due c = search (rules, openings-made)
