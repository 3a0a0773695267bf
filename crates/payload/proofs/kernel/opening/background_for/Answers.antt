-- `background_for` meets its contract: transparent, or register 0.
use Rattle.payload.proofs.SessionLaws.{openings-made}
use borrow.Author.Rules.{rules}
use Rattle.payload.proofs.kernel.opening.background_for.Goals as goal

pub returns-then-is_transparent : goal.returns-then-is_transparent
returns-then-is_transparent c = search (rules, openings-made)

pub returns : goal.returns
returns c = search (rules, openings-made)
