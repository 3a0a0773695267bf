-- `first_life` meets its contract: one case for each answer of the opening's test.
use Rattle.payload.proofs.SessionLaws.{openings-made}
use borrow.Author.Rules.{rules}
use Rattle.payload.proofs.kernel.opening.first_life.Goals as goal

pub returns-then-may : goal.returns-then-may
returns-then-may c = search (rules, openings-made)

pub returns : goal.returns
returns c = search (rules, openings-made)
