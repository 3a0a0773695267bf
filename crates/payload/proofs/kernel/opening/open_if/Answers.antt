-- `open_if` meets its contract: answer, life, setup and frame are its callees', put together by one law.
use Rattle.payload.proofs.SessionLaws.{openings-made}
use borrow.Author.Rules.{rules}
use Rattle.payload.proofs.kernel.opening.open_if.Goals as goal

pub returns : goal.returns
returns c = search (rules, openings-made)
