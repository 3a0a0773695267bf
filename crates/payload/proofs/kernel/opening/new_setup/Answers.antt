-- `new_setup` meets its contract: background and rows are its callees', put together by one law.
use Rattle.payload.proofs.SessionLaws.{openings-made}
use borrow.Author.Rules.{rules}
use Rattle.payload.proofs.kernel.opening.new_setup.Goals as goal

pub returns : goal.returns
returns c = search (rules, openings-made)
