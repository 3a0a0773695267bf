-- `blank_frame` meets its contract: the pen has register 0, and the command no values.
use Rattle.payload.proofs.SessionLaws.{openings-made}
use borrow.Author.Rules.{rules}
use Rattle.payload.proofs.kernel.opening.blank_frame.Goals as goal

pub returns : goal.returns
returns c = search (rules, openings-made)
