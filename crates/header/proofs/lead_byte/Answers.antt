-- `header::lead_byte` meets its contract: at each of the three places the byte does what that place's function says.
use borrow.Author.Rules.{rules}
use Rattle.header.proofs.LeadLaws.{leading}
use Rattle.header.proofs.lead_byte.Goals as goal

pub returns-in-Start : goal.returns-in-Start
returns-in-Start c = search (rules, leading)

pub returns-in-Introduced : goal.returns-in-Introduced
returns-in-Introduced c = search (rules, leading)

pub returns-in-Header : goal.returns-in-Header
returns-in-Header c = search (rules, leading)
