-- `header::start_byte` meets its contract: 1B, 90, and any other byte, which is refused.
use borrow.Author.Rules.{rules}
use Rattle.header.proofs.LeadLaws.{introducers}
use Rattle.header.proofs.start_byte.Goals as goal

pub returns-then-byte-eq27 : goal.returns-then-byte-eq27
returns-then-byte-eq27 c = search (rules, introducers)

pub returns-then-byte-eq144 : goal.returns-then-byte-eq144
returns-then-byte-eq144 c = search (rules, introducers)

pub returns : goal.returns
returns c = search (rules, introducers)
