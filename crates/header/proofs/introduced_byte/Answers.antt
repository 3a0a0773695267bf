-- `header::introduced_byte` meets its contract: `P` leads to the header, and any other byte is refused.
use borrow.Author.Rules.{rules}
use Rattle.header.proofs.LeadLaws.{introducers}
use Rattle.header.proofs.introduced_byte.Goals as goal

pub returns-then-byte-eq80 : goal.returns-then-byte-eq80
returns-then-byte-eq80 c = search (rules, introducers)

pub returns : goal.returns
returns c = search (rules, introducers)
