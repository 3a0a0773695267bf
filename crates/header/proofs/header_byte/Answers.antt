-- `header::header_byte` meets its contract: one path for each kind of byte, each by its law, which has the tests before it as premises.
use borrow.Author.Rules.{rules}
use Rattle.header.proofs.LeadLaws.{headers}
use Rattle.header.proofs.header_byte.Goals as goal

pub returns-then-is_skipped : goal.returns-then-is_skipped
returns-then-is_skipped c = search (rules, headers)

pub returns-then-is_digit : goal.returns-then-is_digit
returns-then-is_digit c = search (rules, headers)

pub returns-then-byte-eq59 : goal.returns-then-byte-eq59
returns-then-byte-eq59 c = search (rules, headers)

pub returns-then-byte-eq113 : goal.returns-then-byte-eq113
returns-then-byte-eq113 c = search (rules, headers)

pub returns-then-ends_payload : goal.returns-then-ends_payload
returns-then-ends_payload c = search (rules, headers)

pub returns : goal.returns
returns c = search (rules, headers)
