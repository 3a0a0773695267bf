-- `dcs::close` meets its contract: no byte is left, or one path for each byte that can end a payload, each by its law of an end.
use Rattle.dcs.proofs.SessionLaws.{endings-laws}
use borrow.Author.Rules.{rules}
use Rattle.dcs.proofs.kernel.feeding.close.Goals as goal

pub returns-then-bytes-at : goal.returns-then-bytes-at
returns-then-bytes-at c = search (rules, endings-laws)

pub returns-then-byte-eq27 : goal.returns-then-byte-eq27
returns-then-byte-eq27 c = search (rules, endings-laws)

pub returns-then-byte : goal.returns-then-byte
returns-then-byte c = search (rules, endings-laws)

pub returns-then-byte-eq24 : goal.returns-then-byte-eq24
returns-then-byte-eq24 c = search (rules, endings-laws)

pub returns-then-byte-eq26 : goal.returns-then-byte-eq26
returns-then-byte-eq26 c = search (rules, endings-laws)

pub returns : goal.returns
returns c = search (rules, endings-laws)
