-- `dcs::escape` meets its contract: no byte is left, a `\` completes the sequence, or any other byte interrupts it.
use Rattle.dcs.proofs.SessionLaws.{endings-laws}
use borrow.Author.Rules.{rules}
use Rattle.dcs.proofs.kernel.feeding.escape.Goals as goal

pub returns-then-bytes-at : goal.returns-then-bytes-at
returns-then-bytes-at c = search (rules, endings-laws)

pub returns-then-bytes-at-eq92 : goal.returns-then-bytes-at-eq92
returns-then-bytes-at-eq92 c = search (rules, endings-laws)

pub returns : goal.returns
returns c = search (rules, endings-laws)
