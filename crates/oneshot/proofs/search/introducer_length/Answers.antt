-- `introducer_length` meets its contract: a law of `introducers` for each of its six returns.
use Rattle.oneshot.proofs.SearchLaws.{introducers}
use borrow.Author.Rules.{rules}
use Rattle.oneshot.proofs.search.introducer_length.Goals as goal

pub returns-then-bytes-at : goal.returns-then-bytes-at
returns-then-bytes-at c = search (rules, introducers)

pub returns-then-bytes-at-2 : goal.returns-then-bytes-at-2
returns-then-bytes-at-2 c = search (rules, introducers)

pub returns-then-bytes-at-lt2 : goal.returns-then-bytes-at-lt2
returns-then-bytes-at-lt2 c = search (rules, introducers)

pub returns-then-bytes-at-eq80 : goal.returns-then-bytes-at-eq80
returns-then-bytes-at-eq80 c = search (rules, introducers)

pub returns-else-bytes-at-eq80 : goal.returns-else-bytes-at-eq80
returns-else-bytes-at-eq80 c = search (rules, introducers)

pub returns-else-bytes-at-eq27 : goal.returns-else-bytes-at-eq27
returns-else-bytes-at-eq27 c = search (rules, introducers)
