-- `header_start` meets its contract: the loop has found no introducer before `at` (`Looking`).
use Rattle.oneshot.proofs.SearchLaws.{Looking}
use Rattle.oneshot.proofs.search.header_start.Given as goal

abbrev pub invariant-loop-at : goal.invariant-loop-at
invariant-loop-at l = Looking l.bytes l.at
