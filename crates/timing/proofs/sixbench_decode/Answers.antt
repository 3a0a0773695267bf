-- `sixbench_decode` meets its contract: a reading in pieces of any length comes to the reading of the whole, under the house's limits
-- and so of a size that one number holds (`benched`).
use Rattle.timing.proofs.BenchLaws.{benched}
use borrow.Author.Rules.{rules}
use Rattle.timing.proofs.sixbench_decode.Goals as goal

pub read_in_pieces-answer-requires : goal.read_in_pieces-answer-requires
read_in_pieces-answer-requires c = search (rules, benched)

pub size_or_number-requires : goal.size_or_number-requires
size_or_number-requires c = search (rules, benched)

pub returns-then-may_open : goal.returns-then-may_open
returns-then-may_open c = search (rules, benched)

pub returns : goal.returns
returns c = search (rules, benched)
