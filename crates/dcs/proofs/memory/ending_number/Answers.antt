-- `dcs::memory::ending_number` meets its contract: one path for each ending.
use Rattle.dcs.specs.Memory.{ending_number}
use Rattle.dcs.proofs.MemoryLaws.{codes_as}
use borrow.Author.Rules.{rules}
use Rattle.dcs.proofs.memory.ending_number.Goals as goal

pub returns-in-Complete : goal.returns-in-Complete
unfolding ending_number
returns-in-Complete c = search (rules, codes_as)

pub returns-in-Cancelled : goal.returns-in-Cancelled
unfolding ending_number
returns-in-Cancelled c = search (rules, codes_as)

pub returns-in-Interrupted : goal.returns-in-Interrupted
unfolding ending_number
returns-in-Interrupted c = search (rules, codes_as)
