-- `dcs::memory::place_number` meets its contract: one path for each place.
use Rattle.dcs.specs.Memory.{place_number}
use Rattle.dcs.proofs.MemoryLaws.{codes_as}
use borrow.Author.Rules.{rules}
use Rattle.dcs.proofs.memory.place_number.Goals as goal

pub returns-in-Start : goal.returns-in-Start
unfolding place_number
returns-in-Start c = search (rules, codes_as)

pub returns-in-Introduced : goal.returns-in-Introduced
unfolding place_number
returns-in-Introduced c = search (rules, codes_as)

pub returns-in-Header : goal.returns-in-Header
unfolding place_number
returns-in-Header c = search (rules, codes_as)
