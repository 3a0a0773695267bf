-- `dcs::memory::phase_number` meets its contract: one path for each phase.
use Rattle.dcs.specs.Memory.{phase_number}
use Rattle.dcs.proofs.MemoryLaws.{codes_as}
use borrow.Author.Rules.{rules}
use Rattle.dcs.proofs.memory.phase_number.Goals as goal

pub returns-in-Before : goal.returns-in-Before
unfolding phase_number
returns-in-Before c = search (rules, codes_as)

pub returns-in-Within : goal.returns-in-Within
unfolding phase_number
returns-in-Within c = search (rules, codes_as)

pub returns-in-Escaped : goal.returns-in-Escaped
unfolding phase_number
returns-in-Escaped c = search (rules, codes_as)

pub returns-in-Over : goal.returns-in-Over
unfolding phase_number
returns-in-Over c = search (rules, codes_as)
