-- `dcs::memory::phase_from` meets its contract: the code's tests of the number are the definition's, one after the other.
use Rattle.numbers.proofs.Laws.{tests}
use Rattle.dcs.specs.Memory.{phase_from}
use borrow.Author.Rules.{rules}
use Rattle.dcs.proofs.memory.phase_from.Goals as goal

pub returns-then-number-eq0 : goal.returns-then-number-eq0
unfolding phase_from
returns-then-number-eq0 c = search (rules, tests)

pub returns-then-number-eq1 : goal.returns-then-number-eq1
unfolding phase_from
returns-then-number-eq1 c = search (rules, tests)

pub returns-then-number-eq2 : goal.returns-then-number-eq2
unfolding phase_from
returns-then-number-eq2 c = search (rules, tests)

pub returns-then-number-eq3 : goal.returns-then-number-eq3
unfolding phase_from
returns-then-number-eq3 c = search (rules, tests)

pub returns-then-number-eq4 : goal.returns-then-number-eq4
unfolding phase_from
returns-then-number-eq4 c = search (rules, tests)

pub returns-then-number-lt256 : goal.returns-then-number-lt256
unfolding phase_from
returns-then-number-lt256 c = search (rules, tests)

pub returns-then-number-lt512 : goal.returns-then-number-lt512
unfolding phase_from
returns-then-number-lt512 c = search (rules, tests)

pub returns : goal.returns
unfolding phase_from
returns c = search (rules, tests)
