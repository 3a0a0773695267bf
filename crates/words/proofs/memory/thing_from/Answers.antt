-- `words::memory::thing_from` meets its contract: in each case the thing whose number it is. Assumes nothing.
use borrow.Author.Rules.{rules}
use Rattle.words.proofs.MemoryLaws.{thing-at, no-thing_left}
use Rattle.words.specs.Memory.{thing_number}
use Rattle.words.proofs.memory.thing_from.Goals as goal

pub returns-in-1 : goal.returns-in-1
unfolding thing_number
returns-in-1 c = search (rules, thing-at)

pub returns-in-2 : goal.returns-in-2
unfolding thing_number
returns-in-2 c = search (rules, thing-at)

pub returns-in-3 : goal.returns-in-3
unfolding thing_number
returns-in-3 c = search (rules, thing-at)

pub returns-in-4 : goal.returns-in-4
unfolding thing_number
returns-in-4 c = search (rules, thing-at)

pub returns-in_default : goal.returns-in_default
returns-in_default c = search (rules, no-thing_left)
