-- `words::memory::refusal_from` meets its contract: in each case the refusal whose number it is. Assumes nothing.
use borrow.Author.Rules.{rules}
use Rattle.words.proofs.MemoryLaws.{refusal-at, no-refusal_left}
use Rattle.frame.specs.Numbers.{number_of}
use Rattle.words.proofs.memory.refusal_from.Goals as goal

pub returns-in-1 : goal.returns-in-1
unfolding number_of
returns-in-1 c = search (rules, refusal-at)

pub returns-in-2 : goal.returns-in-2
unfolding number_of
returns-in-2 c = search (rules, refusal-at)

pub returns-in-3 : goal.returns-in-3
unfolding number_of
returns-in-3 c = search (rules, refusal-at)

pub returns-in-4 : goal.returns-in-4
unfolding number_of
returns-in-4 c = search (rules, refusal-at)

pub returns-in-5 : goal.returns-in-5
unfolding number_of
returns-in-5 c = search (rules, refusal-at)

pub returns-in-6 : goal.returns-in-6
unfolding number_of
returns-in-6 c = search (rules, refusal-at)

pub returns-in-7 : goal.returns-in-7
unfolding number_of
returns-in-7 c = search (rules, refusal-at)

pub returns-in-8 : goal.returns-in-8
unfolding number_of
returns-in-8 c = search (rules, refusal-at)

pub returns-in-9 : goal.returns-in-9
unfolding number_of
returns-in-9 c = search (rules, refusal-at)

pub returns-in-10 : goal.returns-in-10
unfolding number_of
returns-in-10 c = search (rules, refusal-at)

pub returns-in-11 : goal.returns-in-11
unfolding number_of
returns-in-11 c = search (rules, refusal-at)

pub returns-in-12 : goal.returns-in-12
unfolding number_of
returns-in-12 c = search (rules, refusal-at)

pub returns-in-13 : goal.returns-in-13
unfolding number_of
returns-in-13 c = search (rules, refusal-at)

pub returns-in-14 : goal.returns-in-14
unfolding number_of
returns-in-14 c = search (rules, refusal-at)

pub returns-in_default : goal.returns-in_default
returns-in_default c = search (rules, no-refusal_left)
