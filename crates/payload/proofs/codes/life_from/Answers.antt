-- `life_from` meets its contract: its tests are the definition's, and a remainder by 256 fits a byte.
use Rattle.numbers.proofs.Laws.{tests}
use Rattle.payload.specs.Codes.{life_from}
use borrow.Author.Rules.{rules}
use Rattle.payload.proofs.codes.life_from.Goals as goal

pub returns-then-number-eq0 : goal.returns-then-number-eq0
unfolding life_from
returns-then-number-eq0 c = search (rules, tests)

pub returns-then-number-eq1 : goal.returns-then-number-eq1
unfolding life_from
returns-then-number-eq1 c = search (rules, tests)

pub returns : goal.returns
unfolding life_from
returns c = search (rules, tests)
