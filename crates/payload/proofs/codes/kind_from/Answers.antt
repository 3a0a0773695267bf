-- `kind_from` meets its contract: its tests are the definition's, one after the other.
use borrow.Author.Rules.{rules}
use Rattle.numbers.proofs.Laws.{tests}
use Rattle.payload.specs.Codes.{kind_from}
use Rattle.payload.proofs.codes.kind_from.Goals as goal

pub returns-then-number-eq0 : goal.returns-then-number-eq0
unfolding kind_from
returns-then-number-eq0 c = search (rules, tests)

pub returns-then-number-eq1 : goal.returns-then-number-eq1
unfolding kind_from
returns-then-number-eq1 c = search (rules, tests)

pub returns-then-number-eq2 : goal.returns-then-number-eq2
unfolding kind_from
returns-then-number-eq2 c = search (rules, tests)

pub returns : goal.returns
unfolding kind_from
returns c = search (rules, tests)
