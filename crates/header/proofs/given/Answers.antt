-- `header::given` meets its contract: the header has not so many values, or the value is held at 65,535.
use borrow.Author.Rules.{rules}
use Rattle.header.proofs.SettingsLaws.{settings}
use Rattle.header.proofs.given.Goals as goal

pub returns-then-count-at : goal.returns-then-count-at
returns-then-count-at c = search (rules, settings)

pub returns : goal.returns
returns c = search (rules, settings)
