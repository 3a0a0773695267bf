-- `find` meets its contract: a header was begun, or all bytes are payload (`finds`).
use Rattle.oneshot.proofs.SearchLaws.{finds}
use borrow.Author.Rules.{rules}
use Rattle.oneshot.proofs.search.find.Goals as goal

pub returns-in-Some : goal.returns-in-Some
returns-in-Some c = search (rules, finds)

pub returns-in-None : goal.returns-in-None
returns-in-None c = search (rules, finds)
