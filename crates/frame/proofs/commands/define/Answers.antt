-- `define` meets its contract: a value that a signed number can hold is passed as it is.
use borrow.Author.Rules.{rules}
use Rattle.frame.proofs.CommandLaws.{defined-hls, defined-rgb}
use Rattle.frame.proofs.commands.define.Goals as goal

pub returns-then-space-eq1 : goal.returns-then-space-eq1
returns-then-space-eq1 c = search (rules, defined-hls)

pub returns-then-space-eq2 : goal.returns-then-space-eq2
returns-then-space-eq2 c = search (rules, defined-rgb)
