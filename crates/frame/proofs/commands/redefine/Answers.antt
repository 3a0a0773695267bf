-- `redefine` meets its contract by the definitions that its clause names, and may call `define`: a value of a command fits a signed number.
use borrow.Author.Rules.{rules}
use Rattle.frame.specs.Commands.{redefining_by, held_in, redefined_by, defining_by}
use Rattle.frame.proofs.CommandLaws.{value-within}
use Rattle.frame.proofs.commands.redefine.Goals as goal

pub define-requires : goal.define-requires
define-requires c = search (rules, value-within)

pub returns-then-count-eq5 : goal.returns-then-count-eq5
unfolding redefining_by held_in redefined_by defining_by
returns-then-count-eq5 c = search rules

pub returns : goal.returns
unfolding redefining_by held_in redefined_by
returns c = search rules
