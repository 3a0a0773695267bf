-- `select` meets its contract by the definitions that its clause names.
use borrow.Author.Rules.{rules}
use Rattle.frame.specs.Commands.{palette_after, selected_in, register_in, redefining_by}
use Rattle.frame.proofs.commands.select.Goals as goal

pub returns : goal.returns
unfolding palette_after selected_in register_in redefining_by
returns c = search rules
