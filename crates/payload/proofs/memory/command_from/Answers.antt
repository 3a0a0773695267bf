-- `command_from` meets its contract: eleven reads, nine of them the values.
use Rattle.payload.proofs.CodeLaws.{read_back}
use Rattle.payload.specs.Memory.{nine_from}
use borrow.Author.Rules.{rules}
use Rattle.payload.proofs.memory.command_from.Goals as goal

pub returns : goal.returns
unfolding nine_from
returns c = search (rules, read_back)
