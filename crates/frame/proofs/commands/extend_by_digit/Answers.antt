-- `extend_by_digit` meets its contract by the definitions that its clause names.
use borrow.Author.Rules.{rules}
use Rattle.frame.specs.Commands.{with_command, by_digit, by_digit_in, values_longer, number_longer}
use Rattle.frame.proofs.commands.extend_by_digit.Goals as goal

pub returns : goal.returns
unfolding with_command by_digit by_digit_in values_longer number_longer
returns c = search rules
