-- `colours::standard::numbers` meets its contract: the three rules' colours, put end to end, are the standard registers.
-- Assumes nothing.
use borrow.Author.Rules.{rules}
use Rattle.colours.proofs.StandardLaws.{end_to_end}
use Rattle.colours.proofs.standard.numbers.Goals as goal

pub returns : goal.returns
returns c = search (rules, end_to_end)
