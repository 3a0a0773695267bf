-- `words::put_needed` meets its contract: in each case its two parts, one after the other. Assumes nothing.
use Rattle.words.proofs.WordLaws.{needed_as}
use Rattle.text.specs.Text.{words}
use Rattle.words.specs.Words.{needed_text}
use borrow.Author.Rules.{rules}
use Rattle.words.proofs.put_needed.Goals as goal

pub returns-in-Repeats-clause-text : goal.returns-in-Repeats-clause-text
unfolding words needed_text
returns-in-Repeats-clause-text c = search (rules, needed_as)

pub returns-in-Columns-clause-text : goal.returns-in-Columns-clause-text
unfolding words needed_text
returns-in-Columns-clause-text c = search (rules, needed_as)

pub returns-in-Rows-clause-text : goal.returns-in-Rows-clause-text
unfolding words needed_text
returns-in-Rows-clause-text c = search (rules, needed_as)

pub returns-in-Pixels-clause-text : goal.returns-in-Pixels-clause-text
unfolding words needed_text
returns-in-Pixels-clause-text c = search (rules, needed_as)
