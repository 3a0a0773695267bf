-- `words::put_amount` meets its contract: the number, with words before it or without. Assumes nothing.
use Rattle.words.proofs.WordLaws.{more-than, exactly}
use Rattle.text.specs.Text.{words}
use borrow.Author.Rules.{rules}
use Rattle.words.proofs.put_amount.Goals as goal
use Rattle.words.proofs.put_amount.Goals.{then-more, else-more}

pub returns-clause-text : goal.returns-clause-text
unfolding words
returns-clause-text c = elim c.if-more.branch [
  | then-more w ↦ search (rules, more-than)
  | else-more w ↦ search (rules, exactly)
]
