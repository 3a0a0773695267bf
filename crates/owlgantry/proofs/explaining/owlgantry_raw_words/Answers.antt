-- `owlgantry_raw_words` meets its contract, which is that of `put_numbers`, from the front.
use Rattle.owlgantry.specs.Explaining.{words_put}
use borrow.Author.Rules.{rules}
use Rattle.owlgantry.proofs.explaining.owlgantry_raw_words.Goals as goal

pub returns : goal.returns
unfolding words_put
returns c = search rules
