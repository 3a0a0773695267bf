-- `run_length` meets its contract: all before the byte that is found are sixels, or all are where none is.
use borrow.Author.Rules.{rules}
use Rattle.fast.proofs.RunLaws.{sixels-counted}
use Rattle.fast.proofs.stretch.run_length.Goals as goal

pub returns : goal.returns
returns c = sixels-counted c.args.bytes.now c.args.from c.args.most _ c.requires (search rules) (search rules)
