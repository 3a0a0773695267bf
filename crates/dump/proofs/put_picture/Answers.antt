-- `dump::put_picture` meets its contract: where the canvas has the picture, its rows. Assumes nothing.
use Rattle.dump.proofs.RowLaws.{picture-fits, picture-there, picture-missing}
use borrow.Author.Rules.{rules}
use Rattle.dump.proofs.put_picture.Goals as goal

pub put_rows-requires : goal.put_rows-requires
put_rows-requires c =
    picture-fits c.args.canvas.now _ _ _ _ c.has_picture.ensures c.if-has_picture.true

pub returns-then-has_picture-clause-text : goal.returns-then-has_picture-clause-text
returns-then-has_picture-clause-text c = search (rules, picture-there)

pub returns-else-has_picture-clause-text : goal.returns-else-has_picture-clause-text
returns-else-has_picture-clause-text c = search (rules, picture-missing)
