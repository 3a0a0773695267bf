-- `open` meets its contract: the opening over the parts, with the palette lent as a table.
use Rattle.payload.proofs.CoreLaws.{wholes}
use borrow.Author.Rules.{rules}
use Rattle.payload.proofs.open.Goals as goal

pub returns : goal.returns
returns c = search (rules, wholes)
