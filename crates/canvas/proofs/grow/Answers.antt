-- `canvas::grow` meets its contract: the new pixels are the two rectangles that it paints (`grown-parts`), and the first leaves the
-- canvas its rows. Assumes nothing.
use Rattle.canvas.proofs.Growth.{rows-kept, grown-parts}
use borrow.Author.Rules.{rules}
use Rattle.canvas.proofs.grow.Goals as goal

pub fill_rectangle-requires-2 : goal.fill_rectangle-requires-2
fill_rectangle-requires-2 c = search (rules, rows-kept)

pub returns : goal.returns
returns c = search (rules, grown-parts)
