-- `ratio_for` meets its contract: 0 stands for no ratio.
use Rattle.payload.proofs.SessionLaws.{finishings}
use borrow.Author.Rules.{rules}
use Rattle.payload.proofs.kernel.finishing.ratio_for.Goals as goal

pub returns-then-raster-eq0 : goal.returns-then-raster-eq0
returns-then-raster-eq0 c = search (rules, finishings)

pub returns : goal.returns
returns c = search (rules, finishings)
