use mathlib.Core.Path.{refl}
use native.Mathlib.Omega.{arith}
use borrow.Author.Rules.{rules}
use Rattle.dump.proofs.RowLaws.{pixel-more, row_put}
use Rattle.dump.proofs.put_row.Goals as goal

pub loop-x-init : goal.loop-x-init
loop-x-init c = (refl, refl, omega arith, omega arith)

pub loop-x-preserved : goal.loop-x-preserved
loop-x-preserved c = search (rules, pixel-more)

pub returns-clause-text : goal.returns-clause-text
returns-clause-text c = search (rules, row_put)
