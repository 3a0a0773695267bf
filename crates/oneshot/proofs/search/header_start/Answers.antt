use native.Mathlib.Omega.{arith}
use borrow.Author.Rules.{rules}
use Rattle.oneshot.proofs.SearchLaws.{lookings, introducer-short}
use Rattle.oneshot.proofs.search.header_start.Goals as goal

pub loop-at-init : goal.loop-at-init
loop-at-init c = search (rules, lookings)

pub overflow_add-result : goal.overflow_add-result
overflow_add-result c =
    omega (arith, introducer-short _ c.introducer_length-length.ensures, c.well_formed.0.1)

pub returns-then-length-gt0 : goal.returns-then-length-gt0
returns-then-length-gt0 c = search (rules, lookings)

pub loop-at-preserved : goal.loop-at-preserved
loop-at-preserved c = search (rules, lookings)

pub returns : goal.returns
returns c = search (rules, lookings)
