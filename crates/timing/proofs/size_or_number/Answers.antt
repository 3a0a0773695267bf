-- `size_or_number` meets its contract: a size within the house's limits fits the two halves of a number.
use Rattle.timing.proofs.BenchLaws.{width_fits, height-fits, numbered}
use borrow.Author.Rules.{rules}
use native.Mathlib.Omega.{arith}
use Rattle.timing.proofs.size_or_number.Goals as goal

pub overflow_mul-result : goal.overflow_mul-result
overflow_mul-result c =
    omega (arith, width_fits c.requires c.in-Ok.is, height-fits c.requires c.in-Ok.is)

pub overflow_add-result : goal.overflow_add-result
overflow_add-result c =
    omega (arith, width_fits c.requires c.in-Ok.is, height-fits c.requires c.in-Ok.is)

pub returns-in-Ok : goal.returns-in-Ok
returns-in-Ok c p = search (rules, numbered)

pub returns-in-Err : goal.returns-in-Err
returns-in-Err c p = search (rules, numbered)
