-- `canvas::copy_picture` meets its contract: one law of `Copies` for each answer, and what the first test leaves for the copy.
-- Assumes nothing.
use native.Mathlib.Omega.{arith}
use borrow.Author.Rules.{rules}
use Rattle.canvas.specs.Copy.{number_of, size_of}
use Rattle.canvas.proofs.Copies.{path_room, copy-paths}
use Rattle.canvas.proofs.copy_picture.Goals as goal

pub returns-then-not-has_picture : goal.returns-then-not-has_picture
unfolding number_of
returns-then-not-has_picture c = search (rules, copy-paths)

pub overflow_mul-width : goal.overflow_mul-width
overflow_mul-width c = omega (arith, path_room _ _ _ _ c.has_picture.ensures c.if-not-has_picture.false-raw)

pub overflow_mul-width-2 : goal.overflow_mul-width-2
overflow_mul-width-2 c = omega (arith, path_room _ _ _ _ c.has_picture.ensures c.if-not-has_picture.false-raw)

pub returns-then-out-width : goal.returns-then-out-width
unfolding number_of
returns-then-out-width c = search (rules, copy-paths)

pub copy_rows-requires : goal.copy_rows-requires
unfolding size_of
copy_rows-requires c = search (rules, copy-paths)

pub returns : goal.returns
unfolding number_of
returns c = search (rules, copy-paths)
