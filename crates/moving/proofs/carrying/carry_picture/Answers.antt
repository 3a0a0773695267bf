-- `carry_picture` meets its contract: one law for each answer, and what the two tests leave for the rows.
use borrow.Author.Rules.{rules}
use Rattle.canvas.specs.Copy.{number_of}
use Rattle.moving.proofs.CarryLaws.{path-second, path-columns, path-rows, carry-paths}
use Rattle.moving.proofs.carrying.carry_picture.Goals as goal

pub returns-then-not-has_picture : goal.returns-then-not-has_picture
unfolding number_of
returns-then-not-has_picture c = search (rules, carry-paths)

pub returns-then-not-has_picture-2 : goal.returns-then-not-has_picture-2
unfolding number_of
returns-then-not-has_picture-2 c =
    path-second _ _ _ _ _ _ c.has_picture.ensures c.if-not-has_picture.false-raw c.has_picture-2.ensures c.if-not-has_picture-2.true-raw

pub copy_rows-requires : goal.copy_rows-requires
copy_rows-requires c = (
  path-columns _ _ _ _ c.has_picture.ensures c.if-not-has_picture.false-raw,
  path-rows _ _ _ _ c.has_picture.ensures c.if-not-has_picture.false-raw,
  path-columns _ _ _ _ c.has_picture-2.ensures c.if-not-has_picture-2.false-raw,
  path-rows _ _ _ _ c.has_picture-2.ensures c.if-not-has_picture-2.false-raw,
)

pub returns : goal.returns
unfolding number_of
returns c = search (rules, carry-paths)
