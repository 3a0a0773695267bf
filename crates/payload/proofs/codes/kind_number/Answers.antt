-- `kind_number` meets its contract: one case for each kind.
use Rattle.payload.specs.Codes.{kind_number}
use Rattle.payload.proofs.CodeLaws.{codes_as}
use borrow.Author.Rules.{rules}
use Rattle.payload.proofs.codes.kind_number.Goals as goal

pub returns-in-Data : goal.returns-in-Data
unfolding kind_number
returns-in-Data c = search (rules, codes_as)

pub returns-in-Repeat : goal.returns-in-Repeat
unfolding kind_number
returns-in-Repeat c = search (rules, codes_as)

pub returns-in-Color : goal.returns-in-Color
unfolding kind_number
returns-in-Color c = search (rules, codes_as)

pub returns-in-Raster : goal.returns-in-Raster
unfolding kind_number
returns-in-Raster c = search (rules, codes_as)
