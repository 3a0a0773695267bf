-- `life_number` meets its contract: one case for each life.
use Rattle.payload.specs.Codes.{life_number}
use Rattle.payload.proofs.CodeLaws.{codes_as}
use borrow.Author.Rules.{rules}
use Rattle.payload.proofs.codes.life_number.Goals as goal

pub returns-in-Live : goal.returns-in-Live
unfolding life_number
returns-in-Live c = search (rules, codes_as)

pub returns-in-Ended : goal.returns-in-Ended
unfolding life_number
returns-in-Ended c = search (rules, codes_as)

pub returns-in-Failed : goal.returns-in-Failed
unfolding life_number
returns-in-Failed c = search (rules, codes_as)
