-- `dcs::end` meets its contract, which says the record that it returns.
use Rattle.dcs.proofs.SessionLaws.{endings-laws}
use borrow.Author.Rules.{rules}
use Rattle.dcs.proofs.kernel.feeding.end.Goals as goal

pub returns : goal.returns
returns c = search (rules, endings-laws)
