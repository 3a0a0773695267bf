-- `told_at` meets its contract: a number, a place and a need.
use borrow.Author.Rules.{rules}
use Rattle.explain.proofs.ExplainLaws.{telling}
use Rattle.explain.proofs.told_at.Goals as goal

pub returns : goal.returns
returns c = search (rules, telling)
