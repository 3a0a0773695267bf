-- `placeless` meets its contract: a number and nothing else.
use borrow.Author.Rules.{rules}
use Rattle.explain.proofs.ExplainLaws.{telling}
use Rattle.explain.proofs.placeless.Goals as goal

pub returns : goal.returns
returns c = search (rules, telling)
