-- `moved_setup` meets its contract: the rows are those of `rows`.
use borrow.Author.Rules.{rules}
use Rattle.moving.proofs.MoveLaws.{setup-made}
use Rattle.moving.proofs.moved_setup.Goals as goal

pub returns : goal.returns
returns c = search (rules, setup-made)
