-- `right_past` meets its contract: one law for no sixel with ink and one for some.
use borrow.Author.Rules.{rules}
use Rattle.fast.proofs.ReachLaws.{pasts}
use Rattle.fast.proofs.reach.right_past.Goals as goal

pub returns-then-inked-eq0 : goal.returns-then-inked-eq0
returns-then-inked-eq0 c = search (rules, pasts)

pub returns : goal.returns
returns c = search (rules, pasts)
