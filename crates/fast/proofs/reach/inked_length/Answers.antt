-- `inked_length` meets its contract: all after the byte that is found are blank, or all are where none is.
use borrow.Author.Rules.{rules}
use Rattle.fast.proofs.ReachLaws.{inked-last, inked-none}
use Rattle.fast.proofs.reach.inked_length.Goals as goal

pub returns-in-Some : goal.returns-in-Some
returns-in-Some c =
    inked-last c.args.bytes.now c.args.from c.args.count c.in-Some.last (search rules) (search rules) (search rules)

pub returns-in-None : goal.returns-in-None
returns-in-None c = inked-none c.args.bytes.now c.args.from c.args.count (search rules)
