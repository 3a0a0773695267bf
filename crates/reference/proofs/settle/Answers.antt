-- `settle` meets its contract: where a command ends, the area has room and holds the one before.
use borrow.Author.Rules.{rules}
use Rattle.reference.proofs.StepLaws.{settled-as, settle-room}
use Rattle.reference.proofs.settle.Goals as goal

pub grow-requires : goal.grow-requires
grow-requires c =
    settle-room c.args.frame c.args.ground _ _ c.requires c.end_command-ended.ensures

pub returns : goal.returns
returns c = search (rules, settled-as)
