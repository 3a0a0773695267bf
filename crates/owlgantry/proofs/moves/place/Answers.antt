-- `place` meets its contract: a refusal leaves all numbers, and else three are stored.
use Rattle.owlgantry.proofs.MovingLaws.{placing}
use borrow.Author.Rules.{rules}
use Rattle.owlgantry.proofs.moves.place.Goals as goal

pub returns-in-Err : goal.returns-in-Err
returns-in-Err c = search (rules, placing)

pub returns : goal.returns
returns c = search (rules, placing)
