-- `owlgantry_raw_dcs_move` meets its contract: the move of the session that the memory holds, in parts (`dcs-moved`).
use Rattle.owlgantry.proofs.MovingLaws.{dcs-moved}
use borrow.Author.Rules.{rules}
use Rattle.owlgantry.proofs.moves.owlgantry_raw_dcs_move.Goals as goal

pub returns : goal.returns
returns c = search (rules, dcs-moved)
