-- `owlgantry_raw_payload_move` meets its contract: the move of the session that the memory holds, in parts (`payload-moved`).
use Rattle.owlgantry.proofs.MovingLaws.{payload-moved}
use borrow.Author.Rules.{rules}
use Rattle.owlgantry.proofs.moves.owlgantry_raw_payload_move.Goals as goal

pub returns : goal.returns
returns c = search (rules, payload-moved)
