-- Only one outcome, of every public function of `moving`, and of the three of `owlgantry` over the caller's memory (One.antt).
use Prim.Native.Nat.{ℕ}
use mathlib.Core.List.{List, []}
use Rattle.colours.specs.Palette.{of_table}
use Rattle.moving.proofs.carrying.carry_picture.Reads as carrying-carry-picture
use Rattle.moving.proofs.carrying.carry_picture.Kinds as carrying-carry-picture'
use Rattle.moving.proofs.payload_session.move_answer.Reads as payload-session-move-answer
use Rattle.moving.proofs.payload_session.move_answer.Kinds as payload-session-move-answer'
use Rattle.moving.proofs.payload_session.move_to.Reads as payload-session-move-to
use Rattle.moving.proofs.payload_session.move_to.Kinds as payload-session-move-to'
use Rattle.moving.proofs.dcs_session.move_answer.Reads as dcs-session-move-answer
use Rattle.moving.proofs.dcs_session.move_answer.Kinds as dcs-session-move-answer'
use Rattle.moving.proofs.dcs_session.move_to.Reads as dcs-session-move-to
use Rattle.moving.proofs.dcs_session.move_to.Kinds as dcs-session-move-to'
use Rattle.owlgantry.proofs.moves.owlgantry_raw_payload_move.Reads as owlgantry-raw-payload-move
use Rattle.owlgantry.proofs.moves.owlgantry_raw_payload_move.Kinds as owlgantry-raw-payload-move'
use Rattle.owlgantry.proofs.moves.owlgantry_raw_dcs_move.Reads as owlgantry-raw-dcs-move
use Rattle.owlgantry.proofs.moves.owlgantry_raw_dcs_move.Kinds as owlgantry-raw-dcs-move'
use Rattle.owlgantry.proofs.moves.owlgantry_raw_carry.Reads as owlgantry-raw-carry
use Rattle.owlgantry.proofs.moves.owlgantry_raw_carry.Kinds as owlgantry-raw-carry'
use Rattle.promises.proofs.Meanings.{copied-known}
use Rattle.promises.proofs.One.{only, Seen, One, OneWith}

pub carrying-carry-picture-one : OneWith carrying-carry-picture'.ps carrying-carry-picture'.r carrying-carry-picture.Learnt (λ κs e. e.1.1.1.1.0.now)
carrying-carry-picture-one κs a z z' e e' p q = copied-known (only p q)

-- whatever palette stands beside the parts
pub payload-session-move-answer-one : One payload-session-move-answer'.ps payload-session-move-answer'.r payload-session-move-answer.Learnt
payload-session-move-answer-one κs a z z' e e' p q = only (p (of_table [])) (q (of_table []))

pub payload-session-move-to-one : One payload-session-move-to'.ps payload-session-move-to'.r payload-session-move-to.Learnt
payload-session-move-to-one κs a z z' e e' p q = only p q

pub dcs-session-move-answer-one : One dcs-session-move-answer'.ps dcs-session-move-answer'.r dcs-session-move-answer.Learnt
dcs-session-move-answer-one κs a z z' e e' p q = only (p (of_table [])) (q (of_table []))

pub dcs-session-move-to-one : One dcs-session-move-to'.ps dcs-session-move-to'.r dcs-session-move-to.Learnt
dcs-session-move-to-one κs a z z' e e' p q = only p q

-- the answer, the session's numbers and the report
pub owlgantry-raw-payload-move-one : Seen owlgantry-raw-payload-move'.ps owlgantry-raw-payload-move'.r owlgantry-raw-payload-move.Learnt
    (λ κs. ℕ × List ℕ × List ℕ)
    (λ κs z e. (z, e.0.now, e.1.1.1.0.now))
owlgantry-raw-payload-move-one κs a z z' e e' p q = only p q

pub owlgantry-raw-dcs-move-one : Seen owlgantry-raw-dcs-move'.ps owlgantry-raw-dcs-move'.r owlgantry-raw-dcs-move.Learnt
    (λ κs. ℕ × List ℕ × List ℕ)
    (λ κs z e. (z, e.0.now, e.1.1.1.0.now))
owlgantry-raw-dcs-move-one κs a z z' e e' p q = only p q

-- the answer and the other canvas
pub owlgantry-raw-carry-one : OneWith owlgantry-raw-carry'.ps owlgantry-raw-carry'.r owlgantry-raw-carry.Learnt (λ κs e. e.1.1.1.1.0.now)
owlgantry-raw-carry-one κs a z z' e e' p q = only p q
