-- Only one outcome, of every public function of `pieces` (One.antt).
use Rattle.pieces.proofs.open.Reads as opening
use Rattle.pieces.proofs.open.Kinds as opening'
use Rattle.pieces.proofs.standing_of.Reads as standing-of
use Rattle.pieces.proofs.standing_of.Kinds as standing-of'
use Rattle.pieces.proofs.counts_of.Reads as counts-of
use Rattle.pieces.proofs.counts_of.Kinds as counts-of'
use Rattle.pieces.proofs.take.Reads as take
use Rattle.pieces.proofs.take.Kinds as take'
use Rattle.pieces.proofs.finish.Reads as finish
use Rattle.pieces.proofs.finish.Kinds as finish'
use Rattle.pieces.proofs.copy.Reads as copy
use Rattle.pieces.proofs.copy.Kinds as copy'
use Rattle.promises.proofs.Meanings.{copied-known}
use Rattle.promises.proofs.One.{only, One, OneWith}

pub opening-one : One opening'.ps opening'.r opening.Learnt
opening-one κs a z z' e e' p q = only p q

pub standing-of-one : One standing-of'.ps standing-of'.r standing-of.Learnt
standing-of-one κs a z z' e e' p q = only p q

pub counts-of-one : One counts-of'.ps counts-of'.r counts-of.Learnt
counts-of-one κs a z z' e e' p q = only p q

pub take-one : OneWith take'.ps take'.r take.Learnt (λ κs e. e.1.0.now)
take-one κs a z z' e e' p q = only p q

pub finish-one : OneWith finish'.ps finish'.r finish.Learnt (λ κs e. e.1.1.0.now)
finish-one κs a z z' e e' p q = only p q

pub copy-one : OneWith copy'.ps copy'.r copy.Learnt (λ κs e. e.1.1.1.0.now)
copy-one κs a z z' e e' p q = copied-known (only p q)
