-- Only one outcome, of every public function of `answers` (One.antt).
use Rattle.answers.proofs.with_byte.Reads as with-byte
use Rattle.answers.proofs.with_byte.Kinds as with-byte'
use Rattle.answers.proofs.with_bytes.Reads as with-bytes
use Rattle.answers.proofs.with_bytes.Kinds as with-bytes'
use Rattle.answers.proofs.checksum.Reads as checksum
use Rattle.answers.proofs.checksum.Kinds as checksum'
use Rattle.answers.proofs.registers_sum.Reads as registers-sum
use Rattle.answers.proofs.registers_sum.Kinds as registers-sum'
use Rattle.answers.proofs.number_at.Reads as number-at
use Rattle.answers.proofs.number_at.Kinds as number-at'
use Rattle.answers.proofs.signed.Reads as signed
use Rattle.answers.proofs.signed.Kinds as signed'
use Rattle.answers.proofs.from_p1.Reads as from-p1
use Rattle.answers.proofs.from_p1.Kinds as from-p1'
use Rattle.promises.proofs.One.{only, One}

pub with-byte-one : One with-byte'.ps with-byte'.r with-byte.Learnt
with-byte-one κs a z z' e e' p q = only p q

pub with-bytes-one : One with-bytes'.ps with-bytes'.r with-bytes.Learnt
with-bytes-one κs a z z' e e' p q = only p q

pub checksum-one : One checksum'.ps checksum'.r checksum.Learnt
checksum-one κs a z z' e e' p q = only p q

pub registers-sum-one : One registers-sum'.ps registers-sum'.r registers-sum.Learnt
registers-sum-one κs a z z' e e' p q = only p q

pub number-at-one : One number-at'.ps number-at'.r number-at.Learnt
number-at-one κs a z z' e e' p q = only p q

pub signed-one : One signed'.ps signed'.r signed.Learnt
signed-one κs a z z' e e' p q = only p q

pub from-p1-one : One from-p1'.ps from-p1'.r from-p1.Learnt
from-p1-one κs a z z' e e' p q = only p q
