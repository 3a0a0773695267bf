-- Only one outcome, of every public function of `hls` (One.antt).
use Rattle.hls.proofs.percent_to_byte.Reads as percent-to-byte
use Rattle.hls.proofs.percent_to_byte.Kinds as percent-to-byte'
use Rattle.hls.proofs.is_outside.Reads as is-outside
use Rattle.hls.proofs.is_outside.Kinds as is-outside'
use Rattle.hls.proofs.hls_to_rgb.Reads as hls-to-rgb
use Rattle.hls.proofs.hls_to_rgb.Kinds as hls-to-rgb'
use Rattle.promises.proofs.One.{only, One}

pub percent-to-byte-one : One percent-to-byte'.ps percent-to-byte'.r percent-to-byte.Learnt
percent-to-byte-one κs a z z' e e' p q = only p q

pub is-outside-one : One is-outside'.ps is-outside'.r is-outside.Learnt
is-outside-one κs a z z' e e' p q = only p q

pub hls-to-rgb-one : One hls-to-rgb'.ps hls-to-rgb'.r hls-to-rgb.Learnt
hls-to-rgb-one κs a z z' e e' p q = only p.0 q.0
