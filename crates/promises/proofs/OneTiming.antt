-- Only one outcome, of the reading that is timed (One.antt).
use Rattle.timing.proofs.sixbench_decode.Reads as sixbench-decode
use Rattle.timing.proofs.sixbench_decode.Kinds as sixbench-decode'
use Rattle.promises.proofs.One.{only, OneWith}

pub sixbench-decode-one : OneWith sixbench-decode'.ps sixbench-decode'.r sixbench-decode.Learnt (λ κs e. e.0.now)
sixbench-decode-one κs a z z' e e' p q = only p q
