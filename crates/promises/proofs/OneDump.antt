-- Only one outcome, of every public function of `dump` (One.antt).
use Prim.Native.Nat.{ℕ}
use mathlib.Core.List.{List}
use Rattle.dump.proofs.write_picture.Reads as write-picture
use Rattle.dump.proofs.write_picture.Kinds as write-picture'
use Rattle.dump.proofs.write_refusal.Reads as write-refusal
use Rattle.dump.proofs.write_refusal.Kinds as write-refusal'
use Rattle.dump.proofs.outcome.write_outcome.Reads as write-outcome
use Rattle.dump.proofs.outcome.write_outcome.Kinds as write-outcome'
use Rattle.promises.proofs.One.{only, Seen, OneWith}

pub write-picture-one : OneWith write-picture'.ps write-picture'.r write-picture.Learnt (λ κs e. e.0.now)
write-picture-one κs a z z' e e' p q = only p q

pub write-refusal-one : OneWith write-refusal'.ps write-refusal'.r write-refusal.Learnt (λ κs e. e.0.now)
write-refusal-one κs a z z' e e' p q = only p q

pub write-outcome-one : Seen write-outcome'.ps write-outcome'.r write-outcome.Learnt (λ κs. (ℕ × List ℕ) × List ℕ)
    (λ κs z e. ((z, e.0.now), e.1.1.1.1.0.now))
write-outcome-one κs a z z' e e' p q = only p q
