-- Only one outcome, of every public function of `words` (One.antt).
use Rattle.words.proofs.put_refusal.Reads as put-refusal
use Rattle.words.proofs.put_refusal.Kinds as put-refusal'
use Rattle.words.proofs.memory.numbers_of.Reads as numbers-of
use Rattle.words.proofs.memory.numbers_of.Kinds as numbers-of'
use Rattle.words.proofs.memory.put_numbers.Reads as put-numbers
use Rattle.words.proofs.memory.put_numbers.Kinds as put-numbers'
use Rattle.promises.proofs.One.{only, One, OneWith}

pub put-refusal-one : OneWith put-refusal'.ps put-refusal'.r put-refusal.Learnt (λ κs e. e.0.now)
put-refusal-one κs a z z' e e' p q = only p q

pub numbers-of-one : One numbers-of'.ps numbers-of'.r numbers-of.Learnt
numbers-of-one κs a z z' e e' p q = only p q

pub put-numbers-one : OneWith put-numbers'.ps put-numbers'.r put-numbers.Learnt (λ κs e. e.0.now)
put-numbers-one κs a z z' e e' p q = only p q
