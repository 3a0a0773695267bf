-- Only one outcome, of every public function of `numbers` (One.antt).
use Rattle.numbers.proofs.is_skipped.Reads as is-skipped
use Rattle.numbers.proofs.is_skipped.Kinds as is-skipped'
use Rattle.numbers.proofs.is_digit.Reads as is-digit
use Rattle.numbers.proofs.is_digit.Kinds as is-digit'
use Rattle.numbers.proofs.is_sixel.Reads as is-sixel
use Rattle.numbers.proofs.is_sixel.Kinds as is-sixel'
use Rattle.numbers.proofs.ends_payload.Reads as ends-payload
use Rattle.numbers.proofs.ends_payload.Kinds as ends-payload'
use Rattle.numbers.proofs.Parameters.new.Reads as parameters-new
use Rattle.numbers.proofs.Parameters.new.Kinds as parameters-new'
use Rattle.numbers.proofs.Parameters.push.Reads as parameters-push
use Rattle.numbers.proofs.Parameters.push.Kinds as parameters-push'
use Rattle.numbers.proofs.Parameters.digit.Reads as parameters-digit
use Rattle.numbers.proofs.Parameters.digit.Kinds as parameters-digit'
use Rattle.numbers.proofs.Parameters.semicolon.Reads as parameters-semicolon
use Rattle.numbers.proofs.Parameters.semicolon.Kinds as parameters-semicolon'
use Rattle.numbers.proofs.Parameters.store.Reads as parameters-store
use Rattle.numbers.proofs.Parameters.store.Kinds as parameters-store'
use Rattle.numbers.proofs.Parameters.finish.Reads as parameters-finish
use Rattle.numbers.proofs.Parameters.finish.Kinds as parameters-finish'
use Rattle.numbers.proofs.Parameters.renewed.Reads as parameters-renewed
use Rattle.numbers.proofs.Parameters.renewed.Kinds as parameters-renewed'
use Rattle.numbers.proofs.Parameters.count.Reads as parameters-count
use Rattle.numbers.proofs.Parameters.count.Kinds as parameters-count'
use Rattle.numbers.proofs.Parameters.value.Reads as parameters-value
use Rattle.numbers.proofs.Parameters.value.Kinds as parameters-value'
use Rattle.numbers.proofs.more_repeat.Reads as more-repeat
use Rattle.numbers.proofs.more_repeat.Kinds as more-repeat'
use Rattle.numbers.proofs.hold16.Reads as hold16
use Rattle.numbers.proofs.hold16.Kinds as hold16'
use Rattle.numbers.proofs.memory.numbers_of.Reads as numbers-of
use Rattle.numbers.proofs.memory.numbers_of.Kinds as numbers-of'
use Rattle.numbers.proofs.memory.parameters_from.Reads as parameters-from
use Rattle.numbers.proofs.memory.parameters_from.Kinds as parameters-from'
use Rattle.promises.proofs.One.{only, One}

pub is-skipped-one : One is-skipped'.ps is-skipped'.r is-skipped.Learnt
is-skipped-one κs a z z' e e' p q = only p q

pub is-digit-one : One is-digit'.ps is-digit'.r is-digit.Learnt
is-digit-one κs a z z' e e' p q = only p q

pub is-sixel-one : One is-sixel'.ps is-sixel'.r is-sixel.Learnt
is-sixel-one κs a z z' e e' p q = only p q

pub ends-payload-one : One ends-payload'.ps ends-payload'.r ends-payload.Learnt
ends-payload-one κs a z z' e e' p q = only p q

pub parameters-new-one : One parameters-new'.ps parameters-new'.r parameters-new.Learnt
parameters-new-one κs a z z' e e' p q = only p q

pub parameters-push-one : One parameters-push'.ps parameters-push'.r parameters-push.Learnt
parameters-push-one κs a z z' e e' p q = only p q

pub parameters-digit-one : One parameters-digit'.ps parameters-digit'.r parameters-digit.Learnt
parameters-digit-one κs a z z' e e' p q = only p q

pub parameters-semicolon-one : One parameters-semicolon'.ps parameters-semicolon'.r parameters-semicolon.Learnt
parameters-semicolon-one κs a z z' e e' p q = only p q

pub parameters-store-one : One parameters-store'.ps parameters-store'.r parameters-store.Learnt
parameters-store-one κs a z z' e e' p q = only p q

pub parameters-finish-one : One parameters-finish'.ps parameters-finish'.r parameters-finish.Learnt
parameters-finish-one κs a z z' e e' p q = only p q

pub parameters-renewed-one : One parameters-renewed'.ps parameters-renewed'.r parameters-renewed.Learnt
parameters-renewed-one κs a z z' e e' p q = only p q

pub parameters-count-one : One parameters-count'.ps parameters-count'.r parameters-count.Learnt
parameters-count-one κs a z z' e e' p q = only p q

pub parameters-value-one : One parameters-value'.ps parameters-value'.r parameters-value.Learnt
parameters-value-one κs a z z' e e' p q = only p q

pub more-repeat-one : One more-repeat'.ps more-repeat'.r more-repeat.Learnt
more-repeat-one κs a z z' e e' p q = only p q

pub hold16-one : One hold16'.ps hold16'.r hold16.Learnt
hold16-one κs a z z' e e' p q = only p q

pub numbers-of-one : One numbers-of'.ps numbers-of'.r numbers-of.Learnt
numbers-of-one κs a z z' e e' p q = only p q

pub parameters-from-one : One parameters-from'.ps parameters-from'.r parameters-from.Learnt
parameters-from-one κs a z z' e e' p q = only p q
