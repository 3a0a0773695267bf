-- Only one outcome, of every public function of `text` (One.antt): where the cursor stands, and its buffer's bytes.
use Prim.Native.Nat.{ℕ}
use mathlib.Core.List.{List}
use Rattle.text.specs.Stand.{there}
use Rattle.text.proofs.Cursor.put_byte.Reads as put-byte
use Rattle.text.proofs.Cursor.put_byte.Kinds as put-byte'
use Rattle.text.proofs.Cursor.put_words.Reads as put-words
use Rattle.text.proofs.Cursor.put_words.Kinds as put-words'
use Rattle.text.proofs.Cursor.put_decimal.Reads as put-decimal
use Rattle.text.proofs.Cursor.put_decimal.Kinds as put-decimal'
use Rattle.text.proofs.Cursor.put_hex.Reads as put-hex
use Rattle.text.proofs.Cursor.put_hex.Kinds as put-hex'
use Rattle.promises.proofs.One.{only, Seen}

pub put-byte-one : Seen put-byte'.ps put-byte'.r put-byte.Learnt (λ κs. ℕ × List ℕ) (λ κs z e. there e.0.now)
put-byte-one κs a z z' e e' p q = only p.1 q.1

pub put-words-one : Seen put-words'.ps put-words'.r put-words.Learnt (λ κs. ℕ × List ℕ) (λ κs z e. there e.0.now)
put-words-one κs a z z' e e' p q = only p.1 q.1

pub put-decimal-one : Seen put-decimal'.ps put-decimal'.r put-decimal.Learnt (λ κs. ℕ × List ℕ) (λ κs z e. there e.0.now)
put-decimal-one κs a z z' e e' p q = only p.1 q.1

pub put-hex-one : Seen put-hex'.ps put-hex'.r put-hex.Learnt (λ κs. ℕ × List ℕ) (λ κs z e. there e.0.now)
put-hex-one κs a z z' e e' p q = only p.1 q.1
