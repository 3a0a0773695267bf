-- Worked examples of the definitions, computed.
use Rattle.std.specs.Prelude.{◌≡◌, refl}
use Rattle.text.specs.Text.{digits, decimal, hex_digit, hex, words}

pub nought : decimal 0 ≡ words "0"
unfolding decimal digits words
nought = refl

pub ten : decimal 10 ≡ words "10"
unfolding decimal digits words
ten = refl

pub largest : decimal 18446744073709551615 ≡ words "18446744073709551615"
unfolding decimal digits words
largest = refl

pub line-feed : hex 10 ≡ words "0A"
unfolding hex hex_digit words
line-feed = refl

pub full : hex 255 ≡ words "FF"
unfolding hex hex_digit words
full = refl
