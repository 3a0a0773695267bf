-- `text::Cursor::put_decimal` meets its contract: the digits of the tenth, then the last. The measure is the number. Assumes nothing.
use Rattle.text.proofs.Cursor.+put_decimal.Given as goal

abbrev pub decreases-put_decimal : goal.decreases-put_decimal
decreases-put_decimal l = l.n
