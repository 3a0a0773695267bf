-- Text, and writing it at a cursor. A cursor and its buffer are a pair: the place where the next byte goes, and the bytes.
-- Assumes nothing.
use Rattle.std.specs.Prelude.{ℕ, zero, suc, ◌+◌, ◌/◌, ◌%◌, cond, List, [], ◌∷◌, ◌++◌, ltb, length, set}
use Prim.Native.Char.{code}
use Prim.Native.String.{String, [] as nil, ◌∷◌ as cons}

-- a byte goes to the cursor's place, and the cursor moves on; where there is no room, nothing changes
unfoldable pub put_byte : ℕ → ℕ × List ℕ → ℕ × List ℕ
put_byte byte (at, out) = cond (ltb at (length out)) (at + 1, set out at byte) (at, out)

-- bytes go there one after another
unfoldable pub put : List ℕ → ℕ × List ℕ → ℕ × List ℕ
put [] there = there
put (byte ∷ rest) there = put rest (put_byte byte there)

-- the decimal digits of a number that has no more than so many
unfoldable pub digits : ℕ → ℕ → List ℕ
digits zero n = []
digits (suc places) n = cond (ltb n 10) ((48 + n) ∷ []) (digits places (n / 10) ++ ((48 + n % 10) ∷ []))

-- the decimal digits of a number of 64 bits, which has no more than 20
unfoldable pub decimal : ℕ → List ℕ
decimal n = digits 20 n

-- a hex digit, upper case
unfoldable pub hex_digit : ℕ → ℕ
hex_digit n = cond (ltb n 10) (48 + n) (55 + n)

-- a byte as two of them
unfoldable pub hex : ℕ → List ℕ
hex byte = hex_digit (byte / 16) ∷ hex_digit (byte % 16) ∷ []

-- a text's characters as bytes
unfoldable pub words : String → List ℕ
words nil = []
words (cons c rest) = code c ∷ words rest
