-- Adler-32 (RFC 1950): the sum of the bytes, from 1, stands in the lower half, and the sum of those sums in the upper.
-- Assumes nothing.
use Rattle.std.specs.Prelude.{ℕ, ◌+◌, ◌*◌, ◌/◌, ◌%◌, List, [], ◌∷◌}

-- the lower half with one byte more
unfoldable pub lower : ℕ → ℕ → ℕ
lower sum byte = (sum % 65536 + byte) % 65521

-- the checksum with one byte more
unfoldable pub with_byte : ℕ → ℕ → ℕ
with_byte sum byte = (sum / 65536 + lower sum byte) % 65521 * 65536 + lower sum byte

-- the checksum with more bytes
unfoldable pub with_bytes : ℕ → List ℕ → ℕ
with_bytes sum [] = sum
with_bytes sum (byte ∷ rest) = with_bytes (with_byte sum byte) rest

-- the checksum of bytes
unfoldable pub adler : List ℕ → ℕ
adler bytes = with_bytes 1 bytes
