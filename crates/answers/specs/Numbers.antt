-- Numbers as they are stored: four bytes, the lowest first.
-- Assumes nothing.
use Rattle.std.specs.Prelude.{ℕ, ◌+◌, ◌-◌, ◌*◌, ◌^◌, Bool, true, false, List, ltb, ℤ, pos, negsuc, length, get_or}

abbrev pub pick : {A : Type 0} → Bool → A → A → A
pick true a b = a
pick false a b = b

-- the number of the four bytes at a place, or 0 where fewer stand there
unfoldable pub number_at : List ℕ → ℕ → ℕ
number_at bytes at =
    pick (ltb (length bytes) (at + 4))
    0
    (get_or bytes at 0 + 256 * get_or bytes (at + 1) 0 + 65536 * get_or bytes (at + 2) 0 + 16777216 * get_or bytes (at + 3) 0)

-- the signed number of the same 32 bits; `negsuc n` is -(n + 1)
unfoldable pub signed_of : ℕ → ℤ
signed_of bits = pick (ltb bits (2 ^ 31)) (pos bits) (negsuc (2 ^ 32 - 1 - bits))
