-- Percents (docs/RULES.md, section 9).
use Rattle.std.specs.Prelude.{ℕ, ◌+◌, ◌*◌, ◌/◌, min, Bool, true, ℤ, pos, negsuc, nat_lt}
use Rattle.hls.specs.declared.Percent.{Percent}

-- rule 9.2: a signed number clamped to 0 to 100
unfoldable pub held : ℤ → ℕ
held (pos n) = min n 100
held (negsuc n) = 0

-- rule 9.2: a percent's byte: (255v + 50) / 100 rounded down, with v clamped
unfoldable pub percent_byte : ℤ → ℕ
percent_byte v = (255 * held v + 50) / 100

-- rule 9.10: a number is held where it lies outside 0 to 100
unfoldable pub outside : ℤ → Bool
outside (pos n) = nat_lt 100 n
outside (negsuc n) = true

-- rules 9.2, 9.10: a percent's byte, and whether it was held
unfoldable pub percent_of : ℤ → Percent
unfolding percent_byte outside
percent_of v = record { byte = percent_byte v; held = outside v }
