-- A hue in whole degrees (docs/RULES.md, section 9).
use Rattle.std.specs.Prelude.{ℕ, ◌+◌, ◌-◌, ◌%◌, ℤ, pos, negsuc}

-- a signed number modulo 360, never negative; `negsuc n` is -(n + 1)
unfoldable pub modulo360 : ℤ → ℕ
modulo360 (pos n) = n % 360
modulo360 (negsuc n) = 359 - n % 360

-- rule 9.4: the hue with SIXEL's offset
unfoldable pub turned : ℤ → ℕ
turned h = (modulo360 h + 240) % 360
