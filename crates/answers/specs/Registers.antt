-- The checksum of a palette, each register as the four bytes of its pixel.
-- Assumes nothing.
use Rattle.std.specs.Prelude.{ℕ, zero, suc, ◌+◌, List, [], ◌++◌}
use Rattle.colours.specs.declared.Palette.{Palette}
use Rattle.colours.specs.Palette.{register_count, register_of}
use Rattle.answers.specs.Adler.{adler}

-- the bytes of so many registers from one on
unfoldable pub register_bytes : Palette → ℕ → ℕ → List ℕ
register_bytes p from zero = []
register_bytes p from (suc n) = register_of p from ++ register_bytes p (from + 1) n

-- the checksum of all
unfoldable pub registers_sum : Palette → ℕ
registers_sum p = adler (register_bytes p 0 register_count)
