-- The kinds of bytes in a payload and in a header (docs/RULES.md, section 2).
use Rattle.std.specs.Prelude.{ℕ, Bool, ◌&&◌, ◌||◌, leb, eqb}

-- the bytes from one to another, both counted in
unfoldable pub between : ℕ → ℕ → ℕ → Bool
between first last b = leb first b && leb b last

-- rule 2.1: 00-17, 19, 1C-1F and 7F are skipped, also inside numbers
unfoldable pub skipped : ℕ → Bool
unfolding between
skipped b = leb b 0x17 || (eqb b 0x19 || (between 0x1C 0x1F b || eqb b 0x7F))

-- `0` to `9`
unfoldable pub digit : ℕ → Bool
unfolding between
digit b = between 0x30 0x39 b

-- rule 2.2: 3F-7E is a sixel
unfoldable pub sixel : ℕ → Bool
unfolding between
sixel b = between 0x3F 0x7E b

-- rule 2.7: 18, 1A, 1B and 80-9F end the payload
unfoldable pub ends : ℕ → Bool
unfolding between
ends b = eqb b 0x18 || (between 0x1A 0x1B b || between 0x80 0x9F b)

-- `;` parts two values
abbrev pub semicolon : ℕ
semicolon = 0x3B

-- `!` starts a repeat
abbrev pub bang : ℕ
bang = 0x21

-- `"` starts a raster
abbrev pub quote : ℕ
quote = 0x22

-- `#` starts a colour
abbrev pub hash : ℕ
hash = 0x23

-- `$` goes back to column 0
abbrev pub dollar : ℕ
dollar = 0x24

-- `-` goes to the next band
abbrev pub dash : ℕ
dash = 0x2D
