-- A palette, read and set by register (docs/RULES.md, section 9). Only `of_table`, `register_of` and `stored` look inside one, and marks.
-- Assumes nothing.
use Rattle.std.specs.Prelude.{ℕ, ◌+◌, ◌*◌, ◌/◌, ◌%◌, min, Bool, ◌||◌, List, ltb, ℤ, get_or, set}
use Rattle.hls.specs.Percent.{outside, percent_byte}
use Rattle.hls.specs.Hls.{pick, hls_bytes}
use Rattle.colours.specs.declared.Mixed.{Mixed}
use Rattle.colours.specs.declared.Palette.{Palette}
use Rattle.colours.specs.declared.Set.{Set}
use Rattle.colours.specs.Packing.{packed, pixel_of}
use Rattle.colours.specs.Standard.{standard_at, listed}

-- rule 9.1: a palette has this many registers
abbrev pub register_count : ℕ
register_count = 256

-- the palette whose registers hold these numbers
unfoldable pub of_table : List ℕ → Palette
of_table colors = record { colors = colors }

-- rule 9.6: the standard palette
unfoldable pub standard : Palette
standard = of_table (listed standard_at 0 register_count)

-- rule 9.1: the pixel of register n; above 255 that of 255
unfoldable pub register_of : Palette → ℕ → List ℕ
register_of p n = pixel_of (get_or p.colors (min n 255) 0)

-- rule 9.1: a register's number has its colour below this
abbrev pub colour_unit : ℕ
colour_unit = 16777216

-- rule 9.8: a register's number with another colour: its mark, the next bit above the colour, stays
unfoldable pub recoloured : ℕ → ℕ → ℕ
recoloured number color = number / colour_unit % 2 * colour_unit + color % colour_unit

-- rule 9.1: register n holds the colour; above 255 nothing changes
unfoldable pub stored : Palette → ℕ → ℕ → Palette
stored p n color = pick (ltb n register_count) (of_table (set p.colors n (recoloured (get_or p.colors n 0) color))) p

-- rule 9.3: the colour of percents of red, green and blue
unfoldable pub rgb_colour : ℤ → ℤ → ℤ → ℕ
rgb_colour r g b = packed (percent_byte r) (percent_byte g) (percent_byte b)

-- rule 9.3: register n set by them
unfoldable pub set_rgb : Palette → ℕ → ℤ → ℤ → ℤ → Palette
set_rgb p n r g b = stored p n (rgb_colour r g b)

-- the number of three channel bytes
unfoldable pub packed_bytes : List ℕ → ℕ
packed_bytes rgb = packed (get_or rgb 0 0) (get_or rgb 1 0) (get_or rgb 2 0)

-- rule 9.4: the colour of a hue, a lightness and a saturation
unfoldable pub hls_colour : ℤ → ℤ → ℤ → ℕ
hls_colour h l s = packed_bytes (hls_bytes h l s)

-- rule 9.4: register n set by them
unfoldable pub set_hls : Palette → ℕ → ℤ → ℤ → ℤ → Palette
set_hls p n h l s = stored p n (hls_colour h l s)

-- ---- values that were held

-- rule 9.10: one of three percents was held
unfoldable pub rgb_held : ℤ → ℤ → ℤ → Bool
rgb_held r g b = outside r || (outside g || outside b)

-- rule 9.10: the lightness or the saturation was; a hue never is
unfoldable pub hls_held : ℤ → ℤ → Bool
hls_held l s = outside l || outside s

-- a colour, and whether one of its values was held
unfoldable pub rgb_mixed : ℤ → ℤ → ℤ → Mixed
unfolding rgb_colour rgb_held
rgb_mixed r g b = record { color = rgb_colour r g b; held = rgb_held r g b }

unfoldable pub hls_mixed : ℤ → ℤ → ℤ → Mixed
unfolding hls_colour hls_held
hls_mixed h l s = record { color = hls_colour h l s; held = hls_held l s }

-- rules 9.3, 9.10: what the owner's setting of a register answers
unfoldable pub rgb_set : Palette → ℕ → ℤ → ℤ → ℤ → Set
unfolding set_rgb rgb_held
rgb_set p n r g b = record { palette = set_rgb p n r g b; held = rgb_held r g b }

-- rules 9.4, 9.10: the same by hue, lightness and saturation
unfoldable pub hls_set : Palette → ℕ → ℤ → ℤ → ℤ → Set
unfolding set_hls hls_held
hls_set p n h l s = record { palette = set_hls p n h l s; held = hls_held l s }
