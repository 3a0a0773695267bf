-- Marks (docs/RULES.md, section 9): which registers colour commands have defined. A register's number has its colour in 24 bits, its mark
-- above them, and above that whether the frame that is being read defined it.
-- Assumes nothing.
use Rattle.std.specs.Prelude.{ℕ, zero, suc, ◌+◌, ◌/◌, ◌%◌, ◌<◌, min, List, Bool, cond, eqb, ltb, ℤ, get_or, set}
use Rattle.hls.specs.Hls.{pick}
use Rattle.colours.specs.declared.Palette.{Palette}
use Rattle.colours.specs.Standard.{listed}
use Rattle.colours.specs.Palette.{register_count, colour_unit, of_table, rgb_colour, hls_colour, rgb_held, hls_held}

-- rule 9.8: the number's next bit above its colour is the mark
abbrev pub mark_unit : ℕ
mark_unit = colour_unit

-- rule 9.9: the one above that says that this frame defined the register
abbrev pub frame_unit : ℕ
frame_unit = 33554432

-- rule 9.8: whether register n is marked; above 255 whether 255 is
unfoldable pub is_marked : Palette → ℕ → Bool
is_marked p n = eqb (get_or p.colors (min n 255) 0 / mark_unit % 2) 1

-- rule 9.9: whether this frame has defined register n; above 255 whether it has 255
unfoldable pub is_defined : Palette → ℕ → Bool
is_defined p n = eqb (get_or p.colors (min n 255) 0 / frame_unit % 2) 1

-- rule 9.8: register n as a colour command defines it: of this colour, marked, and by this frame; above 255 nothing changes
unfoldable pub defined : Palette → ℕ → ℕ → Palette
defined p n color = pick (ltb n register_count) (of_table (set p.colors n (frame_unit + mark_unit + color % colour_unit))) p

-- rules 9.3, 9.8: defined by percents of red, green and blue
unfoldable pub defined_rgb : Palette → ℕ → ℤ → ℤ → ℤ → Palette
defined_rgb p n r g b = defined p n (rgb_colour r g b)

-- rules 9.4, 9.8: defined by hue, lightness and saturation
unfoldable pub defined_hls : Palette → ℕ → ℤ → ℤ → ℤ → Palette
defined_hls p n h l s = defined p n (hls_colour h l s)

-- rule 9.10: what a definition answers, whether one of its values was held, and the palette after it
unfoldable pub defining_rgb : Palette → ℕ → ℤ → ℤ → ℤ → Bool × Palette
unfolding rgb_held defined_rgb
defining_rgb p n r g b = (rgb_held r g b, defined_rgb p n r g b)

-- rule 9.10: the same by hue, lightness and saturation
unfoldable pub defining_hls : Palette → ℕ → ℤ → ℤ → ℤ → Bool × Palette
unfolding hls_held defined_hls
defining_hls p n h l s = (hls_held l s, defined_hls p n h l s)

-- rule 9.9: what lasts from frame to frame: each register's colour and mark
unfoldable pub lasting : Palette → Palette
lasting p = of_table (listed (λ n. get_or p.colors n 0 % frame_unit) 0 register_count)

-- n registers from one on have nothing above their marks
abbrev pub Lasting : List ℕ → ℕ → ℕ → Type 0
Lasting colors first n = (k : ℕ) → k < n → get_or colors (first + k) 0 < frame_unit

-- of how many registers below n something holds
unfoldable pub counted : (ℕ → Bool) → ℕ → ℕ
counted holds zero = 0
counted holds (suc n) = counted holds n + cond (holds n) 1 0

-- rule 9.9: how many registers this frame has defined, each once
unfoldable pub defined_count : Palette → ℕ
defined_count p = counted (is_defined p) register_count
