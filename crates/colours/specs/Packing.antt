-- A colour as one number: red, green and blue in its three lowest bytes, blue lowest.
-- Assumes nothing.
use Rattle.std.specs.Prelude.{ℕ, ◌+◌, ◌*◌, ◌/◌, ◌%◌, List, [], ◌∷◌}

-- the number of a red, a green and a blue
unfoldable pub packed : ℕ → ℕ → ℕ → ℕ
packed r g b = r * 65536 + g * 256 + b

-- the pixel of such a number: red, green, blue, and alpha FF
unfoldable pub pixel_of : ℕ → List ℕ
pixel_of color = color / 65536 % 256 ∷ color / 256 % 256 ∷ color % 256 ∷ 255 ∷ []
