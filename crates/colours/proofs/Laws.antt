-- Laws of colours: the round trip of packing and reading back is the identity; and a signed number as a callee has it.
-- Assumes nothing.
use mathlib.Core.Path.{◌≡◌}
use mathlib.Core.List.{[], ◌∷◌}
use Prim.Native.Nat.{ℕ, ◌+◌, ◌*◌, ◌/◌, ◌%◌, ◌^◌, ◌<◌}
use native.Mathlib.Omega.{arith}
use lib.IntN.{ℤ, pos}
use mir.Syntax.{w32}
use mir.Val.{to_z, of_z}
use mir.ValLaws.{to_z-of_z}
use Rattle.colours.specs.Packing.{packed, pixel_of}

-- three bytes, packed and read back as a pixel, are the same three bytes
pub pixel-packed : (r g b : ℕ) → r < 256 → g < 256 → b < 256 → pixel_of (packed r g b) ≡ r ∷ g ∷ b ∷ 255 ∷ []
unfolding packed pixel_of
pixel-packed r g b hr hg hb =
    let red : (r * 65536 + g * 256 + b) / 65536 % 256 ≡ r = omega arith in
    let green : (r * 65536 + g * 256 + b) / 256 % 256 ≡ g = omega arith in
    let blue : (r * 65536 + g * 256 + b) % 256 ≡ b = omega arith in
    rw (red, green, blue)

-- a signed number as a callee has it: read back from its bits
abbrev pub passed : ℤ → ℤ
passed v = to_z w32 (of_z w32 v)

-- for a caller that passes an unsigned number as a signed one
pub passed-pos : (v : ℕ) → v < 2 ^ 31 → passed (pos v) ≡ pos v
passed-pos v h = to_z-of_z w32 (pos v) (record { sfits = h })
