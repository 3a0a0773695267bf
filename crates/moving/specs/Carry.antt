-- Carrying a picture from one canvas to another (docs/RULES.md, section 14): 12 where either canvas has no such picture; else each pixel of
-- the picture stands at its column and row on the other canvas, whatever the two strides are, and every other byte there stays.
use Rattle.std.specs.Prelude.{ℕ, ◌+◌, ◌*◌, ◌/◌, ◌%◌, cond, ◌&&◌, List, length, slice_index}
use Rattle.canvas.specs.Copy.{has_picture}
use Rattle.canvas.specs.Picture.{Area, grid, replaced, visible}

-- byte k % 4 of the pixel in this column and row
unfoldable pub pixel_byte : ℕ → List ℕ → ℕ → ℕ → ℕ → ℕ
pixel_byte stride canvas k x y = slice_index canvas (4 * (y * stride + x) + k % 4)

-- rule 14.4: the picture's pixels from a canvas on another, the first stride and then the other
unfoldable pub carried : ℕ → ℕ → Area → List ℕ → List ℕ → List ℕ
unfolding pixel_byte
carried stride stride' area canvas other =
    replaced 0 (λ k b. cond (grid stride' (visible area) (k / 4)) (grid stride' (pixel_byte stride canvas k) (k / 4)) b) other

-- rule 14.4: the number of the answer, and what the other canvas holds then
unfoldable pub carried_to : ℕ → ℕ → Area → List ℕ → List ℕ → ℕ × List ℕ
unfolding carried
carried_to stride stride' area canvas other =
    cond (has_picture stride (length canvas) area && has_picture stride' (length other) area)
    (0, carried stride stride' area canvas other)
    (12, other)
