-- The ratio that the Rust gives where ours is left to P1 (sixel_image.rs, `from_p1`).
-- Assumes nothing.
use Rattle.std.specs.Prelude.{ℕ, ltb}
use Rattle.answers.specs.Numbers.{pick}

-- the vertical part of P1's ratio to 1: 0, 1 two, 2 five, 3, 4 three, 5, 6 two; any other number, and none, stored as 65,536, is square
unfoldable pub from_p1 : ℕ → ℕ
from_p1 p1 = pick (ltb p1 2) 2 (pick (ltb p1 3) 5 (pick (ltb p1 5) 3 (pick (ltb p1 7) 2 1)))
