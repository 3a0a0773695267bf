-- What the code does with the pixels of sixels without testing their bits.
use Rattle.std.specs.Prelude.{ℕ, ◌+◌, ◌-◌, ◌*◌, ◌%◌, cond, List, [], ◌∷◌, eqb, get_or}
use Rattle.std.specs.Int.Count.{ones}
use Rattle.canvas.specs.Picture.{span}
use Rattle.canvas.specs.Paint.{painted, sixel_painted}

-- a pixel's four bytes
unfoldable pub four_at : List ℕ → ℕ → List ℕ
four_at l at = get_or l (4 * at) 0 ∷ get_or l (4 * at + 1) 0 ∷ get_or l (4 * at + 2) 0 ∷ get_or l (4 * at + 3) 0 ∷ []

-- the canvas with a pixel painted where a bit is 1
unfoldable pub blended : ℕ → ℕ → List ℕ → List ℕ → List ℕ
blended at bit px l = cond (eqb bit 1) (painted (span at (at + 1)) px l) l

-- the canvas with four pixels side by side painted, each where its number is odd
unfoldable pub blended_across : ℕ → List ℕ → List ℕ → List ℕ → List ℕ
unfolding blended
blended_across at four px l =
    blended (at + 3) (get_or four 3 0 % 2) px (blended (at + 2) (get_or four 2 0 % 2) px (blended (at + 1) (get_or four 1 0 % 2) px (blended at (get_or four 0 0 % 2) px l)))

-- the canvas with four sixels side by side painted
unfoldable pub four_painted : ℕ → ℕ → ℕ → List ℕ → List ℕ → List ℕ → List ℕ
four_painted stride column row four px l =
    sixel_painted stride (column + 3) row 1 (get_or four 3 0) px
    (sixel_painted stride (column + 2) row 1 (get_or four 2 0) px
    (sixel_painted stride (column + 1) row 1 (get_or four 1 0) px (sixel_painted stride column row 1 (get_or four 0 0) px l)))

-- their ink
unfoldable pub four_ink : List ℕ → ℕ
four_ink four = ones (get_or four 0 0) + ones (get_or four 1 0) + ones (get_or four 2 0) + ones (get_or four 3 0)

-- the bits of the four sixels from a place on
unfoldable pub sixels_at : List ℕ → ℕ → List ℕ
sixels_at bytes at =
    (get_or bytes at 0 - 63) ∷ (get_or bytes (at + 1) 0 - 63) ∷ (get_or bytes (at + 2) 0 - 63) ∷ (get_or bytes (at + 3) 0 - 63) ∷ []
