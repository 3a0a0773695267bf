-- What painting does to the bytes of a canvas: the pixels that a test picks get the four bytes of one pixel, and every
-- other byte stays as it was.
use Rattle.std.specs.Prelude.{ℕ, ◌/◌, ◌%◌, Bool, cond, not, ◌&&◌, List, [], ◌∷◌, get_or}
use Rattle.canvas.specs.Picture.{Stroke, Area, replaced, grid, span, covers, in_sixel, visible, reach}

-- the canvas with each pixel of a cover painted: its byte k becomes byte k % 4 of the pixel
unfoldable pub painted : (ℕ → Bool) → List ℕ → List ℕ → List ℕ
painted cover px canvas = replaced 0 (λ k b. cond (cover (k / 4)) (get_or px (k % 4) 0) b) canvas

-- the pixels of the columns from `left` up to `right` and the rows from `top` up to `bottom`
unfoldable pub rectangle : ℕ → ℕ → ℕ → ℕ → ℕ → ℕ → Bool
rectangle left right top bottom x y = span left right x && span top bottom y

-- the pixels that an area has and a smaller one does not
unfoldable pub fresh : Area → Area → ℕ → ℕ → Bool
fresh old new x y = visible new x y && not (visible old x y)

-- the canvas with a sixel's pixels painted
unfoldable pub sixel_painted : ℕ → ℕ → ℕ → ℕ → ℕ → List ℕ → List ℕ → List ℕ
sixel_painted stride column row repeat bits px canvas = painted (grid stride (in_sixel column row repeat bits)) px canvas

-- the canvas with a stroke painted
unfoldable pub stroked : ℕ → Stroke → List ℕ → List ℕ
stroked stride s canvas = painted (grid stride (covers s)) s.colour canvas

-- the canvas with the background given to the new pixels of a larger area
unfoldable pub grown : ℕ → Area → Area → List ℕ → List ℕ → List ℕ
grown stride old new background canvas = painted (grid stride (fresh old new)) background canvas

-- the canvas with strokes painted in turn
unfoldable pub stroked_all : ℕ → List Stroke → List ℕ → List ℕ
stroked_all stride [] canvas = canvas
stroked_all stride (s ∷ later) canvas = stroked_all stride later (stroked stride s canvas)

-- an area grown to strokes in turn
unfoldable pub reach_all : Area → List Stroke → Area
reach_all area [] = area
reach_all area (s ∷ later) = reach_all (reach area s) later

-- the canvas with strokes painted in turn, the area grown for each before it is painted
unfoldable pub grown_each : ℕ → Area → List ℕ → List Stroke → List ℕ → List ℕ
grown_each stride area background [] canvas = canvas
grown_each stride area background (s ∷ later) canvas =
    grown_each stride (reach area s) background later (stroked stride s (grown stride area (reach area s) background canvas))
