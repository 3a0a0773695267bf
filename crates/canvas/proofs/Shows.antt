-- A sixel painted by its column, row, repeat, bits and colour is a stroke painted: what `paint_sixel` ensures, said of a stroke.
-- Assumes nothing.
use mathlib.Core.Path.{◌≡◌, refl}
use mathlib.Core.List.{List}
use Prim.Native.Nat.{ℕ}
use Rattle.canvas.specs.Picture.{Stroke, covers}
use Rattle.canvas.specs.Paint.{sixel_painted, stroked}

-- a sixel's pixels are its stroke's
pub sixel-stroked : (stride : ℕ) (s : Stroke) (l : List ℕ)
    → sixel_painted stride s.column s.row s.repeat s.bits s.colour l ≡ stroked stride s l
unfolding sixel_painted stroked covers
sixel-stroked stride s l = refl
