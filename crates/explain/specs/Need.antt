-- What a refused byte needed, on the code's own records.
use Rattle.std.specs.Prelude.{Option, Some, None, ℕ, ◌+◌, ◌*◌, ◌^◌, min, max, cond, nat_lt}
use Rattle.frame.specs.declared.Frame.{Frame}
use Rattle.frame.specs.declared.Ground.{Ground}
use Rattle.frame.specs.declared.Kind.{Kind}
use Rattle.frame.specs.declared.Kind.TheVariants as kinds
use Rattle.frame.specs.declared.Raster.{Raster}
use Rattle.frame.specs.declared.VisibleArea.{VisibleArea}
use Rattle.frame.specs.Commands.{raster_by, finished_of}
use Rattle.meaning.specs.Tellings.{most_of_side, most_of_all}
use Rattle.words.specs.declared.Shortage.{Shortage}
use Rattle.words.specs.declared.Thing.{Thing}
use Rattle.words.specs.declared.Thing.TheVariants as things

-- the largest number that the code has
abbrev pub largest : ℕ
largest = 18446744073709551615

-- a number above a ceiling is told as more than the ceiling
unfoldable pub short_of : ℕ → Thing → ℕ → ℕ → Shortage
short_of most t n allowed = record { needed = min n most; allowed = allowed; thing = t; more = nat_lt most n }

unfoldable pub pixels_short : ℕ → ℕ → ℕ → Shortage
unfolding short_of
pixels_short w h allowed = short_of most_of_all things.Pixels (w * h) allowed

-- the first limit, or side of the canvas, that a size is above
unfoldable pub size_short : VisibleArea → Ground → ℕ → ℕ → Shortage
unfolding short_of pixels_short
size_short a g w h =
    cond (nat_lt g.limits.width w) (short_of most_of_side things.Columns w g.limits.width)
    (cond (nat_lt g.limits.height h) (short_of most_of_side things.Rows h g.limits.height)
    (cond (nat_lt g.limits.pixels (max a.width w * max a.height h)) (pixels_short (max a.width w) (max a.height h) g.limits.pixels)
    (cond (nat_lt g.stride w) (short_of most_of_side things.Columns w g.stride)
    (short_of most_of_side things.Rows h g.rows))))

-- the next sixel's; sums are held at the largest number
unfoldable pub sixel_short : Frame → Ground → Shortage
unfolding size_short
sixel_short f g = size_short f.area g (min (f.pen.column + f.pen.repeat) largest) (min (f.pen.row + 6) largest)

unfoldable pub raster_short : Frame → Ground → Shortage
unfolding size_short
raster_short f g =
    let r : Raster = raster_by f.raster (finished_of f) in
    size_short f.area g (max 1 r.width) (max 1 r.height)

unfoldable pub repeat_short : Frame → Ground → Shortage
unfolding short_of
repeat_short f g = short_of most_of_all things.Repeats f.command.number g.limits.repeats

-- what is told of a need: nothing, or what ran short
abbrev pub Need : Type 0
Need = Option Shortage

unfoldable pub need_in : Kind → Frame → Ground → Need
unfolding sixel_short repeat_short raster_short
need_in kinds.Data f g = Some (sixel_short f g)
need_in kinds.Repeat f g = Some (repeat_short f g)
need_in kinds.Color f g = None
need_in kinds.Raster f g = Some (raster_short f g)

unfoldable pub need_of : Frame → Ground → Need
unfolding need_in
need_of f g = need_in f.command.kind f g
