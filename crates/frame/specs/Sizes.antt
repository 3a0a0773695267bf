-- The area that a size needs on the code's own records, or its refusal.
use Rattle.std.specs.Prelude.{ℕ, ◌+◌, ◌*◌, max, Bool, cond, ◌&&◌, leb, ltb, Result, Ok, Err}
use Rattle.frame.specs.declared.Ground.{Ground}
use Rattle.frame.specs.declared.Pen.{Pen}
use Rattle.frame.specs.declared.VisibleArea.{VisibleArea}
use Rattle.frame.specs.declared.Refusal.{Refusal}
use Rattle.frame.specs.declared.Refusal.TheVariants.{Size, Pixels, Room}

-- an area of this size is had: the size is not refused
abbrev pub sized : ℕ → ℕ → Result VisibleArea Refusal
sized w h = Ok (record { width = w; height = h })

-- an area of this size, unless it has too many pixels or too little room
unfoldable pub room_for : Ground → ℕ → ℕ → Result VisibleArea Refusal
room_for g wide high =
    cond (ltb g.limits.pixels (wide * high)) (Err Pixels)
    (cond (ltb g.stride wide) (Err Room)
    (cond (ltb g.rows high) (Err Room) (sized wide high)))

-- the area grown to a size
unfoldable pub grown_area : VisibleArea → Ground → ℕ → ℕ → Result VisibleArea Refusal
unfolding room_for
grown_area a g w h = room_for g (max a.width w) (max a.height h)

-- the area that a raster's size needs
unfoldable pub raster_area : VisibleArea → Ground → ℕ → ℕ → Result VisibleArea Refusal
unfolding grown_area
raster_area a g w h =
    cond (ltb g.limits.width w) (Err Size)
    (cond (ltb g.limits.height h) (Err Size) (grown_area a g w h))

-- the area that the next sixel needs; one that is visible has passed the limits before
unfoldable pub sixel_area : Pen → VisibleArea → Ground → Result VisibleArea Refusal
unfolding grown_area
sixel_area p a g =
    cond (leb (p.column + p.repeat) a.width && leb (p.row + 6) a.height) (Ok a)
    (cond (leb (p.column + p.repeat) g.limits.width && leb (p.row + 6) g.limits.height)
    (grown_area a g (p.column + p.repeat) (p.row + 6))
    (Err Size))
