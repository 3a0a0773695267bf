-- What the code does with a byte, on its own records, the palette and the canvas's bytes.
use Rattle.std.specs.Prelude.{ℕ, zero, suc, ◌+◌, ◌-◌, ◌*◌, ◌≤◌, min, max, ◌≡◌, Bool, true, false, cond, ◌&&◌, ◌||◌, List, [], ◌∷◌, leb, ltb, eqb, Result, Ok, Err}
use Rattle.std.specs.Int.Count.{ones}
use Rattle.numbers.specs.Bytes.{skipped, digit, sixel, ends, semicolon, bang, quote, hash, dollar, dash}
use Rattle.colours.specs.declared.Palette.{Palette}
use Rattle.canvas.specs.Picture.{depth, area_of, rows_of}
use Rattle.canvas.specs.Paint.{grown, sixel_painted}
use Rattle.frame.specs.declared.Command.{Command}
use Rattle.frame.specs.declared.Extent.{Extent}
use Rattle.frame.specs.declared.Frame.{Frame}
use Rattle.frame.specs.declared.Ground.{Ground}
use Rattle.frame.specs.declared.Kind.{Kind}
use Rattle.frame.specs.declared.Kind.TheVariants as kinds
use Rattle.frame.specs.declared.Outcome.{Outcome}
use Rattle.frame.specs.declared.Outcome.TheVariants as outcomes
use Rattle.frame.specs.declared.Pen.{Pen}
use Rattle.frame.specs.declared.Progress.{Progress}
use Rattle.frame.specs.declared.VisibleArea.{VisibleArea}
use Rattle.frame.specs.declared.Refusal.{Refusal}
use Rattle.frame.specs.Sizes.{sixel_area}
use Rattle.frame.specs.Commands.{with_command, begun, by_digit, by_semicolon, unread_as, refused_as, Ended, ended}

-- all that a byte can change: the frame, the palette, and the canvas's bytes
pub record Live : Type 0 where
  pub frame : Frame
  pub palette : Palette
  pub canvas : List ℕ

-- where reading a byte, or some, has led: the code's answer, the palette and the canvas
pub record Reached : Type 0 where
  pub progress : Progress
  pub palette : Palette
  pub canvas : List ℕ

-- the visible area has room on a canvas of so many bytes, and the ground's rows are the canvas's
pub record Fits (f : Frame) (g : Ground) (length : ℕ) : Type 0 where
  pub rows : g.rows ≡ rows_of length g.stride
  pub width : f.area.width ≤ g.stride
  pub height : f.area.height ≤ g.rows

-- an area that has room holds the visible area and the next sixel
pub record Holds (f : Frame) (g : Ground) (w h : ℕ) : Type 0 where
  pub wider : f.area.width ≤ w
  pub higher : f.area.height ≤ h
  pub columns : f.pen.column + f.pen.repeat ≤ w
  pub six_rows : f.pen.row + 6 ≤ h
  pub width : w ≤ g.stride
  pub height : h ≤ g.rows

-- the byte was read
unfoldable pub read_as : Frame → ℕ → Progress
read_as f ink = record { frame = f; consumed = 1; ink = ink; outcome = outcomes.Read }

-- the canvas after a frame's area has grown: each new pixel has the background
unfoldable pub area_grown : Frame → Ground → ℕ → ℕ → List ℕ → List ℕ
area_grown f g w h l = grown g.stride (area_of f.area.width f.area.height) (area_of w h) g.background l

-- ---- a byte while no command is pending

-- the pen after a sixel
unfoldable pub pen_after : Pen → Pen
pen_after p = record { column = p.column + p.repeat; row = p.row; repeat = 1; register = p.register; color = p.color }

-- how far a sixel paints that ends at a number: a blank one nowhere
unfoldable pub painted_to : ℕ → ℕ → ℕ
painted_to bits end = cond (eqb (depth 6 bits) 0) 0 end

-- the extent's right after a sixel that ends in this column
unfoldable pub right_after : ℕ → ℕ → ℕ → ℕ
unfolding painted_to
right_after right bits end = max right (painted_to bits end)

-- the extent's bottom after a sixel in this row
unfoldable pub bottom_after : ℕ → ℕ → ℕ → ℕ
unfolding painted_to
bottom_after bottom bits row = max bottom (painted_to bits (row + depth 6 bits))

-- the extent after a sixel with these bits
unfoldable pub extent_after : Extent → Pen → ℕ → Extent
unfolding right_after bottom_after
extent_after e p bits =
    record { right = right_after e.right bits (p.column + p.repeat); bottom = bottom_after e.bottom bits p.row }

-- the frame past the columns of a sixel, or of some, with an extent and on an area
unfoldable pub passed_to : Frame → Extent → ℕ → ℕ → Frame
unfolding pen_after
passed_to f e w h =
    record { pen = pen_after f.pen; area = record { width = w; height = h }; extent = e; raster = f.raster; held = f.held; command = f.command }

-- the frame after a sixel with these bits, on an area
unfoldable pub inked : Frame → ℕ → ℕ → ℕ → Frame
unfolding passed_to extent_after
inked f bits w h = passed_to f (extent_after f.extent f.pen bits) w h

-- the canvas after a sixel: the area grows, then the sixel is painted
unfoldable pub canvas_after : Frame → Ground → ℕ → ℕ → ℕ → List ℕ → List ℕ
unfolding area_grown
canvas_after f g bits w h l =
    sixel_painted g.stride f.pen.column f.pen.row f.pen.repeat bits f.pen.color (area_grown f g w h l)

-- painted, unless its ink exceeds what is left
unfoldable pub painted_on : Frame → Ground → ℕ → ℕ → ℕ → ℕ → Palette → List ℕ → Reached
unfolding read_as unread_as inked canvas_after
painted_on f g bits left w h p l =
    cond (ltb left (ones bits * f.pen.repeat))
    (record { progress = unread_as f outcomes.Stopped; palette = p; canvas = l })
    (record { progress = read_as (inked f bits w h) (ones bits * f.pen.repeat); palette = p; canvas = canvas_after f g bits w h l })

unfoldable pub drawn_in : Result VisibleArea Refusal → Frame → Ground → ℕ → ℕ → Palette → List ℕ → Reached
unfolding painted_on refused_as
drawn_in (Ok a) f g bits left p l = painted_on f g bits left a.width a.height p l
drawn_in (Err r) f g bits left p l = record { progress = refused_as f r; palette = p; canvas = l }

unfoldable pub drawn_by : Frame → Ground → ℕ → ℕ → Palette → List ℕ → Reached
unfolding drawn_in
drawn_by f g bits left p l = drawn_in (sixel_area f.pen f.area g) f g bits left p l

-- the row stops at a ceiling above every height limit
abbrev pub row_ceiling : ℕ
row_ceiling = 1000002

unfoldable pub moved_to : Frame → ℕ → Frame
moved_to f row =
    record {
      pen = record { column = 0; row = row; repeat = f.pen.repeat; register = f.pen.register; color = f.pen.color };
      area = f.area;
      extent = f.extent;
      raster = f.raster;
      held = f.held;
      command = f.command;
    }

-- the own effect of a byte that is no sixel and ends nothing
unfoldable pub own_of : Frame → ℕ → Frame
unfolding begun moved_to
own_of f b =
    cond (eqb b hash) (begun f kinds.Color 5)
    (cond (eqb b bang) (begun f kinds.Repeat 0)
    (cond (eqb b dollar) (moved_to f f.pen.row)
    (cond (eqb b dash) (moved_to f (min (f.pen.row + 6) row_ceiling))
    (cond (eqb b quote) (begun f kinds.Raster 4) f))))

unfoldable pub data_step : Frame → Ground → ℕ → ℕ → Palette → List ℕ → Reached
unfolding drawn_by read_as unread_as own_of
data_step f g b left p l =
    cond (sixel b) (drawn_by f g (b - 63) left p l)
    (cond (ends b) (record { progress = unread_as f (outcomes.Ended b); palette = p; canvas = l })
    (record { progress = read_as (own_of f b) 0; palette = p; canvas = l }))

-- ---- a byte while a command is pending

unfoldable pub takes_semicolon : Kind → Bool
takes_semicolon kinds.Data = false
takes_semicolon kinds.Repeat = false
takes_semicolon kinds.Color = true
takes_semicolon kinds.Raster = true

-- the command ends: the area that it grew gets the background
unfoldable pub settled_step : Frame → Ground → Palette → List ℕ → Reached
unfolding area_grown
settled_step f g p l =
    let e : Ended = ended f g p in
    let new : VisibleArea = e.progress.frame.area in
    record { progress = e.progress; palette = e.palette; canvas = area_grown f g new.width new.height l }

unfoldable pub argument_step : Frame → Ground → ℕ → Palette → List ℕ → Reached
unfolding read_as settled_step takes_semicolon
argument_step f g b p l =
    cond (digit b) (record { progress = read_as (with_command f (by_digit f.command b)) 0; palette = p; canvas = l })
    (cond (skipped b) (record { progress = read_as f 0; palette = p; canvas = l })
    (cond (eqb b semicolon && takes_semicolon f.command.kind)
    (record { progress = read_as (with_command f (by_semicolon f.command)) 0; palette = p; canvas = l })
    (settled_step f g p l)))

unfoldable pub step_in : Kind → Frame → Ground → ℕ → ℕ → Palette → List ℕ → Reached
unfolding data_step argument_step
step_in kinds.Data f g b left p l = data_step f g b left p l
step_in kinds.Repeat f g b left p l = argument_step f g b p l
step_in kinds.Color f g b left p l = argument_step f g b p l
step_in kinds.Raster f g b left p l = argument_step f g b p l

unfoldable pub step_of : Frame → Ground → ℕ → ℕ → Palette → List ℕ → Reached
unfolding step_in
step_of f g b left p l = step_in f.command.kind f g b left p l
