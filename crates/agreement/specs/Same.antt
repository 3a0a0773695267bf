-- The simulation relation: when the code's ground, frame, palette and canvas stand for a reading of the definition under a setting.
use Rattle.std.specs.Prelude.{ℕ, ◌≤◌, min, ◌^◌, ◌≡◌, cond, List, eqb}
use Rattle.std.proofs.Math.Option.{Option, none, some}
use Rattle.numbers.specs.Read.{Read, Counted}
use Rattle.colours.specs.declared.Palette.{Palette}
use Rattle.colours.specs.Palette.{register_of}
use Rattle.colours.specs.Marks.{lasting, defined_count}
use Rattle.canvas.specs.Picture.{area_of, picture}
use Rattle.frame.specs.declared.Command.{Command}
use Rattle.frame.specs.declared.Extent.{Extent}
use Rattle.frame.specs.declared.Frame.{Frame}
use Rattle.frame.specs.declared.Ground.{Ground}
use Rattle.frame.specs.declared.Kind.TheVariants as kinds
use Rattle.frame.specs.declared.Pen as code_pen
use Rattle.frame.specs.declared.Raster as code_raster
use Rattle.frame.specs.declared.VisibleArea.{VisibleArea}
use Rattle.reference.specs.Step.{row_ceiling}
use Rattle.meaning.specs.Commands.{repeat, colour, raster, Begun}
use Rattle.meaning.specs.Drawing.{Setting, Pen, Raster, Drawing, transparent, extent_of}
use Rattle.meaning.specs.Payload.{Parameters, Ratio, by_raster, left_to_p1, largest_count, Report}
use Rattle.meaning.specs.Sessions.{Reading}
use Rattle.meaning.proofs.AreaLaws.{Sound}

-- ---- a drawing on the code's records

-- the same limits, stride and rows, and the background
unfoldable pub ground_of : Setting → List ℕ → Ground
ground_of s background =
    record {
      limits = record { width = s.limits.width; height = s.limits.height; repeats = s.limits.repeats; pixels = s.limits.pixels };
      stride = s.stride;
      rows = s.rows;
      background = background;
    }

-- the pen, its row saturated at the ceiling, its colour that of its register
unfoldable pub pen_of : Palette → Pen → code_pen.Pen
pen_of p d =
    record {
      column = d.column;
      row = min d.row row_ceiling;
      repeat = d.repeats;
      register = d.register;
      color = register_of p d.register;
    }

-- the visible area
unfoldable pub code_area : Drawing → VisibleArea
code_area d = record { width = d.area.width; height = d.area.height }

-- the extent
unfoldable pub code_extent : Drawing → Extent
code_extent d = record { right = (extent_of d.strokes).width; bottom = (extent_of d.strokes).height }

-- a ratio as the code has it: 0 where there is none
unfoldable pub ratio_number : Option ℕ → ℕ
ratio_number none = 0
ratio_number (some n) = n

-- the ratio and the sizes kept
unfoldable pub raster_of : Raster → code_raster.Raster
unfolding ratio_number
raster_of d = record { ratio = ratio_number d.ratio; width = d.width; height = d.height }

-- the count of definitions with a held value, as large as a number gets
unfoldable pub code_held : Drawing → ℕ
code_held d = min d.held largest_count

-- the whole frame, with a command that has begun or not
unfoldable pub frame_of : Drawing → Command → Frame
unfolding pen_of code_area code_extent raster_of code_held
frame_of d c =
    record {
      pen = pen_of d.palette d.pen;
      area = code_area d;
      extent = code_extent d;
      raster = raster_of d.raster;
      held = code_held d;
      command = c;
    }

-- the frame before the first byte
unfoldable pub blank_frame : Palette → Command → Frame
blank_frame p c =
    record {
      pen = record { column = 0; row = 0; repeat = 1; register = 0; color = register_of p 0 };
      area = record { width = 1; height = 1 };
      extent = record { right = 0; bottom = 0 };
      raster = record { ratio = 0; width = 0; height = 0 };
      held = 0;
      command = c;
    }

-- the canvas that shows a drawing on the bytes of the opening
unfoldable pub canvas_of : Setting → Drawing → List ℕ → List ℕ
canvas_of s d opening = picture s.stride d.area d.background d.strokes opening

-- ---- the two stand for each other

-- limits and stride are within what can be opened
pub record Bounded (s : Setting) : Type 0 where
  pub width : s.limits.width ≤ 1000000
  pub height : s.limits.height ≤ 1000000
  pub repeats : s.limits.repeats ≤ 10 ^ 12
  pub pixels : s.limits.pixels ≤ 10 ^ 12
  pub stride : s.stride ≤ 1000000

-- a ratio that a raster can have: none, or so many to 1
abbrev pub Rated : Option ℕ → Type 0
Rated none = Unit {0}
Rated (some n) = 1 ≤ n

-- ground, frame, palette and canvas are those of a drawing that is sound; the begun command may be any
pub record SameDrawing (s : Setting) (opening : List ℕ) (d : Drawing) (g : Ground) (f : Frame) (p : Palette) (l : List ℕ) : Type 0 where
  pub bounded : Bounded s
  pub sound : Sound s d
  pub rated : Rated d.raster.ratio
  pub ground : g ≡ ground_of s d.background
  pub frame : f ≡ frame_of d f.command
  pub palette : p ≡ d.palette
  pub canvas : l ≡ canvas_of s d opening

-- the begun command's argument has been read into the number, or into the values
abbrev pub SameBegun : Option Begun → Command → Type 0
SameBegun none c = c.kind ≡ kinds.Data
SameBegun (some b) c =
    elim b.kind [
      | repeat ↦ (c.kind ≡ kinds.Repeat) × Counted b.argument c.number
      | colour ↦ (c.kind ≡ kinds.Color) × Read 5 b.argument c.parameters
      | raster ↦ (c.kind ≡ kinds.Raster) × Read 4 b.argument c.parameters
    ]

-- they are those of a reading where the begun command is the reading's too
pub record Same (s : Setting) (opening : List ℕ) (r : Reading) (g : Ground) (f : Frame) (p : Palette) (l : List ℕ) : Type 0 where
  pub drawing : SameDrawing s opening r.drawing g f p l
  pub begun : SameBegun r.begun f.command

-- ---- the report

-- the ratio that a number of the code gives
unfoldable pub ratio_from : Option ℕ → ℕ → Ratio
ratio_from p1 n = cond (eqb n 0) (left_to_p1 p1) (by_raster n)

-- what a frame and a palette report at the finish
unfoldable pub report_from : Parameters → Frame → Palette → Report
unfolding ratio_from
report_from o f p =
    record {
      size = area_of f.area.width f.area.height;
      ratio = ratio_from o.p1 f.raster.ratio;
      clear = transparent o.p2;
      extent = area_of f.extent.right f.extent.bottom;
      defined = defined_count p;
      declared = area_of f.raster.width f.raster.height;
      held = f.held;
      palette = lasting p;
    }
