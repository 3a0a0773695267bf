-- A session as 48 numbers and 256 registers, and back. Of the numbers the first 34 are a payload session's; those after them are 0, and a
-- DCS session has its own there. All that `session_from` is given makes a session.
use Rattle.std.specs.Prelude.{ℕ, ◌+◌, ◌%◌, List, [], ◌∷◌, ◌++◌, slice_index}
use Rattle.numbers.specs.Memory as parameters
use Rattle.colours.specs.Palette.{of_table}
use Rattle.frame.specs.declared.Command.{Command}
use Rattle.frame.specs.declared.Extent.{Extent}
use Rattle.frame.specs.declared.Frame.{Frame}
use Rattle.frame.specs.declared.Ground.{Ground}
use Rattle.frame.specs.declared.Pen.{Pen}
use Rattle.frame.specs.declared.Raster.{Raster}
use Rattle.frame.specs.declared.VisibleArea.{VisibleArea}
use Rattle.payload.specs.declared.Session.{Session}
use Rattle.payload.specs.declared.Settings.{Settings}
use Rattle.payload.specs.declared.kernel.Setup.{Setup}
use Rattle.payload.specs.Codes.{given_number, given_from, life_number, life_from, kind_number, kind_from, color_number, color_from}

-- ---- a session as numbers

unfoldable pub ground_numbers : Ground → List ℕ
unfolding color_number
ground_numbers g =
    g.limits.width
    ∷ g.limits.height
    ∷ g.limits.repeats
    ∷ g.limits.pixels
    ∷ g.stride
    ∷ g.rows
    ∷ color_number g.background
    ∷ []

unfoldable pub pen_numbers : Pen → List ℕ
unfolding color_number
pen_numbers p = p.column ∷ p.row ∷ p.repeat ∷ p.register ∷ color_number p.color ∷ []

unfoldable pub area_numbers : VisibleArea → List ℕ
area_numbers a = a.width ∷ a.height ∷ []

unfoldable pub extent_numbers : Extent → List ℕ
extent_numbers e = e.right ∷ e.bottom ∷ []

unfoldable pub raster_numbers : Raster → List ℕ
raster_numbers r = r.ratio ∷ r.width ∷ r.height ∷ []

unfoldable pub command_numbers : Command → List ℕ
unfolding kind_number
command_numbers c = kind_number c.kind ∷ c.number ∷ parameters.numbers_of c.parameters

unfoldable pub frame_numbers : Frame → List ℕ
unfolding pen_numbers area_numbers extent_numbers raster_numbers command_numbers
frame_numbers f =
    pen_numbers f.pen
    ++ (area_numbers f.area ++ (extent_numbers f.extent ++ (raster_numbers f.raster ++ command_numbers f.command)))

-- the 34 of a payload session
unfoldable pub own_numbers : Session → List ℕ
unfolding ground_numbers given_number life_number frame_numbers
own_numbers s =
    ground_numbers s.ground
    ++ s.length ∷ given_number s.settings.p1 ∷ given_number s.settings.p2 ∷ life_number s.life ∷ frame_numbers s.frame

-- and 14 zeros
unfoldable pub numbers_of : Session → List ℕ
unfolding own_numbers
numbers_of s = own_numbers s ++ 0 ∷ 0 ∷ 0 ∷ 0 ∷ 0 ∷ 0 ∷ 0 ∷ 0 ∷ 0 ∷ 0 ∷ s.frame.held ∷ 0 ∷ 0 ∷ 0 ∷ []

abbrev pub table_of : Session → List ℕ
table_of s = s.palette.colors

-- ---- numbers as a session

unfoldable pub ground_from : List ℕ → Ground
unfolding color_from
ground_from ns =
    record {
      limits = record { width = slice_index ns 0; height = slice_index ns 1; repeats = slice_index ns 2; pixels = slice_index ns 3 };
      stride = slice_index ns 4;
      rows = slice_index ns 5;
      background = color_from (slice_index ns 6);
    }

unfoldable pub settings_from : List ℕ → Settings
unfolding given_from
settings_from ns = record { p1 = given_from (slice_index ns 8); p2 = given_from (slice_index ns 9) }

unfoldable pub pen_from : List ℕ → Pen
unfolding color_from
pen_from ns =
    record {
      column = slice_index ns 11;
      row = slice_index ns 12;
      repeat = slice_index ns 13;
      register = slice_index ns 14;
      color = color_from (slice_index ns 15);
    }

unfoldable pub area_from : List ℕ → VisibleArea
area_from ns = record { width = slice_index ns 16; height = slice_index ns 17 }

unfoldable pub extent_from : List ℕ → Extent
extent_from ns = record { right = slice_index ns 18; bottom = slice_index ns 19 }

unfoldable pub raster_from : List ℕ → Raster
raster_from ns = record { ratio = slice_index ns 20 % 256; width = slice_index ns 21; height = slice_index ns 22 }

-- nine numbers from a place on
unfoldable pub nine_from : List ℕ → ℕ → List ℕ
nine_from ns i =
    slice_index ns i
    ∷ slice_index ns (i + 1)
    ∷ slice_index ns (i + 2)
    ∷ slice_index ns (i + 3)
    ∷ slice_index ns (i + 4)
    ∷ slice_index ns (i + 5)
    ∷ slice_index ns (i + 6)
    ∷ slice_index ns (i + 7)
    ∷ slice_index ns (i + 8)
    ∷ []

unfoldable pub command_from : List ℕ → Command
unfolding kind_from nine_from
command_from ns =
    record { kind = kind_from (slice_index ns 23); number = slice_index ns 24; parameters = parameters.parameters_from (nine_from ns 25) }

unfoldable pub frame_from : List ℕ → Frame
unfolding pen_from area_from extent_from raster_from command_from
frame_from ns =
    record {
      pen = pen_from ns;
      area = area_from ns;
      extent = extent_from ns;
      raster = raster_from ns;
      held = slice_index ns 44;
      command = command_from ns;
    }

unfoldable pub setup_from : List ℕ → Setup
unfolding ground_from settings_from
setup_from ns = let ground : Ground = ground_from ns in record { ground = ground; length = slice_index ns 7; settings = settings_from ns }

unfoldable pub session_from : List ℕ → List ℕ → Session
unfolding ground_from settings_from life_from frame_from
session_from ns table =
    record {
      ground = ground_from ns;
      length = slice_index ns 7;
      settings = settings_from ns;
      life = life_from (slice_index ns 10);
      frame = frame_from ns;
      palette = of_table table;
    }
