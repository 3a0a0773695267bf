-- What the code does with a command's argument, on its own records.
use Rattle.std.specs.Prelude.{ℕ, ◌+◌, ◌*◌, min, max, Bool, false, cond, ◌&&◌, List, leb, ltb, eqb, pos, Result, Ok, Err}
use Rattle.numbers.specs.declared.Parameters.{Parameters}
use Rattle.numbers.specs.Step as numbers
use Rattle.colours.specs.declared.Palette.{Palette}
use Rattle.colours.specs.Palette.{register_of, rgb_held, hls_held}
use Rattle.colours.specs.Marks.{defined_rgb, defined_hls}
use Rattle.frame.specs.declared.Command.{Command}
use Rattle.frame.specs.declared.Extent.{Extent}
use Rattle.frame.specs.declared.Frame.{Frame}
use Rattle.frame.specs.declared.Ground.{Ground}
use Rattle.frame.specs.declared.Kind.{Kind}
use Rattle.frame.specs.declared.Kind.TheVariants as kinds
use Rattle.frame.specs.declared.Outcome.{Outcome}
use Rattle.frame.specs.declared.Outcome.TheVariants as outcomes
use Rattle.frame.specs.declared.Pen.{Pen}
use Rattle.frame.specs.declared.Progress.{Progress}
use Rattle.frame.specs.declared.Raster.{Raster}
use Rattle.frame.specs.declared.Refusal.{Refusal}
use Rattle.frame.specs.declared.Refusal.TheVariants as refusals
use Rattle.frame.specs.declared.VisibleArea.{VisibleArea}
use Rattle.frame.specs.declared.rasters.Measured.{Measured}
use Rattle.frame.specs.declared.rasters.Measured.TheVariants as measures
use Rattle.frame.specs.declared.commands.Selected.{Selected}
use Rattle.frame.specs.Sizes.{raster_area}

-- ---- a command begins and goes on

unfoldable pub with_command : Frame → Command → Frame
with_command f c = record { pen = f.pen; area = f.area; extent = f.extent; raster = f.raster; held = f.held; command = c }

unfoldable pub begun : Frame → Kind → ℕ → Frame
unfolding with_command
begun f k places = with_command f (record { kind = k; number = 0; parameters = numbers.opened places })

-- a digit lengthens the values, or in a repeat the number
unfoldable pub values_longer : Command → ℕ → Command
values_longer c b = record { kind = c.kind; number = c.number; parameters = numbers.with_digit c.parameters b }

unfoldable pub number_longer : Command → ℕ → Command
number_longer c b = record { kind = c.kind; number = numbers.repeated c.number b; parameters = c.parameters }

unfoldable pub by_digit_in : Kind → Command → ℕ → Command
unfolding values_longer number_longer
by_digit_in kinds.Data c b = values_longer c b
by_digit_in kinds.Repeat c b = number_longer c b
by_digit_in kinds.Color c b = values_longer c b
by_digit_in kinds.Raster c b = values_longer c b

unfoldable pub by_digit : Command → ℕ → Command
unfolding by_digit_in
by_digit c b = by_digit_in c.kind c b

unfoldable pub by_semicolon : Command → Command
by_semicolon c = record { kind = c.kind; number = c.number; parameters = numbers.with_semicolon c.parameters }

-- ---- a command ends

-- no command is pending
unfoldable pub no_command : Command
no_command = record { kind = kinds.Data; number = 0; parameters = numbers.opened 0 }

-- none is pending any more, and the byte that ended it is still to be read
unfoldable pub settled_as : Pen → VisibleArea → Extent → Raster → ℕ → Progress
unfolding no_command
settled_as p a e r h =
    record {
      frame = record { pen = p; area = a; extent = e; raster = r; held = h; command = no_command };
      consumed = 0;
      ink = 0;
      outcome = outcomes.Read;
    }

-- the byte stays unread
unfoldable pub unread_as : Frame → Outcome → Progress
unread_as f o = record { frame = f; consumed = 0; ink = 0; outcome = o }

unfoldable pub refused_as : Frame → Refusal → Progress
unfolding unread_as
refused_as f r = unread_as f (outcomes.Refused r)

-- repeat: above the limit it is refused, and 0 means 1
unfoldable pub with_repeat : Pen → ℕ → Pen
with_repeat p n = record { column = p.column; row = p.row; repeat = n; register = p.register; color = p.color }

unfoldable pub repeat_ended : Frame → Ground → Progress
unfolding with_repeat settled_as refused_as
repeat_ended f g =
    cond (ltb g.limits.repeats f.command.number) (refused_as f refusals.Repeat)
    (settled_as (with_repeat f.pen (max 1 f.command.number)) f.area f.extent f.raster f.held)

-- colour: space 1 or 2 redefines the register
unfoldable pub defined_by : Palette → ℕ → ℕ → ℕ → ℕ → ℕ → Palette
defined_by p n space x y z =
    cond (eqb space 1) (defined_hls p n (pos x) (pos y) (pos z)) (cond (eqb space 2) (defined_rgb p n (pos x) (pos y) (pos z)) p)

-- with five values
unfoldable pub redefined_by : Palette → ℕ → Parameters → Palette
unfolding defined_by
redefined_by p n v =
    cond (eqb v.count 5) (defined_by p n (numbers.value_at v 1) (numbers.value_at v 2) (numbers.value_at v 3) (numbers.value_at v 4)) p

-- rule 9.10: whether one of a definition's values is held; in another space there is no definition
unfoldable pub held_by : ℕ → ℕ → ℕ → ℕ → Bool
held_by space x y z = cond (eqb space 1) (hls_held (pos y) (pos z)) (cond (eqb space 2) (rgb_held (pos x) (pos y) (pos z)) false)

-- of a colour command's values
unfoldable pub held_in : Parameters → Bool
unfolding held_by
held_in v = cond (eqb v.count 5) (held_by (numbers.value_at v 1) (numbers.value_at v 2) (numbers.value_at v 3) (numbers.value_at v 4)) false

-- what a definition answers, and the palette after it
unfoldable pub defining_by : Palette → ℕ → ℕ → ℕ → ℕ → ℕ → Bool × Palette
unfolding held_by defined_by
defining_by p n space x y z = (held_by space x y z, defined_by p n space x y z)

unfoldable pub redefining_by : Palette → ℕ → Parameters → Bool × Palette
unfolding held_in redefined_by
redefining_by p n v = (held_in v, redefined_by p n v)

-- one definition more where its values were held, up to the largest number of 64 bits
unfoldable pub more_held : ℕ → Bool → ℕ
more_held n t = cond t (min (n + 1) 18446744073709551615) n

-- the register that the first value selects
unfoldable pub register_in : Parameters → ℕ
register_in v = min (numbers.value_at v 0) 255

unfoldable pub with_color : Pen → ℕ → List ℕ → Pen
with_color p n color = record { column = p.column; row = p.row; repeat = p.repeat; register = n; color = color }

-- the palette after a colour command with these values, and the step
unfoldable pub palette_after : Palette → Parameters → Palette
unfolding redefined_by register_in
palette_after p v = redefined_by p (register_in v) v

-- what a colour command's values select of a palette
unfoldable pub selected_in : Palette → Parameters → Selected
unfolding register_in held_in
selected_in p v = record { register = register_in v; color = register_of p (register_in v); held = held_in v }

unfoldable pub color_ended_by : Frame → Palette → Parameters → Progress
unfolding settled_as with_color register_in more_held held_in
color_ended_by f after v =
    settled_as (with_color f.pen (register_in v) (register_of after (register_in v))) f.area f.extent f.raster
    (more_held f.held (held_in v))

-- raster
unfoldable pub quotient_of : ℕ → ℕ → ℕ
quotient_of v h = cond (eqb v h) 1 (cond (eqb v (2 * h)) 2 (cond (eqb v (3 * h)) 3 (cond (eqb v (5 * h)) 5 0)))

unfoldable pub ratio_by : ℕ → Parameters → ℕ
unfolding quotient_of
ratio_by old v = cond (ltb v.count 2) old (quotient_of (max 1 (numbers.value_at v 0)) (max 1 (numbers.value_at v 1)))

unfoldable pub kept_size : ℕ → ℕ → ℕ
kept_size old n = cond (eqb n 0) old n

unfoldable pub raster_by : Raster → Parameters → Raster
unfolding ratio_by kept_size
raster_by r v =
    record { ratio = ratio_by r.ratio v; width = kept_size r.width (numbers.value_at v 2); height = kept_size r.height (numbers.value_at v 3) }

-- the visible area grows to the size that a raster needs
unfoldable pub raster_grown : Frame → Raster → Result VisibleArea Refusal → Progress
unfolding settled_as refused_as
raster_grown f r (Ok a) = settled_as f.pen a f.extent r f.held
raster_grown f r (Err n) = refused_as f n

-- what a raster comes to: it has no size, or needs an area, or is refused
unfoldable pub measured_in : Raster → Result VisibleArea Refusal → Result Measured Refusal
measured_in r (Ok a) = Ok (measures.Sized r a)
measured_in r (Err n) = Err n

unfoldable pub measured_by : Raster → VisibleArea → Ground → Result Measured Refusal
unfolding measured_in
measured_by r a g =
    cond (eqb r.width 0 && eqb r.height 0) (Ok (measures.Sizeless r))
    (measured_in r (raster_area a g (max 1 r.width) (max 1 r.height)))

-- the step that ends it
unfoldable pub raster_ended_in : Result Measured Refusal → Frame → Progress
unfolding settled_as refused_as
raster_ended_in (Ok (measures.Sizeless r)) f = settled_as f.pen f.area f.extent r f.held
raster_ended_in (Ok (measures.Sized r a)) f = settled_as f.pen a f.extent r f.held
raster_ended_in (Err n) f = refused_as f n

unfoldable pub raster_ended_by : Frame → Ground → Raster → Progress
unfolding settled_as raster_grown
raster_ended_by f g r =
    cond (eqb r.width 0 && eqb r.height 0) (settled_as f.pen f.area f.extent r f.held)
    (raster_grown f r (raster_area f.area g (max 1 r.width) (max 1 r.height)))

-- ---- whichever is pending

-- where ending a command leads, and the palette after it
pub record Ended : Type 0 where
  pub progress : Progress
  pub palette : Palette

unfoldable pub finished_of : Frame → Parameters
finished_of f = numbers.finished f.command.parameters

unfoldable pub ended_in : Kind → Frame → Ground → Palette → Ended
unfolding settled_as repeat_ended color_ended_by palette_after raster_ended_by raster_by finished_of
ended_in kinds.Data f g p = record { progress = settled_as f.pen f.area f.extent f.raster f.held; palette = p }
ended_in kinds.Repeat f g p = record { progress = repeat_ended f g; palette = p }
ended_in kinds.Color f g p =
    record { progress = color_ended_by f (palette_after p (finished_of f)) (finished_of f); palette = palette_after p (finished_of f) }
ended_in kinds.Raster f g p = record { progress = raster_ended_by f g (raster_by f.raster (finished_of f)); palette = p }

unfoldable pub ended : Frame → Ground → Palette → Ended
unfolding ended_in
ended f g p = ended_in f.command.kind f g p
