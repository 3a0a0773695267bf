-- What the code does with some bytes at once while no command is pending: an advance.
use Rattle.std.specs.Prelude.{ℕ, ◌+◌, ◌≤◌, min, max, ◌≡◌, Bool, true, false, cond, List, length, get_or}
use Rattle.numbers.specs.Bytes.{sixel, bang}
use Rattle.colours.specs.declared.Palette.{Palette}
use Rattle.colours.specs.Palette.{register_of}
use Rattle.frame.specs.declared.Frame.{Frame}
use Rattle.frame.specs.declared.Ground.{Ground}
use Rattle.frame.specs.declared.Pen.{Pen}
use Rattle.fast.specs.declared.Advance.{Advance}
use Rattle.fast.specs.declared.drawn.Drawn.{Drawn}
use Rattle.fast.specs.declared.argument.Number.{Number}
use Rattle.frame.specs.Commands.{no_command, with_command, with_color, with_repeat}
use Rattle.reference.specs.Step.{Fits}
use Rattle.fast.specs.Argument.{onwards, Before}

-- to a frame, whose command was read or not
unfoldable pub advance_to : Frame → Bool → ℕ → ℕ → Advance
advance_to f settled end ink =
    record { pen = f.pen; area = f.area; extent = f.extent; held = f.held; settled = settled; end = end; ink = ink }

-- the frame after an advance: no command is pending where one was read
unfoldable pub after_advance : Frame → Advance → Frame
after_advance f r =
    record {
      pen = r.pen;
      area = r.area;
      extent = r.extent;
      raster = f.raster;
      held = r.held;
      command = cond r.settled no_command f.command;
    }

-- the same, after a command that was read before it
unfoldable pub settled_to : Advance → Advance
settled_to r = record { pen = r.pen; area = r.area; extent = r.extent; held = r.held; settled = true; end = r.end; ink = r.ink }

-- where one was
unfoldable pub settled_if : Bool → Advance → Advance
unfolding settled_to
settled_if said r = cond said (settled_to r) r

-- a repeat command within the limit and the sixel after it
pub record Said (bytes : List ℕ) (from most : ℕ) (r : Drawn) : Type 0 where
  pub number : Number
  pub before : Before bytes (from + 1) number
  pub few : number.value ≤ most
  pub repeat : r.repeat ≡ max 1 number.value
  pub at : r.at ≡ number.end
  pub begins : get_or bytes from 0 ≡ bang

-- a sixel that is painted by itself: with the pen's repeat where it stands, or as a repeat command says
pub record Draws (pen : Pen) (bytes : List ℕ) (from most : ℕ) (r : Drawn) : Type 0 where
  pub alone : r.said ≡ false → (r.repeat ≡ pen.repeat) × (r.at ≡ from) × (sixel (get_or bytes from 0) ≡ true)
  pub told : r.said ≡ true → Said bytes from most r

-- the frame that it is drawn with
unfoldable pub drawing_of : Frame → Drawn → Frame
drawing_of f d =
    cond d.said
    (with_command
    (record { pen = with_repeat f.pen d.repeat; area = f.area; extent = f.extent; raster = f.raster; held = f.held; command = f.command }) no_command)
    f

-- the pen has the colour of a register, by its number, and a command is done
unfoldable pub selected_to : Frame → Palette → ℕ → ℕ → Advance
selected_to f p n end =
    record {
      pen = with_color f.pen (min n 255) (register_of p (min n 255));
      area = f.area;
      extent = f.extent;
      held = f.held;
      settled = true;
      end = end;
      ink = 0;
    }

-- an advance leads to where its bytes lead one by one, within so much ink, and leaves what the next step asks
pub record Advances (g : Ground) (bytes : List ℕ) (from left : ℕ) (f : Frame) (p : Palette) (l : List ℕ) (r : Advance) (q : Palette) (m : List ℕ) : Type 0 where
  pub onward : from ≤ r.end
  pub within : r.end ≤ length bytes
  pub ink : r.ink ≤ left
  pub fits : Fits (after_advance f r) g (length m)
  pub same : (allowance spent : ℕ) → spent + left ≤ allowance
      → onwards g allowance bytes r.end (spent + r.ink) (after_advance f r) q m ≡ onwards g allowance bytes from spent f p l
