-- What the code does with a run of sixels that are painted once each, on its own records.
use Rattle.std.specs.Prelude.{ℕ, zero, suc, ◌+◌, ◌-◌, ◌≤◌, ◌<◌, max, ◌≡◌, true, false, cond, List, eqb, length, get_or}
use Rattle.std.specs.Int.Count.{ones}
use Rattle.numbers.specs.Bytes.{sixel}
use Rattle.canvas.specs.Paint.{sixel_painted}
use Rattle.frame.specs.declared.Extent.{Extent}
use Rattle.frame.specs.declared.Frame.{Frame}
use Rattle.frame.specs.declared.Ground.{Ground}
use Rattle.fast.specs.declared.Advance.{Advance}
use Rattle.frame.specs.Commands.{with_repeat}
use Rattle.reference.specs.Step.{area_grown, right_after, bottom_after, passed_to}
use Rattle.fast.specs.Advance.{advance_to}

-- the bytes from one place up to another are sixels
pub record Sixels (bytes : List ℕ) (from to : ℕ) : Type 0 where
  pub within : to ≤ length bytes
  pub each : (k : ℕ) → from ≤ k → k < to → sixel (get_or bytes k 0) ≡ true

-- the frame whose next sixel is as wide as a run
unfoldable pub planned : Frame → ℕ → Frame
unfolding with_repeat
planned f n =
    record { pen = with_repeat f.pen n; area = f.area; extent = f.extent; raster = f.raster; held = f.held; command = f.command }

-- the ink of so many sixels from a place on
unfoldable pub run_ink : List ℕ → ℕ → ℕ → ℕ
run_ink bytes from zero = 0
run_ink bytes from (suc n) = run_ink bytes from n + ones (get_or bytes (from + n) 0 - 63)

-- the canvas with so many sixels from a place on painted side by side
unfoldable pub run_painted : ℕ → ℕ → ℕ → List ℕ → List ℕ → ℕ → ℕ → List ℕ → List ℕ
run_painted stride column row px bytes from zero l = l
run_painted stride column row px bytes from (suc n) l =
    sixel_painted stride (column + n) row 1 (get_or bytes (from + n) 0 - 63) px (run_painted stride column row px bytes from n l)

-- so many sixels from a place on were painted side by side: their ink, and the canvas before and after
pub record Laid (stride column row : ℕ) (px bytes : List ℕ) (from count ink : ℕ) (before after : List ℕ) : Type 0 where
  pub sixels : Sixels bytes from (from + count)
  pub inked : ink ≡ run_ink bytes from count
  pub canvas : after ≡ run_painted stride column row px bytes from count before

-- the extent's right after so many sixels from a place on, the first of them in a column
unfoldable pub run_right : ℕ → ℕ → List ℕ → ℕ → ℕ → ℕ
unfolding right_after
run_right right column bytes from zero = right
run_right right column bytes from (suc n) =
    right_after (run_right right column bytes from n) (get_or bytes (from + n) 0 - 63) (column + n + 1)

-- the extent's bottom after them, in a row
unfoldable pub run_bottom : ℕ → ℕ → List ℕ → ℕ → ℕ → ℕ
unfolding bottom_after
run_bottom bottom row bytes from zero = bottom
run_bottom bottom row bytes from (suc n) = bottom_after (run_bottom bottom row bytes from n) (get_or bytes (from + n) 0 - 63) row

-- the extent after them
unfoldable pub run_extent : Extent → ℕ → ℕ → List ℕ → ℕ → ℕ → Extent
unfolding run_right run_bottom
run_extent e column row bytes from n =
    record { right = run_right e.right column bytes from n; bottom = run_bottom e.bottom row bytes from n }

-- how many of so many sixels stand up to the last one with ink
unfoldable pub inked_length : List ℕ → ℕ → ℕ → ℕ
inked_length bytes from zero = 0
inked_length bytes from (suc n) = cond (eqb (get_or bytes (from + n) 0) 63) (inked_length bytes from n) (suc n)

-- the largest bits of so many sixels
unfoldable pub largest_bits : List ℕ → ℕ → ℕ → ℕ
largest_bits bytes from zero = 0
largest_bits bytes from (suc n) = max (largest_bits bytes from n) (get_or bytes (from + n) 0 - 63)

-- the frame after a run that was painted on an area; its pen's repeat is the number of its sixels
unfoldable pub ran : Frame → ℕ → ℕ → List ℕ → ℕ → Frame
unfolding passed_to run_extent
ran f w h bytes from = passed_to f (run_extent f.extent f.pen.column f.pen.row bytes from f.pen.repeat) w h

unfoldable pub run_advance : Frame → ℕ → ℕ → List ℕ → ℕ → Advance
unfolding advance_to ran
run_advance f w h bytes from =
    advance_to (ran f w h bytes from) false (from + f.pen.repeat) (run_ink bytes from f.pen.repeat)

unfoldable pub run_canvas : Frame → Ground → ℕ → ℕ → List ℕ → ℕ → List ℕ → List ℕ
unfolding area_grown
run_canvas f g w h bytes from l =
    run_painted g.stride f.pen.column f.pen.row f.pen.color bytes from f.pen.repeat (area_grown f g w h l)
