-- How many definitions of a payload had a held value (docs/RULES.md, rule 9.10), said of the commands alone. That a finish reports it, and
-- that nothing else depends on it, is proved (proofs/HeldLaws, proofs/ReportLaws).
use Rattle.std.specs.Prelude.{ℕ, ◌+◌, min, Bool, false, cond, List, [], ◌∷◌, ◌≡◌}
use Rattle.numbers.specs.Values.{values}
use Rattle.meaning.specs.Commands.{repeat, colour, raster, Command, argued, return, line, draw, Placed}
use Rattle.meaning.specs.Drawing.{holds, Drawing, Outcome}
use Rattle.meaning.specs.Payload.{Report, Finished, finished, turned_down, largest_count}

-- rule 9.10: a command defines a register with a held value; no other than a colour command does
unfoldable pub defines_held : Command → Bool
unfolding holds
defines_held (argued repeat bs) = false
defines_held (argued colour bs) = holds (values 5 bs)
defines_held (argued raster bs) = false
defines_held return = false
defines_held line = false
defines_held (draw bits) = false

-- rule 9.10: how many of some commands do: each counts, and counts once
unfoldable pub held_count : List Placed → ℕ
unfolding defines_held
held_count [] = 0
held_count (c ∷ cs) = cond (defines_held c.command) 1 0 + held_count cs

-- rule 9.10: what a finish reports after some commands
abbrev pub TellsHeld : List Placed → Report → Type 0
TellsHeld cs r = r.held ≡ min (held_count cs) largest_count

-- ---- nothing else depends on the count

-- a drawing with another count
unfoldable pub recounted : Drawing → ℕ → Drawing
recounted d n =
    record {
      pen = d.pen;
      strokes = d.strokes;
      area = d.area;
      raster = d.raster;
      held = n;
      palette = d.palette;
      background = d.background;
    }

-- what commands come to, but for the count
pub record SameButHeld (x y : Outcome) : Type 0 where
  pub refusal : x.refusal ≡ y.refusal
  pub pen : x.drawing.pen ≡ y.drawing.pen
  pub strokes : x.drawing.strokes ≡ y.drawing.strokes
  pub area : x.drawing.area ≡ y.drawing.area
  pub raster : x.drawing.raster ≡ y.drawing.raster
  pub palette : x.drawing.palette ≡ y.drawing.palette
  pub background : x.drawing.background ≡ y.drawing.background

-- two reports, but for the count
pub record ReportsButHeld (r t : Report) : Type 0 where
  pub size : r.size ≡ t.size
  pub ratio : r.ratio ≡ t.ratio
  pub clear : r.clear ≡ t.clear
  pub extent : r.extent ≡ t.extent
  pub defined : r.defined ≡ t.defined
  pub declared : r.declared ≡ t.declared
  pub palette : r.palette ≡ t.palette

-- two finishes: both report, or both are refused with one number
abbrev pub FinishesButHeld : Finished → Finished → Type 0
FinishesButHeld (finished r) (finished t) = ReportsButHeld r t
FinishesButHeld (finished r) (turned_down n) = ⊥
FinishesButHeld (turned_down m) (finished t) = ⊥
FinishesButHeld (turned_down m) (turned_down n) = m ≡ n
