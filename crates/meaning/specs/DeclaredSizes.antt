-- What size the commands of a payload declare (docs/RULES.md, rule 4.7), said of the commands alone. That a finish reports it is proved
-- (proofs/DeclaredLaws, proofs/ReportLaws).
use Rattle.std.specs.Prelude.{ℕ, ◌≤◌, List, [], ◌∷◌, ◌≡◌, get_or}
use Rattle.numbers.specs.Values.{values}
use Rattle.canvas.specs.Picture.{Area, area_of}
use Rattle.meaning.specs.Commands.{repeat, colour, raster, Command, argued, return, line, draw, Placed}
use Rattle.meaning.specs.Drawing.{kept}
use Rattle.meaning.specs.Payload.{Report}

-- rule 4.7: the side that is declared after a command: a raster's value at place k where that is above 0, else what it was before
unfoldable pub side_after : ℕ → ℕ → Command → ℕ
side_after k old (argued repeat bs) = old
side_after k old (argued colour bs) = old
side_after k old (argued raster bs) = kept old (get_or (values 4 bs) k 0)
side_after k old return = old
side_after k old line = old
side_after k old (draw bits) = old

-- and after some commands
unfoldable pub side_by : ℕ → ℕ → List Placed → ℕ
unfolding side_after
side_by k old [] = old
side_by k old (c ∷ cs) = side_by k (side_after k old c.command) cs

-- rule 4.7: the size that some commands declare: the width is a raster's third value, the height its fourth
unfoldable pub declared_by : List Placed → Area
unfolding side_by
declared_by cs = area_of (side_by 2 0 cs) (side_by 3 0 cs)

-- rule 4.7: what a finish reports after some commands: the size that they declare, and that it lies inside the picture's size
pub record Declares (cs : List Placed) (r : Report) : Type 0 where
  pub told : r.declared ≡ declared_by cs
  pub width : r.declared.width ≤ r.size.width
  pub height : r.declared.height ≤ r.size.height
