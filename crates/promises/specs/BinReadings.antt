-- What the bin reader (docs/RULES.md, section 11) tells of a picture that was read, in the definition's terms: of the drawing, its
-- strokes and its background.
use Rattle.std.specs.Prelude.{ℕ, ◌+◌, ◌<◌, true, List, ◌∷◌, ◌++◌, ◌↔◌, ◌≡◌, length}
use Rattle.canvas.specs.Picture.{Stroke, Area, shown_colour}
use Rattle.colours.specs.declared.Palette.{Palette}
use Rattle.meaning.specs.Calls.{Answer}
use Rattle.meaning.specs.Callers.{Feed}
use Rattle.meaning.specs.Demands.{Concluded, now, Through}
use Rattle.meaning.specs.Drawing.{Setting, Drawing}
use Rattle.meaning.specs.OneShot.{Found, found}
use Rattle.meaning.specs.Payload.{Parameters, payload, Report, finished}
use Rattle.meaning.specs.Reader.{Turn, stream}
use Rattle.meaning.specs.Sequence.{sequence_payload}
use Rattle.meaning.specs.Sessions.{End}
use Rattle.bins.specs.declared.Setting as bins
use Rattle.bins.specs.Bins.{setting_fits}
use Rattle.bins.specs.Facts.{Tells, shape_of, Meets, Shows, Uncovered, NoLower}

-- a picture of this size on a canvas, and the drawing that was read
pub record ToldByBins (stride : ℕ) (size : Area) (canvas : List ℕ) (d : Drawing) : Type 0 where
  -- `top` tells the topmost row in which one of the bin's columns shows the colour: that of the last stroke that covers it, or else
  -- the background
  pub top : (b : bins.Setting) (bin : ℕ) (colour : List ℕ) → setting_fits b size.width ≡ true → bin < b.count → length colour ≡ 4
      → Tells (shown_colour d.background d.strokes) (shape_of stride size) canvas b bin colour
  -- of a stroke with a set bit that no later stroke covers: exactly the bins that have one of its columns show it in that bit's row
  pub held : (b : bins.Setting) (bin : ℕ) (before : List Stroke) (k : Stroke) (later : List Stroke) (j : ℕ)
      → d.strokes ≡ before ++ k ∷ later → Uncovered k later j → Shows d.strokes (length before) b bin (k.row + j) ↔ Meets b bin k
  -- and of these bins `top` tells, for its colour, that row or one above it
  pub stroke : (b : bins.Setting) (bin : ℕ) (before : List Stroke) (k : Stroke) (later : List Stroke) (j : ℕ)
      → setting_fits b size.width ≡ true → bin < b.count → d.strokes ≡ before ++ k ∷ later → Uncovered k later j → Meets b bin k
      → NoLower (shape_of stride size) canvas b bin k.colour (k.row + j)

-- the same where the payload was found among other bytes
pub record FoundByBins (s : Setting) (p : Palette) (f : Found) (size : Area) (canvas : List ℕ) : Type 0 where
  pub parameters : Parameters
  pub part : List ℕ
  pub is_found : f ≡ found parameters part
  pub told : ToldByBins s.stride size canvas (payload s parameters p part).drawing

-- Of any reader, as its caller meets it (`meaning/Demands`): once all has been presented and a finish reports, on the canvas and
-- for the size of that finish. The drawing is that of the whole stream.
module _ {H : Type 0} (finish : H → Palette → Concluded) (s : Setting) (p : Palette) (h : H) (ts : List Turn) where
  -- of a payload session
  abbrev pub PayloadBins : Feed H (Answer ℕ) → Parameters → Type 0
  PayloadBins feed o =
      Through feed h ts → (owner : Palette) (r : Report) → (finish (now feed h ts).state owner).answer ≡ finished r
      → ToldByBins s.stride r.size (finish (now feed h ts).state owner).canvas (payload s o p (stream ts)).drawing

  -- of a DCS session
  abbrev pub SequenceBins : Feed H (Answer End) → Type 0
  SequenceBins feed =
      Through feed h ts → (owner : Palette) (r : Report) → (finish (now feed h ts).state owner).answer ≡ finished r
      → FoundByBins s p (sequence_payload (stream ts)) r.size (finish (now feed h ts).state owner).canvas
