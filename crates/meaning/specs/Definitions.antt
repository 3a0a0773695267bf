-- Which registers the commands of a frame define (docs/RULES.md, rules 9.8 and 9.9). A finish's marks and its count are said of the commands
-- alone, and that they are so is proved (proofs/MarkLaws).
use Rattle.std.specs.Prelude.{ℕ, min, Bool, false, ◌&&◌, ◌||◌, List, [], ◌∷◌, ◌≡◌, eqb, length, get_or}
use Rattle.numbers.specs.Values.{values}
use Rattle.colours.specs.declared.Palette.{Palette}
use Rattle.colours.specs.Palette.{register_count, register_of}
use Rattle.colours.specs.Marks.{is_marked, is_defined, counted}
use Rattle.meaning.specs.Commands.{repeat, colour, raster, Command, argued, return, line, draw, Placed, commands}
use Rattle.meaning.specs.Drawing.{selected, Outcome}
use Rattle.meaning.specs.Payload.{Report, Finished, finished, turned_down}
use Rattle.meaning.specs.OneShot.{Found, found, lacking, refused_with}
use Rattle.meaning.specs.Reader.{Turn, stream}
use Rattle.meaning.specs.Calls.{Answer}
use Rattle.meaning.specs.Callers.{Feed}
use Rattle.meaning.specs.Demands.{Concluded, Whole, now, Through}

-- rules 3.5, 9.8: five values, the second of them 1 or 2, define the register that the first selects
unfoldable pub values_define : List ℕ → ℕ → Bool
values_define vs n = eqb (length vs) 5 && ((eqb (get_or vs 1 0) 1 || eqb (get_or vs 1 0) 2) && eqb n (selected vs))

-- rule 9.8: a command defines register n; no other than a colour command does
unfoldable pub defines : Command → ℕ → Bool
unfolding values_define
defines (argued repeat bs) n = false
defines (argued colour bs) n = values_define (values 5 bs) n
defines (argued raster bs) n = false
defines return n = false
defines line n = false
defines (draw bits) n = false

-- rule 9.9: one of some commands does
unfoldable pub some_defines : List Placed → ℕ → Bool
unfolding defines
some_defines [] n = false
some_defines (c ∷ cs) n = defines c.command n || some_defines cs n

-- the commands of the payload that an input has, if it has one
unfoldable pub commands_found : Found → List Placed
unfolding commands
commands_found (found o part) = commands part
commands_found lacking = []
commands_found (refused_with n) = []

-- Rules 9.8, 9.9. What a finish reports after some commands: marked are the registers that the owner had marked and those that a command
-- defines; the count is of those that a command defines, whatever was marked before; and in what is handed on no frame has defined any.
pub record MarksFollow (owner : Palette) (cs : List Placed) (r : Report) : Type 0 where
  pub marks : (n : ℕ) → is_marked r.palette n ≡ (is_marked owner n || some_defines cs (min n 255))
  pub count : r.defined ≡ counted (some_defines cs) register_count
  pub handed : (n : ℕ) → is_defined r.palette n ≡ false

-- so it is where a finish reports anything
abbrev pub ReportMarks : Palette → List Placed → Finished → Type 0
ReportMarks owner cs (finished r) = MarksFollow owner cs r
ReportMarks owner cs (turned_down n) = Unit {0}

-- rules 1.8, 9.8: what a finish leaves: where it reports, the report's palette is the owner's, with its marks; where it is refused the
-- owner's is as it was
pub record FinishMarks (opening owner : Palette) (cs : List Placed) (c : Concluded) : Type 0 where
  pub reported : ReportMarks opening cs c.answer
  pub handed : (r : Report) → c.answer ≡ finished r → c.palette ≡ r.palette
  pub kept : (n : ℕ) → c.answer ≡ turned_down n → c.palette ≡ owner

-- Of any reader, as its caller meets it (Demands): so it is once all has been read and nothing refused, however the stream is split.
-- `said` are the commands of a stream.
abbrev pub MarksKept : {H E : Type 0} → Feed H (Answer E) → (H → Palette → Concluded) → Palette → (List ℕ → List Placed) → H → List Turn → Type 0
MarksKept feed finish opening said h ts =
    Through feed h ts → (owner : Palette) → FinishMarks opening owner (said (stream ts)) (finish (now feed h ts).state owner)

-- ---- marks do not show

-- two palettes show the same colours; their marks may differ
abbrev pub SameColours : Palette → Palette → Type 0
SameColours p q = (n : ℕ) → register_of p n ≡ register_of q n

-- what commands come to, but for marks
pub record SameDrawn (x y : Outcome) : Type 0 where
  pub refusal : x.refusal ≡ y.refusal
  pub pen : x.drawing.pen ≡ y.drawing.pen
  pub strokes : x.drawing.strokes ≡ y.drawing.strokes
  pub area : x.drawing.area ≡ y.drawing.area
  pub raster : x.drawing.raster ≡ y.drawing.raster
  pub held : x.drawing.held ≡ y.drawing.held
  pub background : x.drawing.background ≡ y.drawing.background
  pub palette : SameColours x.drawing.palette y.drawing.palette

-- two reports, but for marks
pub record SameReports (r t : Report) : Type 0 where
  pub size : r.size ≡ t.size
  pub ratio : r.ratio ≡ t.ratio
  pub clear : r.clear ≡ t.clear
  pub extent : r.extent ≡ t.extent
  pub defined : r.defined ≡ t.defined
  pub declared : r.declared ≡ t.declared
  pub held : r.held ≡ t.held
  pub palette : SameColours r.palette t.palette

-- two finishes: both report, or both are refused with one number
abbrev pub SameFinishes : Finished → Finished → Type 0
SameFinishes (finished r) (finished t) = SameReports r t
SameFinishes (finished r) (turned_down n) = ⊥
SameFinishes (turned_down m) (finished t) = ⊥
SameFinishes (turned_down m) (turned_down n) = m ≡ n

-- all that a stream comes to (Demands), but for marks
pub record SameWholes {E : Type 0} (v w : Whole E) : Type 0 where
  pub refusal : v.refusal ≡ w.refusal
  pub end : v.end ≡ w.end
  pub consumed : v.consumed ≡ w.consumed
  pub ink : v.ink ≡ w.ink
  pub shown : v.shown ≡ w.shown
  pub settled : v.settled ≡ w.settled
  pub finish : SameFinishes v.finish w.finish
