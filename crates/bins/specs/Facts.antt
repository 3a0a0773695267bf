-- What the bin reader's facts speak of.
use Rattle.std.specs.Prelude.{ℕ, ◌+◌, ◌≤◌, ◌<◌, true, List, [], ◌∷◌, ◌↔◌, ◌≡◌, length}
use Rattle.std.proofs.Math.Option.{Option, none, some}
use Rattle.canvas.specs.Picture.{Stroke, Area, bit, last_stroke}
use Rattle.bins.specs.declared.Shape.{Shape}
use Rattle.bins.specs.declared.Setting.{Setting}
use Rattle.bins.specs.Bins.{first_column, last_column, told, picture_fits, setting_fits, asked_columns, asked_top}

-- nothing refuses a question beforehand: the canvas has the picture, and the setting fits it
pub record Accepted (p : Shape) (length : ℕ) (s : Setting) : Type 0 where
  pub picture : picture_fits p length ≡ true
  pub setting : setting_fits s p.width ≡ true

-- a bin has a column: it lies from the first to the last, both counted in
pub record Has (s : Setting) (bin column : ℕ) : Type 0 where
  pub first : first_column s bin ≤ column
  pub last : column ≤ last_column s bin

-- one of a setting's bins has a column
pub record Covering (s : Setting) (column : ℕ) : Type 0 where
  pub bin : ℕ
  pub counted : bin < s.count
  pub has : Has s bin column

-- a column lies from the first to the last that the columns of a bin are told to be
pub record Among (p : Shape) (length : ℕ) (s : Setting) (bin column : ℕ) : Type 0 where
  pub first : ℕ
  pub last : ℕ
  pub columns : asked_columns p length s bin ≡ told (first, last)
  pub low : first ≤ column
  pub high : column ≤ last

-- the pixels of a bin's columns have four bytes, in each of so many rows; `shows` gives the pixel of a column and a row
abbrev pub FourEach : (ℕ → ℕ → List ℕ) → ℕ → Setting → ℕ → Type 0
FourEach shows height s bin = (x y : ℕ) → Has s bin x → y < height → length (shows x y) ≡ 4

-- in a row, one of a bin's columns holds the colour
pub record Holds (shows : ℕ → ℕ → List ℕ) (s : Setting) (bin : ℕ) (colour : List ℕ) (row : ℕ) : Type 0 where
  pub column : ℕ
  pub has : Has s bin column
  pub shown : shows column row ≡ colour

-- what is told is the topmost of so many rows: the bin holds the colour there and in no row above it; none is told exactly when it does in no row
pub record Topmost (shows : ℕ → ℕ → List ℕ) (height : ℕ) (s : Setting) (bin : ℕ) (colour : List ℕ) (told : Option ℕ) : Type 0 where
  pub row : (y : ℕ)
      → (told ≡ some y)
      ↔ ((y < height) × Holds shows s bin colour y × ((above : ℕ) → above < y → ¬ Holds shows s bin colour above))
  pub nowhere : (told ≡ none) ↔ ((y : ℕ) → y < height → ¬ Holds shows s bin colour y)

-- `top` tells a row, or none, and that is the topmost in what is shown
pub record Tells (shows : ℕ → ℕ → List ℕ) (p : Shape) (canvas : List ℕ) (s : Setting) (bin : ℕ) (colour : List ℕ) : Type 0 where
  pub row : Option ℕ
  pub tells : asked_top p canvas s bin colour ≡ told row
  pub topmost : Topmost shows p.height s bin colour row

-- ---- pictures that are made of strokes

-- where a picture of this size stands
abbrev pub shape_of : ℕ → Area → Shape
shape_of stride area = record { stride = stride; width = area.width; height = area.height }

-- each stroke's colour has four bytes
abbrev pub FourStrokes : List Stroke → Type 0
FourStrokes [] = Unit {0}
FourStrokes (k ∷ ks) = (length k.colour ≡ 4) × FourStrokes ks

-- a bin has one of a stroke's columns
pub record Meets (s : Setting) (bin : ℕ) (k : Stroke) : Type 0 where
  pub column : ℕ
  pub has : Has s bin column
  pub low : k.column ≤ column
  pub high : column < k.column + k.repeat

-- in a row, one of a bin's columns shows the stroke at a place of the list
pub record Shows (strokes : List Stroke) (place : ℕ) (s : Setting) (bin row : ℕ) : Type 0 where
  pub column : ℕ
  pub has : Has s bin column
  pub stroke : last_stroke strokes column row ≡ some place

-- bit j of a stroke is set, and no later stroke covers its columns in that row
pub record Uncovered (k : Stroke) (later : List Stroke) (j : ℕ) : Type 0 where
  pub six : j < 6
  pub set : bit k.bits j ≡ true
  pub bare : (x : ℕ) → k.column ≤ x → x < k.column + k.repeat → last_stroke later x (k.row + j) ≡ none

-- `top` tells a row, and it is this one or one above it
pub record NoLower (p : Shape) (canvas : List ℕ) (s : Setting) (bin : ℕ) (colour : List ℕ) (bound : ℕ) : Type 0 where
  pub row : ℕ
  pub tells : asked_top p canvas s bin colour ≡ told (some row)
  pub least : row ≤ bound
