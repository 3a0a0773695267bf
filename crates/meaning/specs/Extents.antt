-- What the extent is, said of pixels (docs/RULES.md, rule 4.4): the least box in the picture's corner that every painted pixel lies in.
-- That the definition's numbers are this box is proved (proofs/ExtentLaws).
use Rattle.std.specs.Prelude.{ℕ, ◌-◌, ◌≤◌, ◌<◌, Bool, true, false, ◌||◌, List, [], ◌∷◌, ◌↔◌, ◌≡◌}
use Rattle.std.proofs.Math.Option.{Option, none, some}
use Rattle.canvas.specs.Picture.{Stroke, Area, area_of, covers}
use Rattle.meaning.specs.Drawing.{Drawing, ink_of_all, extent_of}

-- rule 4.4: a pixel is painted where some stroke covers it, whichever comes later
unfoldable pub is_painted : List Stroke → ℕ → ℕ → Bool
is_painted [] x y = false
is_painted (k ∷ ks) x y = covers k x y || is_painted ks x y

-- some pixel of a column is painted
pub record ColumnPainted (ks : List Stroke) (column : ℕ) : Type 0 where
  pub row : ℕ
  pub painted : is_painted ks column row ≡ true

-- some pixel of a row is painted
pub record RowPainted (ks : List Stroke) (row : ℕ) : Type 0 where
  pub column : ℕ
  pub painted : is_painted ks column row ≡ true

-- rule 4.4: every painted pixel lies in the box, and where the box is not empty one stands in its last column and one in its last row
pub record LeastBox (ks : List Stroke) (box : Area) : Type 0 where
  pub holds : (x y : ℕ) → is_painted ks x y ≡ true → (x < box.width) × (y < box.height)
  pub last_column : 0 < box.width → ColumnPainted ks (box.width - 1)
  pub last_row : 0 < box.height → RowPainted ks (box.height - 1)

-- rule 4.4: the extent of a drawing is that box, is 0 by 0 exactly where no ink was drawn, and lies inside the size
pub record FollowsInk (d : Drawing) : Type 0 where
  pub box : LeastBox d.strokes (extent_of d.strokes)
  pub none : (extent_of d.strokes ≡ area_of 0 0) ↔ (ink_of_all d.strokes ≡ 0)
  pub width : (extent_of d.strokes).width ≤ d.area.width
  pub height : (extent_of d.strokes).height ≤ d.area.height

-- so it is of what has been drawn; before the payload nothing has been
abbrev pub VisibleFollows : Option Drawing → Type 0
VisibleFollows none = Unit {0}
VisibleFollows (some d) = FollowsInk d
