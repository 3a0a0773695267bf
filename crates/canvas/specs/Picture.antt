-- What a canvas shows. A canvas is a list of bytes, four to a pixel (red, green, blue, alpha), `stride` pixels to a row.
-- Reading makes strokes; a picture is made of them and of nothing else: in the visible area each pixel is the last
-- stroke that covers it, or else the background; every other byte is that of the opening. Which stroke a pixel shows is
-- said by its place in the list, and the colour follows from the place.
use Rattle.std.specs.Prelude.{ℕ, zero, suc, ◌+◌, ◌-◌, ◌/◌, ◌%◌, ◌^◌, max, Bool, true, false, cond, ◌&&◌, List, [], ◌∷◌, map, get_or, leb, ltb, eqb}
use Rattle.std.proofs.Math.Option.{Option, none, some}

-- rule 3.9: one sixel's mark: its repeat's columns from `column`, six rows from `row`, the six bits, a pixel of four bytes, and the
-- register that the pixel came from
pub record Stroke : Type 0 where
  pub column : ℕ
  pub row : ℕ
  pub repeat : ℕ
  pub bits : ℕ
  pub colour : List ℕ
  pub register : ℕ

-- rule 4.1: the visible area: columns below `width`, rows below `height`
pub record Area : Type 0 where
  pub width : ℕ
  pub height : ℕ

-- the area of a width and a height
abbrev pub area_of : ℕ → ℕ → Area
area_of w h = record { width = w; height = h }

-- a number from `first` up to `last`, without `last`
unfoldable pub span : ℕ → ℕ → ℕ → Bool
span first last n = leb first n && ltb n last

-- rule 2.2: bit k of a number, the lowest being bit 0
unfoldable pub bit : ℕ → ℕ → Bool
bit bits k = eqb (bits / 2 ^ k % 2) 1

-- rule 4.4: how far down so many bits go: one past the lowest row whose bit is 1, or 0 where none is
unfoldable pub depth : ℕ → ℕ → ℕ
unfolding bit
depth zero bits = 0
depth (suc k) bits = cond (bit bits k) (suc k) (depth k bits)

-- the pixels of a sixel: the repeat's columns, and of the six rows those whose bit is 1, the lowest on top
unfoldable pub in_sixel : ℕ → ℕ → ℕ → ℕ → ℕ → ℕ → Bool
in_sixel column row repeat bits x y = span column (column + repeat) x && (span row (row + 6) y && bit bits (y - row))

-- rule 3.10: a stroke covers the pixels of its sixel
unfoldable pub covers : Stroke → ℕ → ℕ → Bool
covers s x y = in_sixel s.column s.row s.repeat s.bits x y

-- a place in a list that starts one stroke earlier: one on where there is one, else the first where that covers, else none
unfoldable pub or_here : Option ℕ → Bool → Option ℕ
or_here (some n) here = some (suc n)
or_here none true = some zero
or_here none false = none

-- rule 3.10: the place of the last stroke that covers (x, y), counted from 0 and the oldest first
unfoldable pub last_stroke : List Stroke → ℕ → ℕ → Option ℕ
last_stroke [] x y = none
last_stroke (s ∷ later) x y = or_here (last_stroke later x y) (covers s x y)

-- the colour of the stroke at a place, or the background where there is no place
unfoldable pub colour_at : List ℕ → List Stroke → Option ℕ → List ℕ
colour_at background strokes none = background
colour_at background strokes (some n) = get_or (map (λ (s : Stroke). s.colour) strokes) n background

-- rule 3.10: the colour shown at (x, y)
unfoldable pub shown_colour : List ℕ → List Stroke → ℕ → ℕ → List ℕ
shown_colour background strokes x y = colour_at background strokes (last_stroke strokes x y)

-- (x, y) lies in the area
unfoldable pub visible : Area → ℕ → ℕ → Bool
visible area x y = ltb x area.width && ltb y area.height

-- a function of (x, y) at pixel p of a canvas
unfoldable pub grid {ℓ} : {A : Type ℓ} → ℕ → (ℕ → ℕ → A) → ℕ → A
grid stride f p = f (p % stride) (p / stride)

-- a list with each byte replaced by a function of its place, which is counted from k, and itself
unfoldable pub replaced : ℕ → (ℕ → ℕ → ℕ) → List ℕ → List ℕ
replaced k f [] = []
replaced k f (b ∷ bs) = f k b ∷ replaced (suc k) f bs

-- rule 3.10: every byte of the canvas: in the area byte k is byte k % 4 of what pixel k / 4 shows, elsewhere it is the opening's
unfoldable pub picture : ℕ → Area → List ℕ → List Stroke → List ℕ → List ℕ
picture stride area background strokes opening =
    replaced 0
    (λ k b. cond (grid stride (visible area) (k / 4)) (get_or (grid stride (shown_colour background strokes) (k / 4)) (k % 4) 0) b)
    opening

-- rule 1.3: the whole rows of a canvas of so many bytes; none where the stride is 0
unfoldable pub rows_of : ℕ → ℕ → ℕ
rows_of length stride = length / 4 / stride

-- an area has room on a canvas of this stride and so many bytes
unfoldable pub fits : ℕ → ℕ → Area → Bool
fits stride length area = leb area.width stride && leb area.height (rows_of length stride)

-- a stroke's columns and its six rows lie in the area
unfoldable pub inside : Area → Stroke → Bool
inside area s = leb (s.column + s.repeat) area.width && leb (s.row + 6) area.height

-- each stroke lies in the area
unfoldable pub all_inside : Area → List Stroke → Bool
all_inside area [] = true
all_inside area (s ∷ later) = inside area s && all_inside area later

-- rule 4.1: an area grown to a width and a height, where it does not have them
unfoldable pub grown_to : Area → ℕ → ℕ → Area
grown_to area w h = area_of (max area.width w) (max area.height h)

-- rule 4.1: an area grown to a stroke's columns and its six rows
unfoldable pub reach : Area → Stroke → Area
reach area s = grown_to area (s.column + s.repeat) (s.row + 6)
