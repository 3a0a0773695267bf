-- From commands to strokes (docs/RULES.md, sections 3 and 4): what each command does to a drawing, and what it is refused for.
-- The repeat's number, columns, rows and ink have no bound here.
use Rattle.std.specs.Prelude.{ℕ, ◌+◌, ◌*◌, min, max, Bool, false, cond, ◌||◌, List, [], ◌∷◌, ◌++◌, leb, ltb, eqb, ℤ, pos, length, get_or, drop}
use Rattle.std.proofs.Math.Option.{Option, none, some}
use Rattle.std.specs.Int.Count.{ones}
use Rattle.numbers.specs.Values.{decimal, values}
use Rattle.colours.specs.declared.Palette.{Palette}
use Rattle.colours.specs.Palette.{register_of, rgb_held, hls_held}
use Rattle.colours.specs.Marks.{defined_rgb, defined_hls, lasting}
use Rattle.canvas.specs.Picture.{Stroke, Area, depth, grown_to, reach}
use Rattle.meaning.specs.Commands.{repeat, colour, raster, Command, argued, return, line, draw, Placed}

-- rule 1.1: W, H, R and M
pub record Limits : Type 0 where
  pub width : ℕ
  pub height : ℕ
  pub repeats : ℕ
  pub pixels : ℕ

-- rule 1.2: the house limits
abbrev pub house_limits : Limits
house_limits = record { width = 1024; height = 768; repeats = 1024; pixels = 786432 }

-- rule 1.2: the crate limits, which the Rust has compiled in
abbrev pub crate_limits : Limits
crate_limits = record { width = 1000000; height = 1000000; repeats = 65535; pixels = 67108864 }

-- rule 1.3: what a session was opened with: its limits, and the canvas's stride and whole rows
pub record Setting : Type 0 where
  pub limits : Limits
  pub stride : ℕ
  pub rows : ℕ

-- rule 3.1: where the next sixel goes, how often, and in which register's colour
pub record Pen : Type 0 where
  pub column : ℕ
  pub row : ℕ
  pub repeats : ℕ
  pub register : ℕ

-- what raster commands have left: the ratio, or none, and the width and height kept, 0 where none was
pub record Raster : Type 0 where
  pub ratio : Option ℕ
  pub width : ℕ
  pub height : ℕ

-- all that a payload has made so far; a blank sixel is a stroke of no bits, and `held` is how many definitions had a held value (rule 9.10)
pub record Drawing : Type 0 where
  pub pen : Pen
  pub strokes : List Stroke
  pub area : Area
  pub raster : Raster
  pub held : ℕ
  pub palette : Palette
  pub background : List ℕ

-- rule 1.6: the background is transparent exactly when P2 is 1
unfoldable pub transparent : Option ℕ → Bool
transparent none = false
transparent (some n) = eqb n 1

-- rule 1.6: 0,0,0,0 where it is transparent, else register 0 at the start
unfoldable pub background_of : Palette → Option ℕ → List ℕ
unfolding transparent
background_of p p2 = cond (transparent p2) (0 ∷ 0 ∷ 0 ∷ 0 ∷ []) (register_of p 0)

-- rules 1.7, 1.8, 3.1: the drawing before the first byte, with a copy of the owner's palette in which this frame has defined nothing
unfoldable pub blank : Palette → Option ℕ → Drawing
unfolding background_of
blank owner p2 =
    record {
      pen = record { column = 0; row = 0; repeats = 1; register = 0 };
      strokes = [];
      area = record { width = 1; height = 1 };
      raster = record { ratio = none; width = 0; height = 0 };
      held = 0;
      palette = lasting owner;
      background = background_of (lasting owner) p2;
    }

-- a command's outcome: the drawing after it, or a refusal's number
pub data Drawn : Type 0 where
  drawn : Drawing → Drawn
  refused : ℕ → Drawn

-- ---- one part changed, the others kept

unfoldable pub with_pen : Drawing → Pen → Drawing
with_pen d p =
    record { pen = p; strokes = d.strokes; area = d.area; raster = d.raster; held = d.held; palette = d.palette; background = d.background }

unfoldable pub with_register : Pen → ℕ → Pen
with_register p n = record { column = p.column; row = p.row; repeats = p.repeats; register = n }

unfoldable pub with_repeats : Pen → ℕ → Pen
with_repeats p n = record { column = p.column; row = p.row; repeats = n; register = p.register }

-- rule 3.6: the pen in another column and row
unfoldable pub moved : Pen → ℕ → ℕ → Pen
moved p column row = record { column = column; row = row; repeats = p.repeats; register = p.register }

-- ---- repeat

-- rules 3.2, 3.3: above R it is 4, and 0 means 1; it waits for the next sixel, and a later one replaces it
unfoldable pub repeated : Setting → ℕ → Drawing → Drawn
unfolding with_pen with_repeats
repeated s n d = cond (ltb s.limits.repeats n) (refused 4) (drawn (with_pen d (with_repeats d.pen (max 1 n))))

-- ---- colour

-- rule 3.4: no value selects register 0, and a number above 255 selects 255
unfoldable pub selected : List ℕ → ℕ
selected vs = min (get_or vs 0 0) 255

-- rule 3.5: with five values, space 1 (HLS) or 2 (RGB) redefines the register
unfoldable pub redefined : Palette → ℕ → List ℕ → Palette
redefined p n vs =
    cond (eqb (length vs) 5)
    (cond (eqb (get_or vs 1 0) 1) (defined_hls p n (pos (get_or vs 2 0)) (pos (get_or vs 3 0)) (pos (get_or vs 4 0)))
    (cond (eqb (get_or vs 1 0) 2) (defined_rgb p n (pos (get_or vs 2 0)) (pos (get_or vs 3 0)) (pos (get_or vs 4 0)))
    p))
    p

-- rule 9.10: in a space, one of a definition's percents lies outside 0 to 100; of HLS the hue is no percent
unfoldable pub holds_in : ℕ → ℤ → ℤ → ℤ → Bool
holds_in space x y z = cond (eqb space 1) (hls_held y z) (cond (eqb space 2) (rgb_held x y z) false)

-- rule 9.10: a definition, which has five values, has a held one
unfoldable pub holds : List ℕ → Bool
unfolding holds_in
holds vs = cond (eqb (length vs) 5) (holds_in (get_or vs 1 0) (pos (get_or vs 2 0)) (pos (get_or vs 3 0)) (pos (get_or vs 4 0))) false

-- rule 9.10: it counts once
unfoldable pub held_in : List ℕ → ℕ
unfolding holds
held_in vs = cond (holds vs) 1 0

-- rule 3.5: a colour command selects its register, and redefines it where its values say so
unfoldable pub coloured : List ℕ → Drawing → Drawing
unfolding with_register selected redefined held_in
coloured vs d =
    record {
      pen = with_register d.pen (selected vs);
      strokes = d.strokes;
      area = d.area;
      raster = d.raster;
      held = d.held + held_in vs;
      palette = redefined d.palette (selected vs) vs;
      background = d.background;
    }

-- ---- sizes

unfoldable pub pixels_of : Area → ℕ
pixels_of a = a.width * a.height

-- rule 4.2: 5 above W or H, then 6 where the visible area would exceed M pixels, then 7 above the stride or the rows
unfoldable pub size_refusal : Setting → Area → ℕ → ℕ → Option ℕ
unfolding pixels_of grown_to
size_refusal s a w h =
    cond (ltb s.limits.width w || ltb s.limits.height h) (some 5)
    (cond (ltb s.limits.pixels (pixels_of (grown_to a w h))) (some 6)
    (cond (ltb s.stride w || ltb s.rows h) (some 7) none))

-- rule 4.2: a drawing unless its size is refused
unfoldable pub unless : Option ℕ → Drawing → Drawn
unless none d = drawn d
unless (some n) d = refused n

-- ---- raster

-- rule 3.7: a quotient of exactly 1, 2, 3 or 5 is the ratio; another clears it
unfoldable pub quotient : ℕ → ℕ → Option ℕ
quotient v h =
    cond (eqb v h) (some 1)
    (cond (eqb v (2 * h)) (some 2)
    (cond (eqb v (3 * h)) (some 3)
    (cond (eqb v (5 * h)) (some 5) none)))

-- rule 3.7: the first two values, a 0 raised to 1, are vertical:horizontal; one value alone changes no ratio
unfoldable pub ratio_after : Option ℕ → List ℕ → Option ℕ
unfolding quotient
ratio_after old vs = cond (leb 2 (length vs)) (quotient (max 1 (get_or vs 0 0)) (max 1 (get_or vs 1 0))) old

-- rule 3.8: a width or height above 0 is kept
unfoldable pub kept : ℕ → ℕ → ℕ
kept old n = cond (ltb 0 n) n old

-- rule 3.8: what a raster command's values leave of ratio, width and height
unfoldable pub raster_after : Raster → List ℕ → Raster
unfolding ratio_after kept
raster_after r vs =
    record { ratio = ratio_after r.ratio vs; width = kept r.width (get_or vs 2 0); height = kept r.height (get_or vs 3 0) }

-- the drawing with a raster and an area
unfoldable pub with_raster : Drawing → Raster → Area → Drawing
with_raster d r a =
    record { pen = d.pen; strokes = d.strokes; area = a; raster = r; held = d.held; palette = d.palette; background = d.background }

-- rule 3.8: the visible area grows to a raster's size, a missing width or height counting 1
unfoldable pub stretched : Setting → Raster → Drawing → Drawn
unfolding with_raster size_refusal unless
stretched s r d =
    unless (size_refusal s d.area (max 1 r.width) (max 1 r.height))
    (with_raster d r (grown_to d.area (max 1 r.width) (max 1 r.height)))

-- rule 3.8: it does so if a width or a height is kept
unfoldable pub rastered : Setting → Raster → Drawing → Drawn
unfolding stretched
rastered s r d = cond (eqb (r.width + r.height) 0) (drawn (with_raster d r d.area)) (stretched s r d)

-- ---- sixel

-- rule 3.9: the stroke that a sixel's bits make at the pen; no answer reads its register yet
unfoldable pub stroke_of : ℕ → Drawing → Stroke
stroke_of bits d =
    record {
      column = d.pen.column;
      row = d.pen.row;
      repeat = d.pen.repeats;
      bits = bits;
      colour = register_of d.palette d.pen.register;
      register = d.pen.register;
    }

-- rules 3.3, 3.9: the drawing with a stroke more: the area grows to it, the column advances, the repeat is spent
unfoldable pub stroked : Drawing → Stroke → Drawing
unfolding moved with_repeats
stroked d k =
    record {
      pen = with_repeats (moved d.pen (k.column + k.repeat) d.pen.row) 1;
      strokes = d.strokes ++ (k ∷ []);
      area = reach d.area k;
      raster = d.raster;
      held = d.held;
      palette = d.palette;
      background = d.background;
    }

-- rule 3.9: it needs columns up to position + repeat and rows up to position + 6
unfoldable pub sixelled : Setting → ℕ → Drawing → Drawn
unfolding stroke_of stroked size_refusal unless
sixelled s bits d =
    unless (size_refusal s d.area (d.pen.column + d.pen.repeats) (d.pen.row + 6)) (stroked d (stroke_of bits d))

-- ---- commands

-- rule 3.6: what each command does; `$` goes back to column 0, and `-` to column 0 of the next six rows
unfoldable pub draw_command : Setting → Command → Drawing → Drawn
unfolding repeated coloured rastered sixelled raster_after with_pen moved
draw_command s (argued repeat bs) d = repeated s (decimal bs) d
draw_command s (argued colour bs) d = drawn (coloured (values 5 bs) d)
draw_command s (argued raster bs) d = rastered s (raster_after d.raster (values 4 bs)) d
draw_command s return d = drawn (with_pen d (moved d.pen 0 d.pen.row))
draw_command s line d = drawn (with_pen d (moved d.pen 0 (d.pen.row + 6)))
draw_command s (draw bits) d = sixelled s bits d

-- what commands in their order come to: the drawing, up to the first that is refused, and that refusal
pub record Outcome : Type 0 where
  pub drawing : Drawing
  pub refusal : Option ℕ

-- rule 5.4: a command's outcome, and what follows it
unfoldable pub and_then : Drawing → Drawn → (Drawing → Outcome) → Outcome
and_then before (drawn d) later = later d
and_then before (refused n) later = record { drawing = before; refusal = some n }

-- rule 3.11: commands in their order, up to the first that is refused
unfoldable pub draw_all : Setting → List Placed → Drawing → Outcome
unfolding draw_command and_then
draw_all s [] d = record { drawing = d; refusal = none }
draw_all s (c ∷ cs) d = and_then d (draw_command s c.command d) (draw_all s cs)

-- ---- ink and extent

-- rule 6.1: a sixel's ink: the repeat times the ones among its six bits
unfoldable pub ink_of : Stroke → ℕ
ink_of k = k.repeat * ones k.bits

-- rule 6.1: the ink of all of some strokes
unfoldable pub ink_of_all : List Stroke → ℕ
unfolding ink_of
ink_of_all [] = 0
ink_of_all (k ∷ ks) = ink_of k + ink_of_all ks

-- the strokes that a drawing has beyond an earlier one; a byte draws one at most
unfoldable pub strokes_since : Drawing → Drawing → List Stroke
strokes_since before now = drop (length before.strokes) now.strokes

-- rule 4.4: one past the last column that a stroke paints, or 0 where it paints nothing
unfoldable pub right_of : Stroke → ℕ
right_of k = cond (eqb (depth 6 k.bits) 0) 0 (k.column + k.repeat)

-- rule 4.4: one past the last row that it paints, or 0
unfoldable pub bottom_of : Stroke → ℕ
bottom_of k = cond (eqb (depth 6 k.bits) 0) 0 (k.row + depth 6 k.bits)

-- rule 4.4: one past the last column that some strokes paint, or 0
unfoldable pub columns_painted : List Stroke → ℕ
unfolding right_of
columns_painted [] = 0
columns_painted (k ∷ ks) = max (right_of k) (columns_painted ks)

-- rule 4.4: one past the last row, or 0
unfoldable pub rows_painted : List Stroke → ℕ
unfolding bottom_of
rows_painted [] = 0
rows_painted (k ∷ ks) = max (bottom_of k) (rows_painted ks)

-- rule 4.4: both
unfoldable pub extent_of : List Stroke → Area
unfolding columns_painted rows_painted
extent_of ks = record { width = columns_painted ks; height = rows_painted ks }
