-- On a canvas that shows a picture, `top` tells the least row in which one of the bin's columns shows the colour: by the last stroke that covers
-- it, or else the background.
-- Assumes nothing.
use mathlib.Core.Path.{◌≡◌, refl, sym, ap, ◌∙◌}
use mathlib.Core.Bool.{Bool, true, false, cond}
use mathlib.Core.Option.{Option, none, some}
use mathlib.Core.List.{List, [], ◌∷◌, map}
use Prim.Native.Nat.{ℕ, zero, suc, ◌+◌, ◌*◌, ◌/◌, ◌%◌, ◌≤◌, ◌<◌}
use native.Mathlib.Omega.{arith}
use lib.Dec.{ltb}
use lib.Arith.{digits_div, digits_mod}
use lib.ListN.{length, get_or}
use lib.Seq.{ext_get_or}
use borrow.Author.Tests.{ltb-true, lt-ltb}
use Rattle.canvas.specs.Picture.{Stroke, Area, rows_of, last_stroke, colour_at, shown_colour, grid, picture}
use Rattle.canvas.proofs.Copies.{has_all}
use Rattle.canvas.proofs.Growth.{visible-in, rectangle-room}
use Rattle.canvas.proofs.Pictures.{length-picture, picture-byte}
use Rattle.bins.specs.declared.Shape.{Shape}
use Rattle.bins.specs.declared.Setting.{Setting}
use Rattle.bins.specs.Bins.{pixel, pixel_at, top_row, Answer, told, refused, picture_fits, setting_fits, answered, asked_top}
use Rattle.bins.specs.Facts.{Tells, shape_of, FourStrokes}
use Rattle.bins.proofs.Answers.{fits_width, told-exactly}
use Rattle.bins.proofs.Inverses.{has-inside}
use Rattle.bins.proofs.Topmost.{topmost, top-alike}
use Rattle.bins.proofs.Pixels.{pixel-byte, pixel-length}

-- ---- what is shown has four bytes

-- one of so many colours, or else the background
colour-four : (background : List ℕ) (ks : List Stroke) (n : ℕ) → length background ≡ 4 → FourStrokes ks
    → length (get_or (map (λ (k : Stroke). k.colour) ks) n background) ≡ 4
colour-four background [] n g f = g
colour-four background (k ∷ ks) zero g f = f.0
colour-four background (k ∷ ks) (suc n) g f = colour-four background ks n g f.1

pub shown-four : (background : List ℕ) (ks : List Stroke) → length background ≡ 4 → FourStrokes ks → (x y : ℕ) → length (shown_colour background ks x y) ≡ 4
unfolding shown_colour colour_at
shown-four background ks g f x y = go (last_stroke ks x y)
  where
    go : (o : Option ℕ) → length (colour_at background ks o) ≡ 4
    go none = g
    go (some n) = colour-four background ks n g f

-- ---- a pixel of a picture

module _ (stride : ℕ) (area : Area) (background : List ℕ) (ks : List Stroke) (opening : List ℕ)
    (wide : area.width ≤ stride) (tall : area.height ≤ rows_of (length opening) stride) (x y : ℕ) (column : x < area.width) (row : y < area.height) where
  abbrev shows : List ℕ
  shows = picture stride area background ks opening

  -- it lies on the canvas
  room : 4 * (y * stride + x + 1) ≤ length opening
  room = omega (arith, rectangle-room (length opening) stride area.width area.height y wide tall row)

  -- its byte k is byte k of what is shown
  byte-shown : (k : ℕ) → k < 4 → get_or shows (4 * (y * stride + x) + k) 0 ≡ get_or (shown_colour background ks x y) k 0
  unfolding grid
  byte-shown k h =
      let p : ℕ = y * stride + x in
      let in_row : x < stride = omega arith in
      let pixel-of : (4 * p + k) / 4 ≡ p = ap (λ (n : ℕ). (n + k) / 4) (omega arith) ∙ digits_div p h in
      let byte_of : (4 * p + k) % 4 ≡ k = ap (λ (n : ℕ). (n + k) % 4) (omega arith) ∙ digits_mod p h in
      let column-of : p % stride ≡ x = digits_mod y in_row in
      let row_of : p / stride ≡ y = digits_div y in_row in
      picture-byte stride area background ks opening (4 * p + k) (omega (arith, room))
      ∙ rw (pixel-of, byte_of, column-of, row_of, visible-in area x y column row) refl

  -- A pixel of the picture is what is shown there.
  pub pixel-shown : length (shown_colour background ks x y) ≡ 4 → pixel_at stride shows x y ≡ shown_colour background ks x y
  unfolding pixel_at
  pixel-shown four =
      let here : 4 * (y * stride + x + 1) ≤ length shows = rw (length-picture stride area background ks opening) room in
      let long : length (pixel shows (y * stride + x)) ≡ 4 = pixel-length shows (y * stride + x) here in
      ext_get_or 0 (pixel shows (y * stride + x)) (shown_colour background ks x y) (long ∙ sym four)
      (λ k h. let less : k < 4 = omega (arith, long) in pixel-byte shows (y * stride + x) k less ∙ byte-shown k less)

-- ---- the answer

-- what is told counts only where nothing is refused
answered-alike : {A : Type 0} (p : Shape) (n : ℕ) (s : Setting) (inside : Bool) (a b : A) → (setting_fits s p.width ≡ true → inside ≡ true → a ≡ b)
    → answered p n s inside a ≡ answered p n s inside b
unfolding answered
answered-alike {A} p n s inside a b e =
    ap (λ (r : Answer A). cond (picture_fits p n) r (refused 12)) (go (setting_fits s p.width) inside e)
  where
    go : (u v : Bool) → (u ≡ true → v ≡ true → a ≡ b)
        → ◌≡◌ {A = Answer A} (cond u (cond v (told a) (refused 16)) (refused 15)) (cond u (cond v (told b) (refused 16)) (refused 15))
    go true true q = ap told (q refl refl)
    go true false q = refl
    go false v q = refl

module _ (stride : ℕ) (area : Area) (background : List ℕ) (ks : List Stroke) (opening : List ℕ)
    (wide : area.width ≤ stride) (tall : area.height ≤ rows_of (length opening) stride) (ground : length background ≡ 4) (four : FourStrokes ks)
    (s : Setting) (bin : ℕ) (colour : List ℕ) where
  abbrev shape : Shape
  shape = shape_of stride area

  abbrev canvas : List ℕ
  canvas = picture stride area background ks opening

  -- `top` answers by what is shown.
  pub top-shown : asked_top shape canvas s bin colour
      ≡ answered shape (length opening) s (ltb bin s.count) (top_row (shown_colour background ks) area.height s bin colour)
  unfolding asked_top
  top-shown =
      ap (λ (n : ℕ). answered shape n s (ltb bin s.count) (top_row (pixel_at stride canvas) area.height s bin colour))
      (length-picture stride area background ks opening)
      ∙ answered-alike shape (length opening) s (ltb bin s.count) _ _
      (λ f b.
      top-alike (pixel_at stride canvas) (shown_colour background ks) area.height s bin colour (fits_width s area.width f)
      (λ x y h below.
      pixel-shown stride area background ks opening wide tall x y (has-inside s area.width bin x f (ltb-true _ _ b) h) below
      (shown-four background ks ground four x y)))

  -- So it tells the topmost row of what is shown, where the setting fits and has the bin.
  pub top-tells : 1 ≤ area.width → 1 ≤ area.height → setting_fits s area.width ≡ true → bin < s.count → length colour ≡ 4
      → Tells (shown_colour background ks) shape canvas s bin colour
  top-tells some-column some-row f b four-colour =
      record {
        row = top_row (shown_colour background ks) area.height s bin colour;
        tells = top-shown
            ∙ (told-exactly shape (length opening) s (ltb bin s.count) _ _).1 (
              record {
                picture = has_all stride (length opening) area.width area.height (omega arith) (omega arith) (omega arith) wide tall;
                setting = f;
              },
              lt-ltb _ _ b,
              refl,
            );
        topmost = topmost (shown_colour background ks) s bin colour (fits_width s area.width f) four-colour area.height
            (λ x y h below. shown-four background ks ground four x y);
      }
