-- What `top` tells is the topmost row: one of the bin's columns holds the colour there, and in no row above it.
-- Assumes nothing.
use mathlib.Core.Path.{◌≡◌, refl, sym, ◌∙◌}
use mathlib.Core.Bool.{Bool, true, false, true≢false}
use mathlib.Core.List.{List}
use mathlib.Core.Option.{Option}
use Prim.Native.Nat.{ℕ, ◌≤◌, ◌<◌, zero-le}
use native.Mathlib.Omega.{arith}
use lib.Dec.{ltb}
use lib.ListN.{length}
use borrow.Author.Tests.{lt-ltb}
use Rattle.canvas.specs.Picture.{rows_of}
use Rattle.canvas.proofs.Copies.{has-columns, has-rows}
use Rattle.canvas.proofs.Covers.{no_test}
use Rattle.canvas.proofs.Growth.{rectangle-room}
use Rattle.bins.specs.declared.Shape.{Shape}
use Rattle.bins.specs.declared.Setting.{Setting}
use Rattle.bins.specs.Bins.{first_column, row_has, top_row, pixel_at, asked_top}
use Rattle.bins.specs.Facts.{Accepted, Has, FourEach, Holds, Topmost, Tells}
use Rattle.bins.proofs.Answers.{fits_width, told-exactly}
use Rattle.bins.proofs.Inverses.{has_in, has-below, has-inside}
use Rattle.bins.proofs.Pixels.{pixel-length, same-exactly}
use Rattle.bins.proofs.Searches.{First, first-is, first-none, first_found, none_found, first_alike, Found, row_has_lem, row-found, row-alike}

module _ (shows : ℕ → ℕ → List ℕ) (s : Setting) (bin : ℕ) (colour : List ℕ) (wide : 1 ≤ s.width) (four-colour : length colour ≡ 4) where
  abbrev test : ℕ → Bool
  test y = row_has (λ x. shows x y) (first_column s bin) s.width colour

  module _ (y : ℕ) (four : (x : ℕ) → Has s bin x → length (shows x y) ≡ 4) where
    -- a row is found exactly when the bin holds the colour in it
    holds-found : Holds shows s bin colour y → test y ≡ true
    holds-found h =
        row_has_lem (λ x. shows x y) colour (first_column s bin) s.width h.column h.has.first (has-below s h.column wide bin h.has)
        ((same-exactly (shows h.column y) colour (four h.column h.has) four-colour).1 h.shown)

    found-holds : test y ≡ true → Holds shows s bin colour y
    found-holds t =
        let f : Found (λ x. shows x y) colour (first_column s bin) s.width = row-found (λ x. shows x y) colour (first_column s bin) s.width t in
        let has : Has s bin f.column = has_in s f.column wide bin f.low f.high in
        record { column = f.column; has = has; shown = (same-exactly (shows f.column y) colour (four f.column has) four-colour).0 f.here }

    holds_not : (¬ Holds shows s bin colour y) → test y ≡ false
    holds_not never = no_test (test y) (λ t. never (found-holds t))

    not-holds : test y ≡ false → ¬ Holds shows s bin colour y
    not-holds t h = true≢false (sym (holds-found h) ∙ t)

  -- What `top_row` gives is the topmost row, or there is none.
  pub topmost : (height : ℕ) → FourEach shows height s bin → Topmost shows height s bin colour (top_row shows height s bin colour)
  unfolding top_row
  topmost height four =
      record {
        row = λ y. (
          λ e.
              let f : First test 0 height y = first_found test 0 height y e in
              let below : y < height = omega (arith, f.high) in (
                below,
                found-holds y (λ x h. four x y h below) f.here,
                λ above less. not-holds above (λ x h. four x above h (omega arith)) (f.before above zero-le less),
              ),
          λ h.
              first-is test 0 height y zero-le (omega (arith, h.0)) (holds-found y (λ x k. four x y k h.0) h.1)
              (λ above low less. holds_not above (λ x k. four x above k (omega (arith, h.0))) (h.2 above less)),
        );
        nowhere = (
          λ e y below. not-holds y (λ x h. four x y h below) (none_found test 0 height e y zero-le (omega arith)),
          λ never. first-none test 0 height (λ y low below. let less : y < height = omega arith in holds_not y (λ x h. four x y h less) (never y less)),
        );
      }

-- Two pictures that agree on the bin's columns in so many rows have the same topmost row.
pub top-alike : (f g : ℕ → ℕ → List ℕ) (height : ℕ) (s : Setting) (bin : ℕ) (colour : List ℕ) (wide : 1 ≤ s.width)
    → ((x y : ℕ) → Has s bin x → y < height → f x y ≡ g x y) → top_row f height s bin colour ≡ top_row g height s bin colour
unfolding top_row
top-alike f g height s bin colour wide e =
    first_alike _ _ 0 height
    (λ y low below.
    row-alike (λ x. f x y) (λ x. g x y) colour (first_column s bin) s.width
    (λ x l h. e x y (has_in s x wide bin l h) (omega arith)))

-- `top` tells the topmost row of the canvas's own pixels, where nothing refuses the question and the setting has the bin.
pub top-topmost : (p : Shape) (canvas : List ℕ) (s : Setting) (bin : ℕ) (colour : List ℕ) → Accepted p (length canvas) s → bin < s.count
    → length colour ≡ 4 → Tells (pixel_at p.stride canvas) p canvas s bin colour
unfolding asked_top pixel_at
top-topmost p canvas s bin colour h less four =
    let wide : 1 ≤ s.width = fits_width s p.width h.setting in
    let columns : p.width ≤ p.stride = has-columns p.stride (length canvas) p.width p.height h.picture in
    let rows : p.height ≤ rows_of (length canvas) p.stride = has-rows p.stride (length canvas) p.width p.height h.picture in
    let row : Option ℕ = top_row (pixel_at p.stride canvas) p.height s bin colour in
    record {
      row = row;
      tells = (told-exactly p (length canvas) s (ltb bin s.count) row row).1 (h, lt-ltb _ _ less, refl);
      topmost = topmost (pixel_at p.stride canvas) s bin colour wide four p.height
          (λ x y has below.
          let column : x < p.width = has-inside s p.width bin x h.setting less has in
          let room = rectangle-room (length canvas) p.stride p.width p.height y columns rows below in
          pixel-length canvas _ (omega (arith, room)));
    }
