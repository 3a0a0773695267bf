-- Laws of lists of strokes: which stroke a pixel shows, and in what colour, when one stroke more comes or none covers it.
-- Assumes nothing.
use mathlib.Core.Path.{◌≡◌, refl, sym, ap, ◌∙◌}
use mathlib.Core.Bool.{Bool, true, false, cond, true≢false}
use mathlib.Core.Option.{Option, none, some}
use mathlib.Core.List.{List, [], ◌∷◌, ◌++◌, map}
use Prim.Native.Nat.{ℕ, zero, suc, ◌+◌, ◌-◌, ◌/◌, ◌%◌, ◌^◌, ◌≤◌, ◌<◌}
use native.Mathlib.Nat.{zero-div, not-suc-le-zero, le_of_suc-le-suc}
use native.Mathlib.Omega.{arith}
use lib.ListN.{length, get_or}
use lib.Dec.{leb}
use borrow.Author.Tests.{leb-true, le-leb, eqb-true}
use Rattle.canvas.specs.Picture.{Stroke, Area, span, bit, in_sixel, covers, or_here, last_stroke, colour_at, shown_colour, visible, inside, all_inside, grown_to, reach}
use Rattle.canvas.proofs.Covers.{and_left, and_right, and_both, no_test, by-test, span-high}
use Rattle.canvas.proofs.Growth.{visible-in}

-- ---- inside an area

pub inside-column : (area : Area) (s : Stroke) → inside area s ≡ true → s.column + s.repeat ≤ area.width
unfolding inside
inside-column area s t = leb-true _ _ (and_left _ _ t)

pub inside-row : (area : Area) (s : Stroke) → inside area s ≡ true → s.row + 6 ≤ area.height
unfolding inside
inside-row area s t = leb-true _ _ (and_right (leb (s.column + s.repeat) area.width) _ t)

pub inside-in : (area : Area) (s : Stroke) → s.column + s.repeat ≤ area.width → s.row + 6 ≤ area.height → inside area s ≡ true
unfolding inside
inside-in area s h k = and_both (le-leb _ _ h) (le-leb _ _ k)

-- a stroke in an area covers visible pixels alone
pub covers-visible : (area : Area) (s : Stroke) (x y : ℕ) → inside area s ≡ true → covers s x y ≡ true → visible area x y ≡ true
unfolding covers in_sixel
covers-visible area s x y i t =
    let columns : span s.column (s.column + s.repeat) x ≡ true = and_left _ _ t in
    let rows : span s.row (s.row + 6) y ≡ true = and_left _ _ (and_right (span s.column (s.column + s.repeat) x) _ t) in
    visible-in area x y
    (omega (arith, inside-column area s i, span-high _ _ x columns))
    (omega (arith, inside-row area s i, span-high _ _ y rows))

-- an area that has all of another's columns and rows
pub record Within (old new : Area) : Type 0 where
  pub columns : old.width ≤ new.width
  pub rows : old.height ≤ new.height

pub grown-within : (area : Area) (w h : ℕ) → Within area (grown_to area w h)
unfolding grown_to
grown-within area w h = record { columns = omega arith; rows = omega arith }

pub reach-within : (area : Area) (s : Stroke) → Within area (reach area s)
unfolding reach
reach-within area s = grown-within area _ _

pub reach-inside : (area : Area) (s : Stroke) → inside (reach area s) s ≡ true
unfolding reach grown_to
reach-inside area s = inside-in (reach area s) s (omega arith) (omega arith)

-- ---- the last stroke

pub last_more : (ss : List Stroke) (s : Stroke) (x y : ℕ)
    → last_stroke (ss ++ s ∷ []) x y ≡ cond (covers s x y) (some (length ss)) (last_stroke ss x y)
unfolding last_stroke or_here
last_more [] s x y = by-test (covers s x y) (λ t. rw t) (λ t. rw t)
last_more (a ∷ ss) s x y =
    by-test (covers s x y)
    (λ t. ap (λ (o : Option ℕ). or_here o (covers a x y)) (last_more ss s x y) ∙ rw t)
    (λ t. ap (λ (o : Option ℕ). or_here o (covers a x y)) (last_more ss s x y) ∙ rw t)

-- no stroke covers
pub last_none : (area : Area) (ss : List Stroke) (x y : ℕ) → all_inside area ss ≡ true → visible area x y ≡ false → last_stroke ss x y ≡ none
unfolding last_stroke or_here all_inside
last_none area [] x y t f = refl
last_none area (s ∷ ss) x y t f =
    let uncovered : covers s x y ≡ false = no_test _ (λ c. true≢false (sym (covers-visible area s x y (and_left _ _ t) c) ∙ f)) in
    let later : last_stroke ss x y ≡ none = last_none area ss x y (and_right (inside area s) _ t) f in
    rw (later, uncovered)

here_place : (o : Option ℕ) (t : Bool) (k n : ℕ) → ((m : ℕ) → o ≡ some m → m < k) → or_here o t ≡ some n → n < suc k
unfolding or_here
here_place (some m) t k n h e =
    let one_on : n ≡ suc m = cc in
    omega (arith, h m refl)
here_place none true k n h e =
    let first : n ≡ 0 = cc in
    omega arith
here_place none false k n h e =
    let z : ◌≡◌ {A = ℕ} 0 1 = cc in
    omega arith

-- the place is one of the list's
pub last-place : (ss : List Stroke) (x y n : ℕ) → last_stroke ss x y ≡ some n → n < length ss
unfolding last_stroke
last-place [] x y n e =
    let z : ◌≡◌ {A = ℕ} 0 1 = cc in
    omega arith
last-place (s ∷ ss) x y n e = here_place (last_stroke ss x y) (covers s x y) (length ss) n (last-place ss x y) e

-- ---- the colour shown

-- the colour of the last of a list, and of one before it
last-colour : (ss : List Stroke) (s : Stroke) (d : List ℕ) → get_or (map (λ (r : Stroke). r.colour) (ss ++ s ∷ [])) (length ss) d ≡ s.colour
last-colour [] s d = refl
last-colour (a ∷ ss) s d = last-colour ss s d

earlier-colour : (ss : List Stroke) (s : Stroke) (d : List ℕ) (n : ℕ) → n < length ss
    → get_or (map (λ (r : Stroke). r.colour) (ss ++ s ∷ [])) n d ≡ get_or (map (λ (r : Stroke). r.colour) ss) n d
earlier-colour [] s d n h = absurd (not-suc-le-zero h)
earlier-colour (a ∷ ss) s d zero h = refl
earlier-colour (a ∷ ss) s d (suc n) h = earlier-colour ss s d n (le_of_suc-le-suc h)

earlier : (background : List ℕ) (ss : List Stroke) (s : Stroke) (o : Option ℕ) → ((n : ℕ) → o ≡ some n → n < length ss)
    → colour_at background (ss ++ s ∷ []) o ≡ colour_at background ss o
unfolding colour_at
earlier background ss s none h = refl
earlier background ss s (some n) h = earlier-colour ss s background n (h n refl)

-- one stroke more shows its colour where it covers, and elsewhere what was shown
pub colour-more : (background : List ℕ) (ss : List Stroke) (s : Stroke) (x y : ℕ)
    → shown_colour background (ss ++ s ∷ []) x y ≡ cond (covers s x y) s.colour (shown_colour background ss x y)
unfolding shown_colour colour_at
colour-more background ss s x y =
    ap (colour_at background (ss ++ s ∷ [])) (last_more ss s x y)
    ∙ by-test (covers s x y)
    (λ t. rw t (last-colour ss s background))
    (λ t. rw t (earlier background ss s (last_stroke ss x y) (λ n e. last-place ss x y n e)))

-- outside an area that has each stroke in it, the background is shown
pub colour-outside : (area : Area) (background : List ℕ) (ss : List Stroke) (x y : ℕ) → all_inside area ss ≡ true → visible area x y ≡ false
    → shown_colour background ss x y ≡ background
unfolding shown_colour colour_at
colour-outside area background ss x y t f = ap (colour_at background ss) (last_none area ss x y t f)

-- ---- a blank stroke

pub blank-covers : (s : Stroke) → s.bits ≡ 0 → (x y : ℕ) → covers s x y ≡ false
unfolding covers in_sixel bit
blank-covers s e x y =
    no_test _
    (λ t.
    let in_rows = and_right (span s.column (s.column + s.repeat) x) _ t in
    let one_bit : s.bits / 2 ^ (y - s.row) % 2 ≡ 1 = eqb-true _ _ (and_right (span s.row (s.row + 6) y) _ in_rows) in
    let no-bit : s.bits / 2 ^ (y - s.row) ≡ 0 = ap (λ (b : ℕ). b / 2 ^ (y - s.row)) e ∙ zero-div _ in
    omega arith)
