-- Laws of rectangles and of growth: row by row, and the new pixels of a larger area as two rectangles.
-- Assumes nothing.
use mathlib.Core.Path.{◌≡◌, sym, ap, ◌∙◌, subst}
use mathlib.Core.Bool.{Bool, true, false, not, ◌&&◌, ◌||◌, true≢false, and-or_distrib_left}
use mathlib.Core.List.{List}
use Prim.Native.Nat.{ℕ, ◌+◌, ◌*◌, ◌/◌, ◌%◌, ◌≤◌, ◌<◌, zero-le}
use native.Mathlib.Nat.{mul-le-mul_right}
use native.Mathlib.Omega.{arith}
use lib.Dec.{eqb, ltb, leb}
use borrow.Author.Tests.{ltb-true, lt-ltb, leb-true, le-leb, eqb-true, eq-eqb, not-true}
use Rattle.canvas.specs.Picture.{Area, area_of, span, grid, visible, fits, rows_of}
use Rattle.canvas.specs.Paint.{painted, rectangle, fresh, grown}
use Rattle.canvas.proofs.Bytes.{painted-both, painted-none}
use Rattle.canvas.proofs.Covers.{and_left, and_right, and_both, same_test, no_test, split, or_left, or_right, or_case, span-low, span-high, span-in, span_more}
use Rattle.canvas.proofs.Grid.{in_row, row-span, rows-room}

-- ---- rectangles

-- a span of one row is that row
one-row : (y v : ℕ) → span y (y + 1) v ≡ eqb v y
one-row y v =
    same_test _ _
    (λ t. eq-eqb v y (omega (arith, span-low y (y + 1) v t, span-high y (y + 1) v t)))
    (λ t.
    let e : v ≡ y = eqb-true v y t in
    span-in y (y + 1) v (omega arith) (omega arith))

-- a canvas with a rectangle painted, and then its next row as a span
pub rectangle-more : (stride left right top y : ℕ) (px l : List ℕ) → right ≤ stride → top ≤ y
    → painted (span (y * stride + left) (y * stride + right)) px (painted (grid stride (rectangle left right top y)) px l)
    ≡ painted (grid stride (rectangle left right top (y + 1))) px l
unfolding grid rectangle in_row
rectangle-more stride left right top y px l h k =
    painted-both _ _ _ px l
    (λ p.
    let x : ℕ = p % stride in
    let v : ℕ = p / stride in
    ap (λ (t : Bool). span left right x && t) (span_more top y k v)
    ∙ and-or_distrib_left (span left right x) (span top y v) (span y (y + 1) v)
    ∙ ap (λ (t : Bool). span left right x && span top y v || t) (joined x v ∙ sym (row-span stride left right y h p)))
  where
    joined : (x v : ℕ) → (span left right x && span y (y + 1) v) ≡ in_row left right y x v
    joined x v = ap (λ (t : Bool). span left right x && t) (one-row y v)

pub rectangle-columns : (left right top bottom x y : ℕ) → rectangle left right top bottom x y ≡ true → span left right x ≡ true
unfolding rectangle
rectangle-columns left right top bottom x y t = and_left _ _ t

pub rectangle-rows : (left right top bottom x y : ℕ) → rectangle left right top bottom x y ≡ true → span top bottom y ≡ true
unfolding rectangle
rectangle-rows left right top bottom x y t = and_right (span left right x) _ t

pub rectangle-in : (left right top bottom x y : ℕ) → left ≤ x → x < right → top ≤ y → y < bottom
    → rectangle left right top bottom x y ≡ true
unfolding rectangle
rectangle-in left right top bottom x y a b c d = and_both (span-in left right x a b) (span-in top bottom y c d)

-- a rectangle with no column or no row
pub rectangle-none : (stride left right top bottom : ℕ) (px l : List ℕ) → ((x y : ℕ) → left ≤ x → x < right → top ≤ y → y < bottom → ⊥)
    → l ≡ painted (grid stride (rectangle left right top bottom)) px l
unfolding grid
rectangle-none stride left right top bottom px l none =
    sym (painted-none _ px l
    (λ p.
    no_test _
    (λ t.
    let columns = rectangle-columns left right top bottom (p % stride) (p / stride) t in
    let rows = rectangle-rows left right top bottom (p % stride) (p / stride) t in
    none (p % stride) (p / stride)
    (span-low left right _ columns) (span-high left right _ columns)
    (span-low top bottom _ rows) (span-high top bottom _ rows))))

-- ---- a rectangle's rows, one after the other

module _ (stride left right top : ℕ) (px l : List ℕ) where
  -- no columns
  pub rectangle-narrow : (bottom : ℕ) → left ≡ right → l ≡ painted (grid stride (rectangle left right top bottom)) px l
  rectangle-narrow bottom e = rectangle-none stride left right top bottom px l (λ x y a b c d. omega arith)

  -- no rows yet
  pub rectangle-first : l ≡ painted (grid stride (rectangle left right top top)) px l
  rectangle-first = rectangle-none stride left right top top px l (λ x y a b c d. omega arith)

  -- one row more
  pub rectangle-next : {before after : List ℕ} (y : ℕ) → right ≤ stride → top ≤ y
      → before ≡ painted (grid stride (rectangle left right top y)) px l
      → after ≡ painted (span (y * stride + left) (y * stride + right)) px before
      → after ≡ painted (grid stride (rectangle left right top (y + 1))) px l
  rectangle-next y h k e f =
      f ∙ ap (painted (span (y * stride + left) (y * stride + right)) px) e ∙ rectangle-more stride left right top y px l h k

  -- all of them
  pub rectangle-last : {after : List ℕ} (y bottom : ℕ) → y ≤ bottom → bottom ≤ y
      → after ≡ painted (grid stride (rectangle left right top y)) px l
      → after ≡ painted (grid stride (rectangle left right top bottom)) px l
  rectangle-last y bottom h k e =
      let same : y ≡ bottom = omega arith in
      e ∙ ap (λ (n : ℕ). painted (grid stride (rectangle left right top n)) px l) same

pub ruleset rectangle-turns = (rectangle-narrow, rectangle-first, rectangle-next, rectangle-last)

-- a canvas as long has as many rows
pub rows-kept : {n m : ℕ} (stride height : ℕ) → n ≡ m → height ≤ rows_of m stride → height ≤ rows_of n stride
rows-kept stride height e h = subst (λ (k : ℕ). height ≤ rows_of k stride) (sym e) h

-- a row of a rectangle lies on the canvas
pub rectangle-room : (n stride right bottom y : ℕ) → right ≤ stride → bottom ≤ rows_of n stride → y < bottom → 4 * (y * stride + right) ≤ n
rectangle-room n stride right bottom y h r l =
    let one_more : y + 1 ≤ bottom = omega arith in
    omega (arith, mul-le-mul_right stride one_more, rows-room n stride bottom r)

-- ---- areas

pub fits-columns : (stride n : ℕ) (area : Area) → fits stride n area ≡ true → area.width ≤ stride
unfolding fits
fits-columns stride n area t = leb-true _ _ (and_left _ _ t)

pub fits-rows : (stride n : ℕ) (area : Area) → fits stride n area ≡ true → area.height ≤ rows_of n stride
unfolding fits
fits-rows stride n area t = leb-true _ _ (and_right (leb area.width stride) _ t)

pub fits_in : (stride n : ℕ) (area : Area) → area.width ≤ stride → area.height ≤ rows_of n stride → fits stride n area ≡ true
unfolding fits
fits_in stride n area h k = and_both (le-leb _ _ h) (le-leb _ _ k)

pub visible-column : (area : Area) (x y : ℕ) → visible area x y ≡ true → x < area.width
unfolding visible
visible-column area x y t = ltb-true x area.width (and_left _ _ t)

pub visible-row : (area : Area) (x y : ℕ) → visible area x y ≡ true → y < area.height
unfolding visible
visible-row area x y t = ltb-true y area.height (and_right (ltb x area.width) _ t)

pub visible-in : (area : Area) (x y : ℕ) → x < area.width → y < area.height → visible area x y ≡ true
unfolding visible
visible-in area x y h k = and_both (lt-ltb x area.width h) (lt-ltb y area.height k)

pub fresh_in : (old new : Area) (x y : ℕ) → visible new x y ≡ true → visible old x y ≡ false → fresh old new x y ≡ true
unfolding fresh
fresh_in old new x y t f = and_both t (ap not f)

pub fresh-new : (old new : Area) (x y : ℕ) → fresh old new x y ≡ true → visible new x y ≡ true
unfolding fresh
fresh-new old new x y t = and_left _ _ t

pub fresh-old : (old new : Area) (x y : ℕ) → fresh old new x y ≡ true → visible old x y ≡ false
unfolding fresh
fresh-old old new x y t = not-true (visible old x y) (and_right (visible new x y) _ t)

-- the new pixels stand right of the old rows, and in the new rows
pub fresh-parts : (w h w' h' : ℕ) → w ≤ w' → h ≤ h' → (x y : ℕ)
    → fresh (area_of w h) (area_of w' h') x y ≡ (rectangle w w' 0 h x y || rectangle 0 w' h h' x y)
fresh-parts w h w' h' p q x y =
    same_test _ _
    (λ t.
    let new = fresh-new (area_of w h) (area_of w' h') x y t in
    let r : x < w' = visible-column (area_of w' h') x y new in
    let b : y < h' = visible-row (area_of w' h') x y new in
    split y h
    (λ above.
    split x w
    (λ left. absurd (true≢false (sym (visible-in (area_of w h) x y left above) ∙ fresh-old (area_of w h) (area_of w' h') x y t)))
    (λ right. or_left (rectangle w w' 0 h x y) _ (rectangle-in w w' 0 h x y right r zero-le above)))
    (λ under. or_right (rectangle w w' 0 h x y) _ (rectangle-in 0 w' h h' x y zero-le r under b)))
    (λ t.
    or_case (rectangle w w' 0 h x y) (rectangle 0 w' h h' x y) t
    (λ s.
    let columns = rectangle-columns w w' 0 h x y s in
    let rows = rectangle-rows w w' 0 h x y s in
    fresh_in (area_of w h) (area_of w' h') x y
    (visible-in (area_of w' h') x y (span-high w w' x columns) (omega (arith, span-high 0 h y rows)))
    (no_test _ (λ v. omega (arith, span-low w w' x columns, visible-column (area_of w h) x y v))))
    (λ s.
    let columns = rectangle-columns 0 w' h h' x y s in
    let rows = rectangle-rows 0 w' h h' x y s in
    fresh_in (area_of w h) (area_of w' h') x y
    (visible-in (area_of w' h') x y (span-high 0 w' x columns) (span-high h h' y rows))
    (no_test _ (λ v. omega (arith, span-low h h' y rows, visible-row (area_of w h) x y v)))))

-- what is painted on one and then on the other is grown
pub grown-parts : {first second : List ℕ} (stride w h w' h' : ℕ) (px l : List ℕ) → w ≤ w' → h ≤ h'
    → first ≡ painted (grid stride (rectangle w w' 0 h)) px l
    → second ≡ painted (grid stride (rectangle 0 w' h h')) px first
    → second ≡ grown stride (area_of w h) (area_of w' h') px l
unfolding grown grid
grown-parts stride w h w' h' px l p q e f =
    f
    ∙ ap (painted (grid stride (rectangle 0 w' h h')) px) e
    ∙ painted-both _ _ _ px l (λ n. fresh-parts w h w' h' p q (n % stride) (n / stride))
