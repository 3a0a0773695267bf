-- Laws of rows on a canvas: a span of pixels within one row, and a sixel row by row.
-- Assumes nothing.
use mathlib.Core.Path.{◌≡◌, sym, ap, ◌∙◌}
use mathlib.Core.Bool.{Bool, true, ◌&&◌, ◌||◌}
use mathlib.Core.List.{List}
use Prim.Native.Nat.{ℕ, ◌+◌, ◌-◌, ◌*◌, ◌/◌, ◌%◌, ◌^◌, ◌≤◌, ◌<◌}
use native.Mathlib.Nat.{add_assoc, div-le_self, div-mul-le_self, mul-le-mul_right, div-div-eq-div-mul, pow-suc, div-add-mod', div-one}
use native.Mathlib.Numerals.{add-one}
use native.Mathlib.Omega.{arith}
use lib.Arith.{digits_div, digits_mod}
use lib.Dec.{eqb}
use borrow.Author.Tests.{eqb-true, eq-eqb}
use Rattle.canvas.specs.Picture.{span, grid, bit, in_sixel, rows_of}
use Rattle.canvas.specs.Paint.{painted, sixel_painted}
use Rattle.canvas.proofs.Bytes.{painted-both, painted-none, painted_same}
use Rattle.canvas.proofs.Covers.{and_left, and_right, and_both, same_test, no_test, split, or_left, or_right, or_case, span-low, span-high, span-in}

-- whole rows lie on the canvas
pub rows-room : (n stride r : ℕ) → r ≤ rows_of n stride → 4 * (r * stride) ≤ n
unfolding rows_of
rows-room n stride r h = omega (arith, mul-le-mul_right stride h, div-mul-le_self (n / 4) stride)

-- ---- a span within row y

-- a cover within the row y alone
unfoldable pub in_row : ℕ → ℕ → ℕ → ℕ → ℕ → Bool
in_row left right y x v = span left right x && eqb v y

module _ (stride y p : ℕ) (low : y * stride ≤ p) (high : p < y * stride + stride) where
  apart : p ≡ y * stride + (p - y * stride)
  apart = omega arith

  below : p - y * stride < stride
  below = omega arith

  row_of : p / stride ≡ y
  row_of = ap (λ (n : ℕ). n / stride) apart ∙ digits_div y below

  column-of : p % stride ≡ p - y * stride
  column-of = ap (λ (n : ℕ). n % stride) apart ∙ digits_mod y below

pub row-span : (stride left right y : ℕ) → right ≤ stride → (p : ℕ)
    → span (y * stride + left) (y * stride + right) p ≡ grid stride (in_row left right y) p
unfolding grid in_row
row-span stride left right y h p =
    same_test _ _
    (λ t.
    let l : y * stride + left ≤ p = span-low _ _ p t in
    let u : p < y * stride + right = span-high (y * stride + left) _ p t in
    let l' : y * stride ≤ p = omega arith in
    let u' : p < y * stride + stride = omega arith in
    let x : p % stride ≡ p - y * stride = column-of stride y p l' u' in
    and_both (span-in left right (p % stride) (omega arith) (omega arith)) (eq-eqb (p / stride) y (row_of stride y p l' u')))
    (λ t.
    let s : span left right (p % stride) ≡ true = and_left _ _ t in
    let v : p / stride ≡ y = eqb-true _ _ (and_right (span left right (p % stride)) _ t) in
    let at : y * stride + p % stride ≡ p = ap (λ (n : ℕ). n * stride + p % stride) (sym v) ∙ div-add-mod' p stride in
    span-in (y * stride + left) (y * stride + right) p (omega (arith, span-low _ _ _ s)) (omega (arith, span-high left _ _ s)))

-- ---- a sixel's first k rows

-- the pixels of a sixel in its first k rows
unfoldable pub first_rows : ℕ → ℕ → ℕ → ℕ → ℕ → ℕ → ℕ → Bool
first_rows k column row repeat bits x y = span column (column + repeat) x && (span row (row + k) y && bit bits (y - row))

module _ (k column row repeat bits x y : ℕ) where
  first-in : span column (column + repeat) x ≡ true → row ≤ y → y < row + k → bit bits (y - row) ≡ true
      → first_rows k column row repeat bits x y ≡ true
  unfolding first_rows
  first-in s l h b = and_both s (and_both (span-in row (row + k) y l h) b)

  module _ (t : first_rows k column row repeat bits x y ≡ true) where
    first-columns : span column (column + repeat) x ≡ true
    unfolding first_rows
    first-columns = and_left _ _ t

    first_rest : (span row (row + k) y && bit bits (y - row)) ≡ true
    unfolding first_rows
    first_rest = and_right (span column (column + repeat) x) _ t

    first-low : row ≤ y
    first-low = span-low row (row + k) y (and_left _ _ first_rest)

    first-high : y < row + k
    first-high = span-high row (row + k) y (and_left _ _ first_rest)

    first_bit : bit bits (y - row) ≡ true
    first_bit = and_right (span row (row + k) y) _ first_rest

-- a row more keeps what there is
first_more : (k column row repeat bits x y : ℕ) → first_rows k column row repeat bits x y ≡ true
    → first_rows (k + 1) column row repeat bits x y ≡ true
first_more k column row repeat bits x y t =
    first-in (k + 1) column row repeat bits x y
    (first-columns k column row repeat bits x y t)
    (first-low k column row repeat bits x y t)
    (omega (arith, first-high k column row repeat bits x y t))
    (first_bit k column row repeat bits x y t)

-- the bit of the row at k
bit_at : (bits row k y : ℕ) → y ≡ row + k → bit bits (y - row) ≡ eqb (bits / 2 ^ k % 2) 1
unfolding bit
bit_at bits row k y at =
    let k-th : y - row ≡ k = omega arith in
    ap (λ (n : ℕ). eqb (bits / 2 ^ n % 2) 1) k-th

module _ (k column row repeat bits x y : ℕ) where
  -- where bit k is 1, one row more is the sixel's columns in that row more
  rows_more : bits / 2 ^ k % 2 ≡ 1
      → first_rows (k + 1) column row repeat bits x y
      ≡ (first_rows k column row repeat bits x y || in_row column (column + repeat) (row + k) x y)
  unfolding in_row
  rows_more on =
      same_test _ _
      (λ t.
      let s : span column (column + repeat) x ≡ true = first-columns (k + 1) column row repeat bits x y t in
      let l : row ≤ y = first-low (k + 1) column row repeat bits x y t in
      let h : y < row + (k + 1) = first-high (k + 1) column row repeat bits x y t in
      split y (row + k)
      (λ above. or_left _ _ (first-in k column row repeat bits x y s l above (first_bit (k + 1) column row repeat bits x y t)))
      (λ below. or_right (first_rows k column row repeat bits x y) _ (and_both s (eq-eqb y (row + k) (omega arith)))))
      (λ t.
      or_case (first_rows k column row repeat bits x y) _ t
      (first_more k column row repeat bits x y)
      (λ r.
      let at : y ≡ row + k = eqb-true y (row + k) (and_right (span column (column + repeat) x) _ r) in
      first-in (k + 1) column row repeat bits x y (and_left _ _ r) (omega arith) (omega arith) (bit_at bits row k y at ∙ eq-eqb _ 1 on)))

  -- where it is not, no pixel is added
  rows-skip : (bits / 2 ^ k % 2 ≡ 1 → ⊥) → first_rows (k + 1) column row repeat bits x y ≡ first_rows k column row repeat bits x y
  rows-skip off =
      same_test _ _
      (λ t.
      let l : row ≤ y = first-low (k + 1) column row repeat bits x y t in
      let h : y < row + (k + 1) = first-high (k + 1) column row repeat bits x y t in
      let b : bit bits (y - row) ≡ true = first_bit (k + 1) column row repeat bits x y t in
      split y (row + k)
      (λ above. first-in k column row repeat bits x y (first-columns (k + 1) column row repeat bits x y t) l above b)
      (λ below. absurd (off (eqb-true _ 1 (sym (bit_at bits row k y (omega arith)) ∙ b)))))
      (first_more k column row repeat bits x y)

-- the bits that are left after one row more
pub rest_more : (bits k : ℕ) → bits / 2 ^ k / 2 ≡ bits / 2 ^ (k + 1)
rest_more bits k = div-div-eq-div-mul bits (2 ^ k) 2 ∙ ap (λ (m : ℕ). bits / m) (sym (ap (λ (n : ℕ). 2 ^ n) (add-one k) ∙ pow-suc 2 k))

-- a canvas with a sixel's first k rows painted: the next as a span, where its bit is 1
pub sixel-more : (stride column row repeat bits rest k : ℕ) (px l : List ℕ) → rest ≡ bits / 2 ^ k → rest % 2 ≡ 1 → column + repeat ≤ stride
    → painted (span ((row + k) * stride + column) ((row + k) * stride + column + repeat)) px
    (painted (grid stride (first_rows k column row repeat bits)) px l)
    ≡ painted (grid stride (first_rows (k + 1) column row repeat bits)) px l
unfolding grid
sixel-more stride column row repeat bits rest k px l e on h =
    painted-both _ _ _ px l
    (λ p.
    rows_more k column row repeat bits (p % stride) (p / stride) (ap (λ (n : ℕ). n % 2) (sym e) ∙ on)
    ∙ ap (λ (t : Bool). first_rows k column row repeat bits (p % stride) (p / stride) || t)
    (sym (row-span stride column (column + repeat) (row + k) h p)
    ∙ ap (λ (n : ℕ). span ((row + k) * stride + column) n p) (sym (add_assoc ((row + k) * stride) column repeat))))

-- and nothing more, where it is not
pub sixel-skip : (stride column row repeat bits rest k : ℕ) (px l : List ℕ) → rest ≡ bits / 2 ^ k → (rest % 2 ≡ 1 → ⊥)
    → painted (grid stride (first_rows k column row repeat bits)) px l
    ≡ painted (grid stride (first_rows (k + 1) column row repeat bits)) px l
unfolding grid
sixel-skip stride column row repeat bits rest k px l e off =
    painted_same _ _ px l
    (λ p. sym (rows-skip k column row repeat bits (p % stride) (p / stride) (λ on. off (ap (λ (n : ℕ). n % 2) e ∙ on))))

-- no rows
pub sixel-none : (stride column row repeat bits : ℕ) (px l : List ℕ) → l ≡ painted (grid stride (first_rows 0 column row repeat bits)) px l
unfolding grid
sixel-none stride column row repeat bits px l =
    sym (painted-none _ px l
    (λ p.
    no_test _
    (λ t.
    let low = first-low 0 column row repeat bits (p % stride) (p / stride) t in
    let high = first-high 0 column row repeat bits (p % stride) (p / stride) t in
    omega (arith, low, high))))

-- ---- a sixel's rows, one after the other

module _ (stride column row repeat bits : ℕ) (px l : List ℕ) where
  -- one row more, painted
  pub sixel-on : {before after : List ℕ} (rest k : ℕ) → rest ≡ bits / 2 ^ k → rest % 2 ≡ 1 → column + repeat ≤ stride
      → before ≡ painted (grid stride (first_rows k column row repeat bits)) px l
      → after ≡ painted (span ((row + k) * stride + column) ((row + k) * stride + column + repeat)) px before
      → after ≡ painted (grid stride (first_rows (k + 1) column row repeat bits)) px l
  sixel-on rest k r on h e f =
      f
      ∙ ap (painted (span ((row + k) * stride + column) ((row + k) * stride + column + repeat)) px) e
      ∙ sixel-more stride column row repeat bits rest k px l r on h

  -- one row more, left as it is
  pub sixel-off : {before : List ℕ} (rest k : ℕ) → rest ≡ bits / 2 ^ k → (rest % 2 ≡ 1 → ⊥)
      → before ≡ painted (grid stride (first_rows k column row repeat bits)) px l
      → before ≡ painted (grid stride (first_rows (k + 1) column row repeat bits)) px l
  sixel-off rest k r off e = e ∙ sixel-skip stride column row repeat bits rest k px l r off

  -- all six of them
  pub sixel-last : {after : List ℕ} (k : ℕ) → k ≤ 6 → 6 ≤ k
      → after ≡ painted (grid stride (first_rows k column row repeat bits)) px l
      → after ≡ sixel_painted stride column row repeat bits px l
  unfolding sixel_painted in_sixel first_rows
  sixel-last k h g e =
      let same : k ≡ 6 = omega arith in
      e ∙ ap (λ (n : ℕ). painted (grid stride (first_rows n column row repeat bits)) px l) same

-- the bits that are left: all at first, and half of them after a row
pub rest-first : (bits : ℕ) → bits ≡ bits / 2 ^ 0
rest-first bits = sym (div-one bits)

pub rest-next : (bits rest k : ℕ) → rest ≡ bits / 2 ^ k → rest / 2 ≡ bits / 2 ^ (k + 1)
rest-next bits rest k e = ap (λ (n : ℕ). n / 2) e ∙ rest_more bits k

pub ruleset sixel-turns = (sixel-none, sixel-on, sixel-off, sixel-last, rest-first, rest-next)

-- the sixel's columns in one of its rows lie on the canvas
pub sixel-room : (n stride column row repeat k : ℕ) → column + repeat ≤ stride → row + 6 ≤ rows_of n stride → k < 6
    → 4 * ((row + k) * stride + column + repeat) ≤ n
sixel-room n stride column row repeat k h r l =
    let one_more : (row + k) + 1 ≤ row + 6 = omega arith in
    omega (arith, mul-le-mul_right stride one_more, rows-room n stride (row + 6) r)

-- there are no more rows than bytes
pub rows_few : (n stride : ℕ) → rows_of n stride ≤ n
unfolding rows_of
rows_few n stride = omega (arith, div-le_self (n / 4) stride)
