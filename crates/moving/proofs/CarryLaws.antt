-- Laws of carrying: a picture's rows one after the other, byte by byte, and what a carried picture shows.
use Rattle.std.specs.Prelude.{◌≡◌, ℕ, zero, suc, ◌+◌, ◌-◌, ◌*◌, ◌/◌, ◌%◌, ◌<◌, ◌≤◌, Bool, true, false, cond, not, ◌&&◌, List, ◌++◌, length, get_or, take, drop}
use native.Mathlib.Nat.{zero-add, div-add-mod'}
use native.Mathlib.Numerals.{add-one}
use native.Mathlib.Omega.{arith}
use mathlib.Core.Bool.{true≢false}
use mathlib.Core.Path.{sym, ap, ap₂, ◌∙◌}
use borrow.Author.Tests.{eqb-true, eq-eqb, not-true, not-false}
use lib.ListN.{length-drop, get_or-append}
use lib.Seq.{ext_get_or, paste, length-paste, length_paste_head, length-take-le, get_or-take, get_or-drop, get_or-append-add}
use Rattle.numbers.proofs.Laws.{cond_yes, cond_no}
use Rattle.canvas.specs.Copy.{has_picture, rows_copied}
use Rattle.canvas.specs.Picture.{Area, area_of, grid, span, visible}
use Rattle.canvas.proofs.Bytes.{length-replaced, get_or-replaced}
use Rattle.canvas.proofs.Covers.{and_left, and_right, and_both, same_test, by-test, no_test, split, span-high, span-in}
use Rattle.canvas.proofs.Copies.{has-columns, has-rows}
use Rattle.canvas.proofs.Grid.{in_row, row-span, rows-room}
use Rattle.canvas.proofs.Growth.{visible-column, visible-row, visible-in}
use Rattle.moving.specs.Carry.{pixel_byte, carried, carried_to}

-- ---- byte by byte

pub length-carried : (stride stride' : ℕ) (area : Area) (canvas other : List ℕ)
    → length (carried stride stride' area canvas other) ≡ length other
unfolding carried
length-carried stride stride' area canvas other = length-replaced 0 _ other

-- byte k of the other canvas
pub carried-byte : (stride stride' : ℕ) (area : Area) (canvas other : List ℕ) (k : ℕ) → k < length other
    → get_or (carried stride stride' area canvas other) k 0
    ≡ cond (grid stride' (visible area) (k / 4)) (grid stride' (pixel_byte stride canvas k) (k / 4)) (get_or other k 0)
unfolding carried
carried-byte stride stride' area canvas other k h =
    get_or-replaced 0 _ other k h
    ∙ ap (λ (n : ℕ). cond (grid stride' (visible area) (n / 4)) (grid stride' (pixel_byte stride canvas n) (n / 4)) (get_or other k 0)) (zero-add k)

-- ---- a paste, byte by byte

module _ (d : List ℕ) (at : ℕ) (s : List ℕ) (n k : ℕ) (hd : at + n ≤ length d) (hs : n ≤ length s) where
  abbrev head : List ℕ
  head = take at d ++ take n s

  long-head : length head ≡ at + n
  long-head = length_paste_head d at s n (omega arith) hs

  long-take : length (take at d) ≡ at
  long-take = length-take-le at d (omega arith)

  -- before the pasted part
  paste-before : k < at → get_or (paste d at s n) k 0 ≡ get_or d k 0
  paste-before h =
      get_or-append head (drop (at + n) d) 0 k (omega (arith, long-head))
      ∙ get_or-append (take at d) (take n s) 0 k (omega (arith, long-take))
      ∙ get_or-take at d k 0 h

  -- in it
  paste-in : at ≤ k → k < at + n → get_or (paste d at s n) k 0 ≡ get_or s (k - at) 0
  paste-in low high =
      let place : k ≡ length (take at d) + (k - at) = omega (arith, long-take) in
      get_or-append head (drop (at + n) d) 0 k (omega (arith, long-head))
      ∙ ap (λ (i : ℕ). get_or head i 0) place
      ∙ get_or-append-add (take at d) (take n s) (k - at) 0
      ∙ get_or-take n s (k - at) 0 (omega arith)

  -- behind it
  paste-behind : at + n ≤ k → get_or (paste d at s n) k 0 ≡ get_or d k 0
  paste-behind h =
      let place : k ≡ length head + (k - (at + n)) = omega (arith, long-head) in
      let back : at + n + (k - (at + n)) ≡ k = omega arith in
      ap (λ (i : ℕ). get_or (head ++ drop (at + n) d) i 0) place
      ∙ get_or-append-add head (drop (at + n) d) (k - (at + n)) 0
      ∙ get_or-drop (at + n) d (k - (at + n)) 0
      ∙ ap (λ (i : ℕ). get_or d i 0) back

-- ---- a picture's rows, one after the other

module _ (stride stride' width y : ℕ) (canvas other : List ℕ) (columns : width ≤ stride) (columns' : width ≤ stride')
    (there : 4 * (y * stride + width) ≤ length canvas) (here : 4 * (y * stride' + width) ≤ length other) where
  -- the rows before, the next row's first byte, and that row on the canvas
  abbrev before : List ℕ
  before = carried stride stride' (area_of width y) canvas other

  abbrev at : ℕ
  at = 4 * (y * stride')

  abbrev row : List ℕ
  row = drop (4 * (y * stride)) canvas

  long : length before ≡ length other
  long = length-carried stride stride' (area_of width y) canvas other

  long-row : length row ≡ length canvas - 4 * (y * stride)
  long-row = length-drop (4 * (y * stride)) canvas

  abbrev RowByte : ℕ → Type 0
  RowByte k =
      get_or (paste before at row (4 * width)) k 0
      ≡ cond (grid stride' (visible (area_of width (y + 1))) (k / 4)) (grid stride' (pixel_byte stride canvas k) (k / 4)) (get_or other k 0)

  -- a byte of the row
  row_in : (k : ℕ) → k < length other → in_row 0 width y (k / 4 % stride') (k / 4 / stride') ≡ true → RowByte k
  unfolding grid in_row pixel_byte
  row_in k h t =
      let p : ℕ = k / 4 in
      let left : p % stride' < width = span-high 0 width (p % stride') (and_left _ _ t) in
      let down : p / stride' ≡ y = eqb-true _ _ (and_right (span 0 width (p % stride')) _ t) in
      let apart : y * stride' + p % stride' ≡ p = ap (λ (n : ℕ). n * stride' + p % stride') (sym down) ∙ div-add-mod' p stride' in
      let seen : visible (area_of width (y + 1)) (p % stride') (p / stride') ≡ true =
      visible-in (area_of width (y + 1)) (p % stride') (p / stride') left (omega arith) in
      let same : 4 * (y * stride) + (k - at) ≡ 4 * (y * stride + p % stride') + k % 4 = omega arith in
      paste-in before at row (4 * width) k (omega (arith, long)) (omega (arith, long-row)) (omega arith) (omega arith)
      ∙ get_or-drop (4 * (y * stride)) canvas (k - at) 0
      ∙ ap (λ (i : ℕ). get_or canvas i 0) same
      ∙ ap (λ (v : ℕ). get_or canvas (4 * (v * stride + p % stride') + k % 4) 0) (sym down)
      ∙ sym (cond_yes _ _ seen)

  -- a byte of no pixel of the row stays
  row_kept : (k : ℕ) → in_row 0 width y (k / 4 % stride') (k / 4 / stride') ≡ false → get_or (paste before at row (4 * width)) k 0 ≡ get_or before k 0
  unfolding grid
  row_kept k f =
      let p : ℕ = k / 4 in
      let outside : span (y * stride' + 0) (y * stride' + width) p ≡ false = row-span stride' 0 width y columns' p ∙ f in
      split k at
      (λ low. paste-before before at row (4 * width) k (omega (arith, long)) (omega (arith, long-row)) low)
      (λ low. split k (at + 4 * width)
      (λ high.
      absurd
      (true≢false (sym (span-in (y * stride' + 0) (y * stride' + width) p (omega arith) (omega arith)) ∙ outside)))
      (λ high. paste-behind before at row (4 * width) k (omega (arith, long)) (omega (arith, long-row)) high))

  -- and is shown or not as before
  row_apart : (x v : ℕ) → in_row 0 width y x v ≡ false → visible (area_of width y) x v ≡ visible (area_of width (y + 1)) x v
  unfolding in_row
  row_apart x v f =
      same_test _ _
      (λ t.
      visible-in (area_of width (y + 1)) x v (visible-column (area_of width y) x v t) (omega (arith, visible-row (area_of width y) x v t)))
      (λ t.
      let left : x < width = visible-column (area_of width (y + 1)) x v t in
      let above : v < y + 1 = visible-row (area_of width (y + 1)) x v t in
      split v y
      (λ higher. visible-in (area_of width y) x v left higher)
      (λ lower.
      absurd
      (true≢false (sym (and_both (span-in 0 width x (omega arith) left) (eq-eqb v y (omega arith))) ∙ f))))

  row_out : (k : ℕ) → k < length other → in_row 0 width y (k / 4 % stride') (k / 4 / stride') ≡ false → RowByte k
  unfolding grid
  row_out k h f =
      row_kept k f
      ∙ carried-byte stride stride' (area_of width y) canvas other k h
      ∙ ap (λ (t : Bool). cond t (grid stride' (pixel_byte stride canvas k) (k / 4)) (get_or other k 0))
      (row_apart (k / 4 % stride') (k / 4 / stride') f)

  -- one row more
  pub carried_row : paste before at row (4 * width) ≡ carried stride stride' (area_of width (y + 1)) canvas other
  carried_row =
      let same : length (paste before at row (4 * width)) ≡ length other =
      length-paste before at row (4 * width) (omega (arith, long)) (omega (arith, long-row)) ∙ long in
      ext_get_or 0 (paste before at row (4 * width)) (carried stride stride' (area_of width (y + 1)) canvas other)
      (same ∙ sym (length-carried stride stride' (area_of width (y + 1)) canvas other))
      (λ k h.
      let h' : k < length other = rw same at h in
      by-test (in_row 0 width y (k / 4 % stride') (k / 4 / stride')) (row_in k h') (row_out k h')
      ∙ sym (carried-byte stride stride' (area_of width (y + 1)) canvas other k h'))

-- ---- all rows

-- no rows yet
pub rows_none : (stride stride' width : ℕ) (canvas other : List ℕ) → other ≡ carried stride stride' (area_of width 0) canvas other
unfolding grid
rows_none stride stride' width canvas other =
    ext_get_or 0 other (carried stride stride' (area_of width 0) canvas other) (sym (length-carried stride stride' (area_of width 0) canvas other))
    (λ k h.
    sym
    (carried-byte stride stride' (area_of width 0) canvas other k h
    ∙ cond_no _ _ (unseen (k / 4))))
  where
    unseen : (p : ℕ) → grid stride' (visible (area_of width 0)) p ≡ false
    unseen p = no_test _ (λ t. omega (arith, visible-row (area_of width 0) (p % stride') (p / stride') t))

-- Rows that are copied from one stride to another are the picture carried.
pub carried_rows : (stride stride' width height : ℕ) (canvas other : List ℕ) → width ≤ stride → width ≤ stride'
    → 4 * (height * stride) ≤ length canvas → 4 * (height * stride') ≤ length other
    → rows_copied stride stride' width height canvas other ≡ carried stride stride' (area_of width height) canvas other
unfolding rows_copied
carried_rows stride stride' width zero canvas other a b c d = rows_none stride stride' width canvas other
carried_rows stride stride' width (suc y) canvas other a b c d =
    ap (λ (l : List ℕ). paste l (4 * (y * stride')) (drop (4 * (y * stride)) canvas) (4 * width))
    (carried_rows stride stride' width y canvas other a b (omega arith) (omega arith))
    ∙ carried_row stride stride' width y canvas other a b (omega arith) (omega arith)
    ∙ ap (λ (n : ℕ). carried stride stride' (area_of width n) canvas other) (add-one y)

-- ---- the paths of the code: `t` and `u` are what the tests of the two pictures told

module _ (stride stride' width height : ℕ) (canvas other : List ℕ) {t : Bool}
    (told : t ≡ has_picture stride (length canvas) (area_of width height)) where
  pub path-first : not t ≡ true → (12, other) ≡ carried_to stride stride' (area_of width height) canvas other
  unfolding carried_to
  path-first f =
      sym
      (cond_no _ _
      (ap (λ (b : Bool). b && has_picture stride' (length other) (area_of width height)) (sym told ∙ not-true t f)))

  module _ {u : Bool} (first : not t ≡ false) (told' : u ≡ has_picture stride' (length other) (area_of width height)) where
    pub path-second : not u ≡ true → (12, other) ≡ carried_to stride stride' (area_of width height) canvas other
    unfolding carried_to
    path-second f = sym (cond_no _ _ (ap₂ ◌&&◌ (sym told ∙ not-false t first) (sym told' ∙ not-true u f)))

    pub path-done : {other' : List ℕ} → not u ≡ false → other' ≡ rows_copied stride stride' width height canvas other
        → (0, other') ≡ carried_to stride stride' (area_of width height) canvas other
    unfolding carried_to
    path-done f e =
        let here : has_picture stride (length canvas) (area_of width height) ≡ true = sym told ∙ not-false t first in
        let there : has_picture stride' (length other) (area_of width height) ≡ true = sym told' ∙ not-false u f in
        ap {A = List ℕ} {B = ℕ × List ℕ} (λ l. (0, l))
        (e
        ∙ carried_rows stride stride' width height canvas other
        (has-columns stride (length canvas) width height here)
        (has-columns stride' (length other) width height there)
        (rows-room (length canvas) stride height (has-rows stride (length canvas) width height here))
        (rows-room (length other) stride' height (has-rows stride' (length other) width height there)))
        ∙ sym (cond_yes _ _ (and_both here there))

pub ruleset carry-paths = (path-first, path-second, path-done)

-- a canvas that has the picture has its columns and rows
pub path-columns : (stride n width height : ℕ) {t : Bool} → t ≡ has_picture stride n (area_of width height) → not t ≡ false → width ≤ stride
path-columns stride n width height {t} told f = has-columns stride n width height (sym told ∙ not-false t f)

pub path-rows : (stride n width height : ℕ) {t : Bool} → t ≡ has_picture stride n (area_of width height) → not t ≡ false
    → 4 * (height * stride) ≤ n
path-rows stride n width height {t} told f = rows-room n stride height (has-rows stride n width height (sym told ∙ not-false t f))

pub ruleset carry-room = (path-columns, path-rows)
