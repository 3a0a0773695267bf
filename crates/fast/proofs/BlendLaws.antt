-- Laws of blending: a pixel that is painted with its own bytes stays as it is, so that a sixel whose pixels are all written, the new colour
-- where the bit is 1 and the old one where it is not, is the sixel that is painted. Of four sixels the rows may be painted in turn, since all
-- have one colour.
use Prim.Native.Nat.{ℕ, zero, suc, ◌+◌, ◌-◌, ◌*◌, ◌/◌, ◌%◌, ◌^◌, ◌≤◌, ◌<◌}
use mathlib.Core.Bool.{Bool, true, cond, ◌||◌}
use mathlib.Core.List.{List}
use mathlib.Core.Path.{◌≡◌, refl, sym, ap, ◌∙◌}
use native.Mathlib.Nat.{add-zero, add_assoc, div-le_self}
use native.Mathlib.Omega.{arith}
use borrow.Author.Tests.{eqb-true, eqb-false}
use lib.Dec.{eqb}
use lib.ListN.{get_or}
use Rattle.numbers.proofs.Laws.{cond_yes, cond_no}
use Rattle.canvas.specs.Picture.{span, grid, bit, in_sixel}
use Rattle.canvas.specs.Paint.{painted, sixel_painted}
use Rattle.canvas.proofs.Bytes.{replaced-alike, replaced-none, painted-none, painted_same, painted-both}
use Rattle.canvas.proofs.Covers.{and_right, or_left, or_right, or_case, same_test, by-test, no_test, span-low, span-high}
use Rattle.canvas.proofs.Grid.{first_rows, sixel-none, sixel-on, sixel-off}
use Rattle.fast.specs.Blend.{four_at, blended, blended_across, four_painted}

-- byte j of a pixel's four
four-byte : (l : List ℕ) (at j : ℕ) → j < 4 → get_or (four_at l at) j 0 ≡ get_or l (4 * at + j) 0
unfolding four_at
four-byte l at zero h = ap (λ (n : ℕ). get_or l n 0) (sym (add-zero (4 * at)))
four-byte l at (suc zero) h = refl
four-byte l at (suc (suc zero)) h = refl
four-byte l at (suc (suc (suc zero))) h = refl
four-byte l at (suc (suc (suc (suc j)))) h = absurd (let z : j < j = omega arith in omega (arith, z))

-- a pixel painted with its own bytes
own-pixel : (l : List ℕ) (at : ℕ) → painted (span at (at + 1)) (four_at l at) l ≡ l
unfolding painted
own-pixel l at =
    replaced-alike _ (λ k b. b) l
    (λ i h.
    by-test (span at (at + 1) (i / 4))
    (λ t.
    let here : i / 4 ≡ at = omega (arith, span-low at (at + 1) (i / 4) t, span-high at (at + 1) (i / 4) t) in
    let place : 4 * at + i % 4 ≡ i = omega arith in
    cond_yes _ _ t ∙ four-byte l at (i % 4) (omega arith) ∙ ap (λ (n : ℕ). get_or l n 0) place)
    (λ t. cond_no _ _ t))
    ∙ replaced-none 0 (λ k b. b) l (λ i b. refl)

pub blended-as : {l₁ mixed : List ℕ} (at bit : ℕ) (px l : List ℕ) → mixed ≡ cond (eqb bit 1) px (four_at l at)
    → l₁ ≡ painted (span at (at + 1)) mixed l → l₁ ≡ blended at bit px l
unfolding blended
blended-as at bit px l e k =
    k ∙ ap (λ (x : List ℕ). painted (span at (at + 1)) x l) e
    ∙ by-test (eqb bit 1) (λ t. rw t) (λ t. rw t (own-pixel l at))

-- one row more
pub blended-more : {before after : List ℕ} (stride column row bits rest k : ℕ) (px l : List ℕ) → rest ≡ bits / 2 ^ k → column + 1 ≤ stride
    → before ≡ painted (grid stride (first_rows k column row 1 bits)) px l → after ≡ blended ((row + k) * stride + column) (rest % 2) px before
    → after ≡ painted (grid stride (first_rows (k + 1) column row 1 bits)) px l
unfolding blended
blended-more stride column row bits rest k px l r h e f =
    by-test (eqb (rest % 2) 1)
    (λ t. sixel-on stride column row 1 bits px l rest k r (eqb-true _ _ t) h e (f ∙ cond_yes _ _ t))
    (λ t. f ∙ cond_no _ _ t ∙ sixel-off stride column row 1 bits px l rest k r (eqb-false _ _ t) e)

-- ---- four sixels, row by row

-- covers of one colour may be painted in either order
painted-turned : (c₁ c₂ : ℕ → Bool) (px l : List ℕ) → painted c₂ px (painted c₁ px l) ≡ painted c₁ px (painted c₂ px l)
painted-turned c₁ c₂ px l =
    painted-both c₁ c₂ (λ p. c₁ p || c₂ p) px l (λ p. refl)
    ∙ painted_same _ _ px l (λ p. same_test _ _ (turned (c₁ p) (c₂ p)) (turned (c₂ p) (c₁ p)))
    ∙ sym (painted-both c₂ c₁ (λ p. c₂ p || c₁ p) px l (λ p. refl))
  where
    turned : (s t : Bool) → (s || t) ≡ true → (t || s) ≡ true
    turned s t h = or_case s t h (or_right t s) (or_left t s)

blended-under : (at bit : ℕ) (cover : ℕ → Bool) (px l : List ℕ) → blended at bit px (painted cover px l) ≡ painted cover px (blended at bit px l)
unfolding blended
blended-under at bit cover px l = by-test (eqb bit 1) (λ t. rw t (painted-turned cover (span at (at + 1)) px l)) (λ t. rw t)

-- the canvas with the first rows of four sixels painted
unfoldable pub four_rows : ℕ → ℕ → ℕ → ℕ → List ℕ → List ℕ → List ℕ → List ℕ
four_rows stride column row k four px l =
    painted (grid stride (first_rows k (column + 3) row 1 (get_or four 3 0))) px
    (painted (grid stride (first_rows k (column + 2) row 1 (get_or four 2 0))) px
    (painted (grid stride (first_rows k (column + 1) row 1 (get_or four 1 0))) px (painted (grid stride (first_rows k column row 1 (get_or four 0 0))) px l)))

module _ (stride column row k : ℕ) (four rest : List ℕ) (px : List ℕ) (ra : (get_or rest 0 0) ≡ (get_or four 0 0) / 2 ^ k) (rb : (get_or rest 1 0) ≡ (get_or four 1 0) / 2 ^ k)
    (rc : (get_or rest 2 0) ≡ (get_or four 2 0) / 2 ^ k) (rd : (get_or rest 3 0) ≡ (get_or four 3 0) / 2 ^ k) (room : column + 4 ≤ stride) where
  abbrev first : ℕ
  first = (row + k) * stride + column

  -- the first rows of one of them, and one row more
  abbrev rows : ℕ → ℕ → ℕ → Bool
  rows x bits = grid stride (first_rows k x row 1 bits)

  abbrev more : ℕ → ℕ → List ℕ → List ℕ
  more x bits l = painted (grid stride (first_rows (k + 1) x row 1 bits)) px l

  one_more : (j bits left : ℕ) (l : List ℕ) → j < 4 → left ≡ bits / 2 ^ k
      → blended (first + j) (left % 2) px (painted (rows (column + j) bits) px l) ≡ more (column + j) bits l
  one_more j bits left l few e =
      ap (λ (n : ℕ). blended n (left % 2) px (painted (rows (column + j) bits) px l)) (add_assoc ((row + k) * stride) column j)
      ∙ blended-more stride (column + j) row bits left k px l e (omega arith) refl refl

  across : (l : List ℕ) → blended_across first rest px (four_rows stride column row k four px l) ≡ four_rows stride column row (k + 1) four px l
  unfolding blended_across four_rows
  across l =
      let d : ℕ → Bool = rows (column + 3) (get_or four 3 0) in
      let c : ℕ → Bool = rows (column + 2) (get_or four 2 0) in
      let b : ℕ → Bool = rows (column + 1) (get_or four 1 0) in
      let a : List ℕ = painted (rows column (get_or four 0 0)) px l in
      let a' : List ℕ = more column (get_or four 0 0) l in
      let b' : List ℕ = more (column + 1) (get_or four 1 0) a' in
      let c' : List ℕ = more (column + 2) (get_or four 2 0) b' in
      ap (λ (m : List ℕ). blended (first + 3) ((get_or rest 3 0) % 2) px (blended (first + 2) ((get_or rest 2 0) % 2) px (blended (first + 1) ((get_or rest 1 0) % 2) px m)))
      (blended-under first ((get_or rest 0 0) % 2) d px (painted c px (painted b px a))
      ∙ ap (painted d px) (blended-under first ((get_or rest 0 0) % 2) c px (painted b px a)
      ∙ ap (painted c px) (blended-under first ((get_or rest 0 0) % 2) b px a
      ∙ ap (painted b px) (blended-more stride column row (get_or four 0 0) (get_or rest 0 0) k px l ra (omega arith) refl refl))))
      ∙ ap (λ (m : List ℕ). blended (first + 3) ((get_or rest 3 0) % 2) px (blended (first + 2) ((get_or rest 2 0) % 2) px m))
      (blended-under (first + 1) ((get_or rest 1 0) % 2) d px (painted c px (painted b px a'))
      ∙ ap (painted d px) (blended-under (first + 1) ((get_or rest 1 0) % 2) c px (painted b px a')
      ∙ ap (painted c px) (one_more 1 (get_or four 1 0) (get_or rest 1 0) a' (omega arith) rb)))
      ∙ ap (λ (m : List ℕ). blended (first + 3) ((get_or rest 3 0) % 2) px m)
      (blended-under (first + 2) ((get_or rest 2 0) % 2) d px (painted c px b') ∙ ap (painted d px) (one_more 2 (get_or four 2 0) (get_or rest 2 0) b' (omega arith) rc))
      ∙ one_more 3 (get_or four 3 0) (get_or rest 3 0) c' (omega arith) rd

  pub four-more : {before after : List ℕ} (l : List ℕ) → before ≡ four_rows stride column row k four px l → after ≡ blended_across first rest px before
      → after ≡ four_rows stride column row (k + 1) four px l
  four-more l e f = f ∙ ap (blended_across first rest px) e ∙ across l

-- no rows, and all six of them
pub four-none : (stride column row : ℕ) (four : List ℕ) (px l : List ℕ) → l ≡ four_rows stride column row 0 four px l
unfolding four_rows
four-none stride column row four px l =
    sixel-none stride column row 1 (get_or four 0 0) px l
    ∙ sixel-none stride (column + 1) row 1 (get_or four 1 0) px _
    ∙ sixel-none stride (column + 2) row 1 (get_or four 2 0) px _
    ∙ sixel-none stride (column + 3) row 1 (get_or four 3 0) px _

pub four-last : (stride column row k : ℕ) (four : List ℕ) (px l : List ℕ) → k ≤ 6 → 6 ≤ k
    → four_rows stride column row k four px l ≡ four_painted stride column row four px l
unfolding four_rows four_painted sixel_painted in_sixel first_rows
four-last stride column row k four px l h g =
    let six : k ≡ 6 = omega arith in
    ap (λ (n : ℕ). four_rows stride column row n four px l) six

-- ---- a blank sixel, and a full one

-- a sixel without bits
pub blank-painted : (stride column row bits : ℕ) (px l : List ℕ) → bits ≡ 0 → l ≡ sixel_painted stride column row 1 bits px l
unfolding sixel_painted grid in_sixel bit
blank-painted stride column row bits px l none =
    sym (painted-none _ px l
    (λ p.
    no_test _
    (λ t.
    let on = and_right (span row (row + 6) (p / stride)) _ (and_right (span column (column + 1) (p % stride)) _ t) in
    let one : bits / 2 ^ (p / stride - row) % 2 ≡ 1 = eqb-true _ 1 on in
    omega (arith, one, none, div-le_self bits (2 ^ (p / stride - row))))))

-- each of its six bits is 1
full-bit : (k : ℕ) → k < 6 → 63 / 2 ^ k % 2 ≡ 1
full-bit zero h = refl
full-bit (suc zero) h = refl
full-bit (suc (suc zero)) h = refl
full-bit (suc (suc (suc zero))) h = refl
full-bit (suc (suc (suc (suc zero)))) h = refl
full-bit (suc (suc (suc (suc (suc zero))))) h = refl
full-bit (suc (suc (suc (suc (suc (suc k)))))) h = absurd (let z : k < k = omega arith in omega (arith, z))

-- one row more of a full one
pub full-more : {before after : List ℕ} (stride column row k : ℕ) (px l : List ℕ) → k < 6 → column + 1 ≤ stride
    → before ≡ painted (grid stride (first_rows k column row 1 63)) px l
    → after ≡ painted (span ((row + k) * stride + column) ((row + k) * stride + column + 1)) px before
    → after ≡ painted (grid stride (first_rows (k + 1) column row 1 63)) px l
full-more stride column row k px l few h e f = sixel-on stride column row 1 63 px l (63 / 2 ^ k) k refl (full-bit k few) h e f
