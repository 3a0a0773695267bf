-- Laws of a sixel's rows, from one bit that is set to the next: the bits that are passed over add nothing, and neither do those above the last.
use Prim.Native.Nat.{ℕ, zero, suc, ◌+◌, ◌-◌, ◌*◌, ◌/◌, ◌%◌, ◌^◌, ◌≤◌, ◌<◌}
use mathlib.Core.List.{List}
use mathlib.Core.Path.{◌≡◌, refl, sym, ap, ◌∙◌}
use native.Mathlib.Nat.{add-zero, pow-suc, div-one, zero-div, div-eq_of_lt, not-suc-le-zero, lt_of_lt_of_le}
use native.Mathlib.Omega.{arith}
use lib.Count.{under, count_trailing_zeros}
use lib.Pow.{pow_mono, shr-shr, shr_le}
use Rattle.canvas.specs.Picture.{span, grid}
use Rattle.canvas.specs.Paint.{painted, sixel_painted}
use Rattle.canvas.proofs.Covers.{split}
use Rattle.canvas.proofs.Grid.{first_rows, sixel-skip, sixel-on, sixel-last}

-- ---- the zeros below a number's lowest bit

-- a digit of a half is the next digit of the whole
half-digit : (n j : ℕ) → n / 2 / 2 ^ j ≡ n / 2 ^ suc j
half-digit n j = shr-shr n 1 j ∙ ap (λ (m : ℕ). n / 2 ^ m) (one_more j)
  where
    one_more : (j : ℕ) → 1 + j ≡ suc j
    one_more j = omega arith

-- below the lowest bit that is set none is
low-zero : (d n j : ℕ) → j < count_trailing_zeros d n → n / 2 ^ j % 2 ≡ 0
unfolding count_trailing_zeros
low-zero zero n j h = absurd (not-suc-le-zero h)
low-zero (suc d) n j h = go (λ i. low-zero d (n / 2) i) (n % 2) refl j h
  where
    go : ((i : ℕ) → i < count_trailing_zeros d (n / 2) → n / 2 / 2 ^ i % 2 ≡ 0) → (r : ℕ) → n % 2 ≡ r → (i : ℕ) → i < under r (count_trailing_zeros d (n / 2))
        → n / 2 ^ i % 2 ≡ 0
    go rest zero e zero h = ap (λ (m : ℕ). m % 2) (div-one n) ∙ e
    go rest zero e (suc i) h = ap (λ (m : ℕ). m % 2) (sym (half-digit n i)) ∙ rest i (omega arith)
    go rest (suc r) e i h = absurd (not-suc-le-zero h)

-- and that one is
low-odd : (d n : ℕ) → n < 2 ^ d → 0 < n → n / 2 ^ count_trailing_zeros d n % 2 ≡ 1
unfolding count_trailing_zeros
low-odd zero n h some = omega arith
low-odd (suc d) n h some = go (λ half. low-odd d (n / 2) (omega (arith, pow-suc 2 d)) half) (n % 2) refl
  where
    go : (0 < n / 2 → n / 2 / 2 ^ count_trailing_zeros d (n / 2) % 2 ≡ 1) → (r : ℕ) → n % 2 ≡ r → n / 2 ^ under r (count_trailing_zeros d (n / 2)) % 2 ≡ 1
    go rest zero e = ap (λ (m : ℕ). m % 2) (sym (half-digit n (count_trailing_zeros d (n / 2)))) ∙ rest (omega (arith, some, e))
    go rest (suc zero) e = ap (λ (m : ℕ). m % 2) (div-one n) ∙ e
    go rest (suc (suc r)) e = absurd (let z : r < r = omega (arith, e) in omega (arith, z))

-- a bit that is set is one of six
pub bit-few : (bits j : ℕ) → bits < 64 → bits / 2 ^ j % 2 ≡ 1 → j < 6
bit-few bits j few on =
    split j 6 (λ below. below)
    (λ above.
    let none : bits / 2 ^ j ≡ 0 = div-eq_of_lt (lt_of_lt_of_le few (pow_mono above)) in
    omega (arith, none, on))

-- ---- the row of the lowest bit that is left

module _ (bits rest k : ℕ) (left : rest ≡ bits / 2 ^ k) where
  pub row-left : (t : ℕ) → rest / 2 ^ t ≡ bits / 2 ^ (k + t)
  row-left t = ap (λ (n : ℕ). n / 2 ^ t) left ∙ shr-shr bits k t

  pub row_on : bits < 64 → 0 < rest → rest / 2 ^ count_trailing_zeros 32 rest % 2 ≡ 1
  row_on few some =
      let small : rest ≤ bits = rw left (shr_le bits k) in
      low-odd 32 rest (omega arith) some

  pub row-few : bits < 64 → 0 < rest → k + count_trailing_zeros 32 rest < 6
  row-few few some =
      bit-few bits (k + count_trailing_zeros 32 rest) few (ap (λ (n : ℕ). n % 2) (sym (row-left (count_trailing_zeros 32 rest))) ∙ row_on few some)

module _ (stride column row repeat bits : ℕ) (px l : List ℕ) where
  -- the canvas with a sixel's first rows painted
  abbrev rows : ℕ → List ℕ
  rows k = painted (grid stride (first_rows k column row repeat bits)) px l

  -- rows without a bit add nothing
  passed : (k t : ℕ) → ((j : ℕ) → j < t → bits / 2 ^ (k + j) % 2 ≡ 0) → rows k ≡ rows (k + t)
  passed k zero off = ap rows (sym (add-zero k))
  passed k (suc t) off =
      let last : bits / 2 ^ (k + t) % 2 ≡ 0 = off t (omega arith) in
      let next : k + t + 1 ≡ k + suc t = omega arith in
      passed k t (λ j h. off j (omega arith))
      ∙ sixel-skip stride column row repeat bits (bits / 2 ^ (k + t)) (k + t) px l refl (λ on. omega (arith, last, on))
      ∙ ap rows next

  -- from one row to the next that has a bit
  pub row-painted : {before after : List ℕ} (rest k : ℕ) → rest ≡ bits / 2 ^ k → 0 < rest → bits < 64 → column + repeat ≤ stride → before ≡ rows k
      → after
      ≡ painted (span ((row + (k + count_trailing_zeros 32 rest)) * stride + column) ((row + (k + count_trailing_zeros 32 rest)) * stride + column + repeat)) px before
      → after ≡ rows (k + count_trailing_zeros 32 rest + 1)
  row-painted rest k left some few h e f =
      let t : ℕ = count_trailing_zeros 32 rest in
      let off : (j : ℕ) → j < t → bits / 2 ^ (k + j) % 2 ≡ 0 =
      λ j below. ap (λ (n : ℕ). n % 2) (sym (row-left bits rest k left j)) ∙ low-zero 32 rest j below
      in
      sixel-on stride column row repeat bits px l (rest / 2 ^ t) (k + t) (row-left bits rest k left t) (row_on bits rest k left few some) h
      (e ∙ passed k t off)
      f

  -- no bit is left
  pub rows-done : {after : List ℕ} (rest k : ℕ) → rest ≡ bits / 2 ^ k → rest ≡ 0 → k ≤ 6 → after ≡ rows k
      → after ≡ sixel_painted stride column row repeat bits px l
  rows-done rest k left none few e =
      let off : (j : ℕ) → j < 6 - k → bits / 2 ^ (k + j) % 2 ≡ 0 =
      λ j below. ap (λ (n : ℕ). n % 2) (sym (row-left bits rest k left j) ∙ ap (λ (n : ℕ). n / 2 ^ j) none ∙ zero-div (2 ^ j))
      in
      sixel-last stride column row repeat bits px l (k + (6 - k)) (omega arith) (omega arith) (e ∙ passed k (6 - k) off)
