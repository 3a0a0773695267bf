-- Laws of a sixel's depth: every bit that is 1 lies above it, and where it is not 0 the bit just above it is 1. Of six bits it grows with
-- their number, so that the largest of some has the largest depth. Assumes nothing.
use Prim.Native.Nat.{ℕ, zero, suc, ◌+◌, ◌-◌, ◌*◌, ◌≤◌, ◌<◌, max}
use mathlib.Core.Bool.{Bool, true, ◌&&◌, true≢false}
use mathlib.Core.Path.{◌≡◌, refl, sym, ap, ◌∙◌, subst}
use native.Mathlib.Nat.{add-zero, add-suc, le_refl, le_trans, not-suc-le-zero}
use native.Mathlib.Omega.{arith}
use borrow.Author.Tests.{leb-true, eqb-true}
use lib.Count.{count_leading_zeros, ones}
use lib.Dec.{leb, eqb}
use Rattle.canvas.specs.Picture.{bit, depth}
use Rattle.canvas.proofs.Covers.{and_left, and_right, by-test, split}

-- ---- any number of bits

pub depth-most : (n bits : ℕ) → depth n bits ≤ n
unfolding depth
depth-most zero bits = omega arith
depth-most (suc k) bits = by-test (bit bits k) (λ t. rw t (omega arith)) (λ t. rw t (omega (arith, depth-most k bits)))

-- every bit that is 1 lies above it
pub depth-above : (n bits k : ℕ) → k < n → bit bits k ≡ true → k < depth n bits
unfolding depth
depth-above zero bits k h t = absurd (not-suc-le-zero h)
depth-above (suc m) bits k h t =
    by-test (bit bits m)
    (λ u. rw u h)
    (λ u. split k m
    (λ below. rw u (depth-above m bits k below t))
    (λ above. let here : k ≡ m = omega arith in absurd (true≢false (sym t ∙ ap (bit bits) here ∙ u))))

-- where it is not 0, the bit just above it is 1
pub depth-set : (n bits k : ℕ) → depth n bits ≡ suc k → bit bits k ≡ true
unfolding depth
depth-set zero bits k e = absurd (let never : ◌≡◌ {A = ℕ} 0 (suc k) = e in omega arith)
depth-set (suc m) bits k e =
    by-test (bit bits m)
    (λ t. let last : suc m ≡ suc k = rw t at e in let here : m ≡ k = omega arith in subst (λ (j : ℕ). bit bits j ≡ true) here t)
    (λ t. depth-set m bits k (rw t at e))

-- ---- six bits, by computing

-- a test of every number below n
all_below : (ℕ → Bool) → ℕ → Bool
all_below f zero = true
all_below f (suc n) = f n && all_below f n

below_one : (f : ℕ → Bool) (n k : ℕ) → all_below f n ≡ true → k < n → f k ≡ true
unfolding all_below
below_one f zero k t h = absurd (not-suc-le-zero h)
below_one f (suc n) k t h =
    split k n (λ below. below_one f n k (and_right (f n) _ t) below)
    (λ above. let here : k ≡ n = omega arith in ap f here ∙ and_left _ _ t)

-- it is what is left of 32 binary digits without the zeros in front
pub depth-digits : (bits : ℕ) → bits < 64 → 32 - count_leading_zeros 32 bits ≡ depth 6 bits
unfolding all_below count_leading_zeros depth
depth-digits bits h = eqb-true _ _ (below_one (λ n. eqb (32 - count_leading_zeros 32 n) (depth 6 n)) 64 bits refl h)

-- it is 0 exactly where no bit is 1, and so where none is counted
pub depth-bits : (bits : ℕ) → bits < 64 → (depth 6 bits ≤ 6 * bits) × (bits ≤ 64 * depth 6 bits)
unfolding all_below depth
depth-bits bits h =
    let both = below_one (λ n. leb (depth 6 n) (6 * n) && leb n (64 * depth 6 n)) 64 bits refl h in
    (leb-true _ _ (and_left _ _ both), leb-true _ _ (and_right (leb (depth 6 bits) (6 * bits)) _ both))

pub depth-ones : (bits : ℕ) → bits < 64 → (depth 6 bits ≤ 6 * ones bits) × (ones bits ≤ 6 * depth 6 bits)
unfolding all_below depth ones
depth-ones bits h =
    let both = below_one (λ n. leb (depth 6 n) (6 * ones n) && leb (ones n) (6 * depth 6 n)) 64 bits refl h in
    (leb-true _ _ (and_left _ _ both), leb-true _ _ (and_right (leb (depth 6 bits) (6 * ones bits)) _ both))

-- it grows with the bits' number
depth-next : (bits : ℕ) → bits < 63 → depth 6 bits ≤ depth 6 (suc bits)
unfolding all_below depth
depth-next bits h = leb-true _ _ (below_one (λ n. leb (depth 6 n) (depth 6 (suc n))) 63 bits refl h)

depth-more : (a n : ℕ) → a + n < 64 → depth 6 a ≤ depth 6 (a + n)
depth-more a zero h = rw (add-zero a) (le_refl _)
depth-more a (suc n) h = rw (add-suc a n) (le_trans (depth-more a n (omega arith)) (depth-next (a + n) (omega arith)))

pub depth-larger : (a b : ℕ) → a < 64 → b < 64 → depth 6 (max a b) ≡ max (depth 6 a) (depth 6 b)
depth-larger a b h k =
    split a b
    (λ less.
    let there : a + (b - a) ≡ b = omega arith in
    let grows : depth 6 a ≤ depth 6 b = rw there at (depth-more a (b - a) (omega arith)) in
    let largest : max a b ≡ b = omega arith in
    rw largest (omega arith))
    (λ more.
    let there : b + (a - b) ≡ a = omega arith in
    let grows : depth 6 b ≤ depth 6 a = rw there at (depth-more b (a - b) (omega arith)) in
    let largest : max a b ≡ a = omega arith in
    rw largest (omega arith))
