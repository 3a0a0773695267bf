-- The standard palette's greys have even steps.
-- Assumes nothing.
use mathlib.Core.Path.{◌≡◌, ◌∙◌}
use mathlib.Core.Logic.{inl, inr, ⊎_elim}
use Prim.Native.Nat.{ℕ, zero, suc, min, ◌+◌, ◌-◌, ◌*◌, ◌/◌, ◌≤◌, ◌<◌}
use native.Mathlib.Nat.{add-zero, add-suc, suc-add, not-suc-le-zero, le_of_suc-le-suc, eq-or-lt_of_le}
use native.Mathlib.Omega.{arith}
use lib.IntN.{pos}
use lib.ListN.{get_or}
use borrow.Author.Tests.{le-ltb}
use Rattle.hls.specs.Percent.{held, percent_byte}
use Rattle.colours.specs.Standard.{percents, grey, standard_at, listed}
use Rattle.colours.specs.Palette.{of_table, standard, register_of}
use Rattle.colours.specs.Legend.{grey_pixel, EvenStep}
use Rattle.colours.proofs.Laws.{pixel-packed}

pub get_or-listed : (f : ℕ → ℕ) (i n k : ℕ) → k < n → get_or (listed f i n) k 0 ≡ f (i + k)
unfolding listed
get_or-listed f i zero k h = absurd (not-suc-le-zero h)
get_or-listed f i (suc n) zero h = rw add-zero
get_or-listed f i (suc n) (suc k) h = get_or-listed f (suc i) n k (le_of_suc-le-suc h) ∙ rw (suc-add, add-suc)

a_byte : (percent : ℕ) → percent_byte (pos percent) < 256
unfolding held percent_byte
a_byte percent = omega arith

-- up to 100 no two percents have one byte: the percents of an even step are fixed by its pixels
pub own-byte : (p q : ℕ) → p ≤ 100 → q ≤ 100 → percent_byte (pos p) ≡ percent_byte (pos q) → p ≡ q
unfolding held percent_byte
own-byte p q hp hq e = omega arith

-- the k-th grey's register
shown : (k : ℕ) → k < 24 → register_of standard (232 + k) ≡ grey_pixel (100 * k / 23)
unfolding grey_pixel register_of standard of_table standard_at grey percents
shown k h =
    let least : min (232 + k) 255 ≡ 232 + k = omega arith in
    let past : 16 ≤ 0 + (232 + k) = omega arith in
    let beyond : 232 ≤ 0 + (232 + k) = omega arith in
    let back : 0 + (232 + k) - 232 ≡ k = omega arith in
    rw (least, get_or-listed standard_at 0 256 (232 + k) (omega arith), le-ltb _ _ past, le-ltb _ _ beyond, back)
    (pixel-packed _ _ _ (a_byte _) (a_byte _) (a_byte _))

-- registers 232 to 255 are greys, and each step from one to the next is 4 or 5 percent
pub greys-even : (k : ℕ) → k < 23 → EvenStep (register_of standard (232 + k)) (register_of standard (233 + k))
greys-even k h =
    let percent : ℕ = 100 * k / 23 in
    let step : ℕ = 100 * (k + 1) / 23 - percent in
    let next : 233 + k ≡ 232 + (k + 1) = omega arith in
    let sum : percent + step ≡ 100 * (k + 1) / 23 = omega arith in
    let four : 4 ≤ step = omega arith in record {
      percent = percent;
      step = step;
      here = shown k (omega arith);
      there = rw (next, sum) (shown (k + 1) (omega arith));
      within = omega arith;
      even = ⊎_elim (λ e. inl (omega arith)) (λ l. inr (omega arith)) (eq-or-lt_of_le four);
    }
