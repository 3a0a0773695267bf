-- A loop that counts, one place a turn.
-- Assumes nothing.
use mathlib.Core.Path.{◌≡◌, refl}
use mathlib.Core.Bool.{Bool, cond}
use mathlib.Core.List.{List}
use mathlib.Core.Logic.{⊎_elim}
use Prim.Native.Nat.{ℕ, ◌+◌, ◌/◌, ◌%◌, ◌≤◌, min}
use native.Mathlib.Nat.{eq-or-lt_of_le}
use native.Mathlib.Numerals.{add-one}
use native.Mathlib.Omega.{arith}
use lib.Dec.{eqb}
use lib.ListN.{get_or}
use Rattle.colours.specs.Palette.{of_table}
use Rattle.colours.specs.Marks.{frame_unit, is_defined, counted}

pub counted_none : (holds : ℕ → Bool) → 0 ≡ counted holds 0
unfolding counted
counted_none holds = refl

pub counted-more : (holds : ℕ → Bool) (n : ℕ) {count one : ℕ} → count ≡ counted holds n → one ≡ cond (holds n) 1 0
    → count + one ≡ counted holds (n + 1)
unfolding counted
counted-more holds n e eo = rw (add-one n, e, eo)

-- a bit as a number is 1 where it is set
bit-counts : (m : ℕ) → m % 2 ≡ cond (eqb (m % 2) 1) 1 0
bit-counts m =
    let least : 0 ≤ m % 2 = omega arith in
    ⊎_elim (λ e. rw (← e)) (λ l. let one : m % 2 ≡ 1 = omega arith in rw one) (eq-or-lt_of_le least)

-- what a turn counts for a register of a table: the frame's bit of its number
pub defined-counts : (colors : List ℕ) (n : ℕ) {number : ℕ} → n ≤ 255 → number ≡ get_or colors n 0
    → number / frame_unit % 2 ≡ cond (is_defined (of_table colors) n) 1 0
unfolding of_table is_defined
defined-counts colors n h e =
    let within : min n 255 ≡ n = omega arith in
    rw (within, e) (bit-counts (get_or colors n 0 / frame_unit))
