-- Laws of stored numbers and checksums: one byte or one register more, all of them read, and the code's arithmetic on 32 bits.
-- Assumes nothing.
use mathlib.Core.Path.{◌≡◌, refl, sym, ◌∙◌}
use mathlib.Core.List.{List, [], ◌∷◌, ◌++◌}
use Prim.Native.Nat.{ℕ, suc, ◌+◌, ◌-◌, ◌<◌, ◌≤◌}
use native.Mathlib.Numerals.{add-one}
use native.Mathlib.Omega.{arith}
use lib.ListN.{length, drop, get_or, drop_of_length-le}
use lib.Seq.{drop-cons}
use Rattle.colours.specs.declared.Palette.{Palette}
use Rattle.colours.specs.Palette.{register_of}
use Rattle.answers.specs.Adler.{with_byte, with_bytes}
use Rattle.answers.specs.Registers.{register_bytes}

-- a byte read leaves the rest
pub one_more : (bytes : List ℕ) (i sum next whole : ℕ) → next ≡ with_byte sum (get_or bytes i 0)
    → with_bytes sum (drop i bytes) ≡ whole → i < length bytes → with_bytes next (drop (i + 1) bytes) ≡ whole
unfolding with_bytes
one_more bytes i sum next whole e rest h = rw (e, add-one i) (rw (drop-cons bytes i 0 h) at rest)

-- where all are read, nothing is left
pub all_read_lem : (bytes : List ℕ) (i sum whole : ℕ) → with_bytes sum (drop i bytes) ≡ whole → length bytes ≤ i → sum ≡ whole
unfolding with_bytes
all_read_lem bytes i sum whole rest h = rw (drop_of_length-le bytes h) at rest

-- bytes of two lists, one after the other
pub in_two : (xs ys : List ℕ) (sum : ℕ) → with_bytes sum (xs ++ ys) ≡ with_bytes (with_bytes sum xs) ys
unfolding with_bytes
in_two [] ys sum = refl
in_two (x ∷ xs) ys sum = in_two xs ys (with_byte sum x)

-- a register read leaves the rest
pub one-register : (p : Palette) (i sum next whole : ℕ) (px : List ℕ) → px ≡ register_of p i → next ≡ with_bytes sum px
    → with_bytes sum (register_bytes p i (256 - i)) ≡ whole → i < 256 → with_bytes next (register_bytes p (i + 1) (256 - (i + 1))) ≡ whole
unfolding register_bytes
one-register p i sum next whole px read e rest h =
    let left : 256 - i ≡ suc (256 - (i + 1)) = omega arith in
    rw (e, read) (sym (in_two (register_of p i) _ sum) ∙ (rw left at rest))

-- where all registers are read, none is left
pub all-registers : (p : Palette) (i sum whole : ℕ) → with_bytes sum (register_bytes p i (256 - i)) ≡ whole → 256 ≤ i → sum ≡ whole
unfolding with_bytes register_bytes
all-registers p i sum whole rest h =
    let none : 256 - i ≡ 0 = omega arith in
    rw none at rest
