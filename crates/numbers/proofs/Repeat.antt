-- A repeat's number saturates in the code and is unbounded in the definition: both compare alike with every limit that can be
-- opened.
use Prim.Native.Nat.{ℕ, ◌+◌, ◌-◌, ◌*◌, ◌≤◌, min}
use mathlib.Core.Bool.{Bool, true, false, cond}
use mathlib.Core.List.{List, [], ◌∷◌, ◌++◌}
use mathlib.Core.Path.{◌≡◌, refl, sym, ap, ◌∙◌}
use native.Mathlib.Omega.{arith}
use borrow.Author.Tests.{ltb-true, ltb-false, lt-ltb, le-ltb}
use lib.Dec.{ltb}
use Rattle.numbers.specs.Bytes.{digit}
use Rattle.numbers.specs.Values.{extended, decimal_from, decimal}
use Rattle.numbers.specs.Step.{repeated, ceiling}
use Rattle.numbers.specs.Read.{Counted}
use Rattle.numbers.proofs.Fields.{extended-silent}

decimal_from-more : (n : ℕ) (bs : List ℕ) (b : ℕ) → decimal_from n (bs ++ b ∷ []) ≡ extended (decimal_from n bs) b
unfolding decimal_from
decimal_from-more n [] b = refl
decimal_from-more n (c ∷ bs) b = decimal_from-more (extended n c) bs b

-- the number of one byte more
pub decimal-more : (bs : List ℕ) (b : ℕ) → decimal (bs ++ b ∷ []) ≡ extended (decimal bs) b
unfolding decimal
decimal-more bs b = decimal_from-more 0 bs b

held-digit : (n b : ℕ) → repeated (min n ceiling) b ≡ min (extended n b) ceiling
unfolding repeated extended
held-digit n b = go (digit b)
  where
    go : (t : Bool) → cond t (min (min n ceiling * 10 + (b - 0x30)) ceiling) (min n ceiling) ≡ min (cond t (n * 10 + (b - 0x30)) n) ceiling
    go true = omega arith
    go false = refl

-- no byte counts 0
pub counted_none : Counted [] 0
unfolding decimal
counted_none = record { same = refl }

-- one byte more, of any kind
pub counted-more : {bs : List ℕ} {n : ℕ} (b : ℕ) → Counted bs n → Counted (bs ++ b ∷ []) (repeated n b)
counted-more {bs} {n} b h =
    record {
      same =
          ap (λ (m : ℕ). repeated m b) h.same
          ∙ held-digit (decimal bs) b
          ∙ ap (λ (m : ℕ). min m ceiling) (sym (decimal-more bs b));
    }

-- one byte more that is no digit
pub counted-silent : {bs : List ℕ} {n : ℕ} (b : ℕ) → digit b ≡ false → Counted bs n → Counted (bs ++ b ∷ []) n
counted-silent {bs} {n} b d h =
    record { same = h.same ∙ ap (λ (m : ℕ). min m ceiling) (sym (decimal-more bs b ∙ extended-silent (decimal bs) b d)) }

-- it is above the same limits
pub counted-above : {bs : List ℕ} {n : ℕ} (r : ℕ) → r ≤ 1000000000000 → Counted bs n → ltb r n ≡ ltb r (decimal bs)
counted-above {bs} {n} r k h = go (ltb r n) refl
  where
    go : (t : Bool) → ltb r n ≡ t → ltb r n ≡ ltb r (decimal bs)
    go true e = e ∙ sym (lt-ltb r (decimal bs) (omega (arith, ltb-true r n e, h.same)))
    go false e = e ∙ sym (le-ltb r (decimal bs) (omega (arith, ltb-false r n e, h.same)))

-- and where it is at most 10^12, it is the number itself
pub counted-exact : {bs : List ℕ} {n : ℕ} → n ≤ 1000000000000 → Counted bs n → n ≡ decimal bs
counted-exact {bs} {n} k h = omega (arith, h.same)
