-- A record of values in nine numbers: read back it is the same, for a record whose fields are in their ranges; and reading keeps them
-- there.
use Prim.Native.Nat.{ℕ, zero, suc, ◌<◌}
use native.Mathlib.Nat.{mod-eq_of_lt}
use native.Mathlib.Omega.{arith}
use mathlib.Core.Bool.{Bool, true, false, cond}
use mathlib.Core.List.{List, [], ◌∷◌}
use mathlib.Core.Path.{◌≡◌, refl, ◌∙◌}
use lib.Dec.{eqb}
use lib.ListN.{get_or, set, length, length-set}
use Rattle.numbers.specs.Bytes.{digit}
use Rattle.numbers.specs.Values.{held}
use Rattle.numbers.specs.Step.{opened, room, stored, marked, with_digit, with_semicolon}
use Rattle.numbers.specs.Memory.{numbers_of, parameters_from, Ranged}
use Rattle.numbers.specs.declared.Parameters.{Parameters}

cond-case : {A : Type 0} (P : A → Type 0) {x y : A} (t : Bool) → (t ≡ true → P x) → (t ≡ false → P y) → P (cond t x y)
cond-case P true f g = f refl
cond-case P false f g = g refl

-- ---- the round trip

flag-back : (t : Bool) → eqb (cond t 1 0) 1 ≡ t
flag-back true = refl
flag-back false = refl

pub five-listed : (l : List ℕ) → length l ≡ 5 → get_or l 0 0 ∷ get_or l 1 0 ∷ get_or l 2 0 ∷ get_or l 3 0 ∷ get_or l 4 0 ∷ [] ≡ l
five-listed [] h = cc
five-listed (a ∷ []) h = cc
five-listed (a ∷ b ∷ []) h = cc
five-listed (a ∷ b ∷ c ∷ []) h = cc
five-listed (a ∷ b ∷ c ∷ d ∷ []) h = cc
five-listed (a ∷ b ∷ c ∷ d ∷ e ∷ []) h = refl
five-listed (a ∷ b ∷ c ∷ d ∷ e ∷ f ∷ l) h = cc

pub from-numbers : (p : Parameters) → Ranged p → parameters_from (numbers_of p) ≡ p
unfolding parameters_from numbers_of
from-numbers p h =
    rw (
      mod-eq_of_lt (h.values 0),
      mod-eq_of_lt (h.values 1),
      mod-eq_of_lt (h.values 2),
      mod-eq_of_lt (h.values 3),
      mod-eq_of_lt (h.values 4),
      mod-eq_of_lt h.current,
      flag-back p.pending,
      five-listed p.values h.five,
    )
    refl

-- ---- reading keeps the ranges

-- a list whose elements have 32 bits
abbrev Low : List ℕ → Type 0
Low l = (i : ℕ) → get_or l i 0 < 4294967296

low-none : Low []
low-none i = omega arith

low-more : (a : ℕ) (l : List ℕ) → a < 4294967296 → Low l → Low (a ∷ l)
low-more a l h k zero = h
low-more a l h k (suc i) = k i

low_zeros : Low (0 ∷ 0 ∷ 0 ∷ 0 ∷ 0 ∷ [])
low_zeros =
    let z : 0 < 4294967296 = omega arith in
    low-more 0 (0 ∷ 0 ∷ 0 ∷ 0 ∷ []) z
    (low-more 0 (0 ∷ 0 ∷ 0 ∷ []) z (low-more 0 (0 ∷ 0 ∷ []) z (low-more 0 (0 ∷ []) z (low-more 0 [] z low-none))))

low-set : (l : List ℕ) (n a : ℕ) → a < 4294967296 → Low l → Low (set l n a)
low-set [] n a h k = low-none
low-set (x ∷ l) zero a h k = low-more a l h (λ i. k (suc i))
low-set (x ∷ l) (suc n) a h k = low-more x (set l n a) (k 0) (low-set l n a h (λ i. k (suc i)))

pub opened-ranged : (places : ℕ) → Ranged (opened places)
unfolding opened
opened-ranged places = record { five = refl; values = low_zeros; current = omega arith }

held_low : (n : ℕ) → held n < 4294967296
unfolding held
held_low n = omega arith

pub digit-ranged : (p : Parameters) (b : ℕ) → Ranged p → Ranged (with_digit p b)
unfolding with_digit
digit-ranged p b h =
    cond-case Ranged (digit b) (λ _. record { five = h.five; values = h.values; current = held_low _ }) (λ _. h)

pub stored-ranged : (p : Parameters) → Ranged p → Ranged (stored p)
unfolding stored
stored-ranged p h =
    cond-case Ranged (room p)
    (λ _.
    record {
      five = length-set p.values p.count p.current ∙ h.five;
      values = low-set p.values p.count p.current h.current h.values;
      current = omega arith;
    })
    (λ _. record { five = h.five; values = h.values; current = omega arith })

pub semicolon-ranged : (p : Parameters) → Ranged p → Ranged (with_semicolon p)
unfolding with_semicolon marked
semicolon-ranged p h =
    let k : Ranged (stored p) = stored-ranged p h in
    record { five = k.five; values = k.values; current = k.current }
