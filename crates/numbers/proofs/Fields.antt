-- The values of an argument, read from left to right; and that a skipped byte makes no difference to them.
use Prim.Native.Nat.{ℕ, zero, suc, ◌≤◌, ◌<◌}
use mathlib.Core.Bool.{Bool, true, false, ◌||◌, cond, or-true}
use mathlib.Core.List.{List, [], ◌∷◌, ◌++◌, map}
use mathlib.Core.Path.{◌≡◌, refl, sym, ap, ap₂, ◌∙◌}
use native.Mathlib.Omega.{arith}
use borrow.Author.Tests.{le-leb, lt-leb, eqb-true, ne_eqb}
use lib.Dec.{eqb}
use lib.ListN.{get_or, take, length, length-take}
use Rattle.numbers.specs.Bytes.{skipped, digit, semicolon}
use Rattle.numbers.specs.Values.{extended, decimal_from, decimal, held, onto, fields, number, written, values}
use Rattle.numbers.proofs.Laws.{cond_yes, cond_no, digit-top, digit-least}

-- ---- kinds of bytes

-- a byte that is no digit and no `;`
pub record Silent (b : ℕ) : Type 0 where
  pub no_digit : digit b ≡ false
  pub no-semicolon : eqb b semicolon ≡ false

pub digit-no-semicolon : (b : ℕ) → digit b ≡ true → eqb b semicolon ≡ false
digit-no-semicolon b h = let k : b ≤ 0x39 = digit-top b h in ne_eqb b semicolon (λ e. omega arith)

pub unskipped : (b : ℕ) → 0x20 ≤ b → b < 0x7F → skipped b ≡ false
unfolding skipped
unskipped b g h =
    rw (
      lt-leb b 0x17 (omega arith),
      ne_eqb b 0x19 (λ e. omega arith),
      le-leb 0x1C b (omega arith),
      lt-leb b 0x1F (omega arith),
      ne_eqb b 0x7F (λ e. omega arith),
    )

pub skipped-silent : (b : ℕ) → skipped b ≡ true → Silent b
skipped-silent b h = record { no_digit = go (digit b) refl; no-semicolon = at (eqb b semicolon) refl }
  where
    go : (t : Bool) → digit b ≡ t → digit b ≡ false
    go true e = let k = unskipped b (omega (arith, digit-least b e)) (omega (arith, digit-top b e)) in cc
    go false e = e

    at : (t : Bool) → eqb b semicolon ≡ t → eqb b semicolon ≡ false
    at true e = let q = eqb-true b semicolon e in let k = unskipped b (omega arith) (omega arith) in cc
    at false e = e

-- every byte is a `;`, a digit or silent
pub byte-cases {ℓ} : {X : Type ℓ} (b : ℕ) → (eqb b semicolon ≡ true → X) → (digit b ≡ true → X) → (Silent b → X) → X
byte-cases {X = X} b f g h = go (eqb b semicolon) (digit b) refl refl
  where
    go : (s t : Bool) → eqb b semicolon ≡ s → digit b ≡ t → X
    go true t e d = f e
    go false true e d = g d
    go false false e d = h (record { no_digit = d; no-semicolon = e })

-- ---- from left to right

-- the numbers that follow where `n` has been read of the first
unfoldable pub numbers_from : ℕ → List ℕ → List ℕ
numbers_from n [] = held n ∷ []
numbers_from n (b ∷ bs) = cond (eqb b semicolon) (held n ∷ numbers_from 0 bs) (numbers_from (extended n b) bs)

-- the numbers of some fields, the first of which goes on from `n`
numbers : ℕ → List (List ℕ) → List ℕ
numbers n [] = held n ∷ []
numbers n (f ∷ fs) = held (decimal_from n f) ∷ map number fs

numbers-onto : (n b : ℕ) (fs : List (List ℕ)) → numbers n (onto b fs) ≡ numbers (extended n b) fs
unfolding numbers onto decimal_from
numbers-onto n b [] = refl
numbers-onto n b (f ∷ fs) = refl

-- there is always a first field
numbers-zero : (bs : List ℕ) → numbers 0 (fields bs) ≡ map number (fields bs)
unfolding numbers fields number decimal
numbers-zero [] = refl
numbers-zero (b ∷ bs) = go (eqb b semicolon) (fields bs)
  where
    go : (t : Bool) (fs : List (List ℕ)) → numbers 0 (cond t ([] ∷ fs) (onto b fs)) ≡ map number (cond t ([] ∷ fs) (onto b fs))
    go true fs = refl
    go false [] = refl
    go false (f ∷ fs) = refl

from-left : (n : ℕ) (bs : List ℕ) → numbers_from n bs ≡ numbers n (fields bs)
unfolding numbers_from numbers fields decimal_from
from-left n [] = refl
from-left n (b ∷ bs) = go (from-left 0 bs) (from-left (extended n b) bs) (eqb b semicolon)
  where
    go : numbers_from 0 bs ≡ numbers 0 (fields bs) → numbers_from (extended n b) bs ≡ numbers (extended n b) (fields bs) → (t : Bool)
        → cond t (held n ∷ numbers_from 0 bs) (numbers_from (extended n b) bs) ≡ numbers n (cond t ([] ∷ fields bs) (onto b (fields bs)))
    go next same true = ap (λ (l : List ℕ). held n ∷ l) (next ∙ numbers-zero bs)
    go next same false = same ∙ sym (numbers-onto n b (fields bs))

pub values-from-left : (places : ℕ) (bs : List ℕ) → values places bs ≡ cond (written bs) (take places (numbers_from 0 bs)) []
unfolding values
values-from-left places bs =
    ap (λ (l : List ℕ). cond (written bs) (take places l) []) (sym (from-left 0 bs ∙ numbers-zero bs))

pub written-semicolon : (b : ℕ) (bs : List ℕ) → eqb b semicolon ≡ true → written (b ∷ bs) ≡ true
unfolding written
written-semicolon b bs h = ap (λ (t : Bool). digit b || (t || written bs)) h ∙ or-true (digit b)

pub written-digit : (b : ℕ) (bs : List ℕ) → digit b ≡ true → written (b ∷ bs) ≡ true
unfolding written
written-digit b bs h = ap (λ (t : Bool). t || (eqb b semicolon || written bs)) h

pub numbers-semicolon : (n b : ℕ) (bs : List ℕ) → eqb b semicolon ≡ true → numbers_from n (b ∷ bs) ≡ held n ∷ numbers_from 0 bs
unfolding numbers_from
numbers-semicolon n b bs h = cond_yes _ _ h

pub numbers-other : (n b : ℕ) (bs : List ℕ) → eqb b semicolon ≡ false → numbers_from n (b ∷ bs) ≡ numbers_from (extended n b) bs
unfolding numbers_from
numbers-other n b bs h = cond_no _ _ h

-- ---- a byte that makes no difference

pub extended-silent : (n b : ℕ) → digit b ≡ false → extended n b ≡ n
unfolding extended
extended-silent n b h = cond_no _ _ h

pub decimal-silent : (n : ℕ) (xs : List ℕ) (b : ℕ) (ys : List ℕ) → digit b ≡ false → decimal_from n (xs ++ b ∷ ys) ≡ decimal_from n (xs ++ ys)
unfolding decimal_from
decimal-silent n [] b ys h = ap (λ (m : ℕ). decimal_from m ys) (extended-silent n b h)
decimal-silent n (x ∷ xs) b ys h = decimal-silent (extended n x) xs b ys h

pub numbers-silent : (n : ℕ) (xs : List ℕ) (b : ℕ) (ys : List ℕ) → Silent b → numbers_from n (xs ++ b ∷ ys) ≡ numbers_from n (xs ++ ys)
unfolding numbers_from
numbers-silent n [] b ys h = cond_no _ _ h.no-semicolon ∙ ap (λ (m : ℕ). numbers_from m ys) (extended-silent n b h.no_digit)
numbers-silent n (x ∷ xs) b ys h =
    ap₂ (λ (l m : List ℕ). cond (eqb x semicolon) (held n ∷ l) m) (numbers-silent 0 xs b ys h) (numbers-silent (extended n x) xs b ys h)

pub written-silent : (xs : List ℕ) (b : ℕ) (ys : List ℕ) → Silent b → written (xs ++ b ∷ ys) ≡ written (xs ++ ys)
unfolding written
written-silent [] b ys h = ap₂ (λ (s t : Bool). s || (t || written ys)) h.no_digit h.no-semicolon
written-silent (x ∷ xs) b ys h = ap (λ (t : Bool). digit x || (eqb x semicolon || t)) (written-silent xs b ys h)

-- a skipped byte anywhere in an argument changes no value
pub values-skipped : (places : ℕ) (xs : List ℕ) (b : ℕ) (ys : List ℕ) → skipped b ≡ true
    → values places (xs ++ b ∷ ys) ≡ values places (xs ++ ys)
values-skipped places xs b ys h =
    let quiet : Silent b = skipped-silent b h in
    values-from-left places (xs ++ b ∷ ys)
    ∙ ap₂ (λ (t : Bool) (l : List ℕ). cond t (take places l) []) (written-silent xs b ys quiet) (numbers-silent 0 xs b ys quiet)
    ∙ sym (values-from-left places (xs ++ ys))

-- nor a repeat's number
pub decimal-skipped : (xs : List ℕ) (b : ℕ) (ys : List ℕ) → skipped b ≡ true → decimal (xs ++ b ∷ ys) ≡ decimal (xs ++ ys)
unfolding decimal
decimal-skipped xs b ys h = decimal-silent 0 xs b ys (skipped-silent b h).no_digit

-- ---- bounds

numbers-small : (k : ℕ) (fs : List (List ℕ)) (i : ℕ) → get_or (take k (map number fs)) i 0 ≤ 2147483647
unfolding number
numbers-small zero fs i = omega arith
numbers-small (suc k) [] i = omega arith
numbers-small (suc k) (f ∷ fs) zero = omega arith
numbers-small (suc k) (f ∷ fs) (suc i) = numbers-small k fs i

-- every value fits a signed number of 32 bits
pub values-small : (places : ℕ) (bs : List ℕ) (i : ℕ) → get_or (values places bs) i 0 ≤ 2147483647
unfolding values
values-small places bs i = go (written bs)
  where
    go : (t : Bool) → get_or (cond t (take places (map number (fields bs))) []) i 0 ≤ 2147483647
    go true = numbers-small places (fields bs) i
    go false = omega arith

-- there are no more values than places
pub values-most : (places : ℕ) (bs : List ℕ) → length (values places bs) ≤ places
unfolding values
values-most places bs = go (written bs)
  where
    go : (t : Bool) → length (cond t (take places (map number (fields bs))) []) ≤ places
    go true = rw length-take (omega arith)
    go false = omega arith
