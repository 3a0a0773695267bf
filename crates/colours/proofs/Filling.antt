-- A loop that fills a table by a function of the place, one store a turn, from some place on.
-- Assumes nothing.
use mathlib.Core.Path.{◌≡◌, refl, ap, ◌∙◌}
use mathlib.Core.Logic.{◌≢◌}
use mathlib.Core.List.{List, [], ◌∷◌, append-nil}
use Prim.Native.Nat.{ℕ, zero, suc, ◌+◌, ◌≤◌}
use native.Mathlib.Nat.{add-zero, add-suc, suc-add, zero-add}
use native.Mathlib.Numerals.{add-one}
use native.Mathlib.Omega.{arith}
use lib.ListN.{length, get_or, set, drop_of_length-le}
use lib.Seq.{sets, sets-eq, get_or-set_other}
use Rattle.colours.specs.Standard.{listed}

-- table t after n turns: as it was before, with the first n values of f from place `first` on
pub record Filled (f : ℕ → ℕ) (first n : ℕ) (before t : List ℕ) : Type 0 where
  pub so_far : t ≡ sets before first (listed f 0 n)

pub length-listed : (f : ℕ → ℕ) (i n : ℕ) → length (listed f i n) ≡ n
unfolding listed
length-listed f i zero = refl
length-listed f i (suc n) = ap suc (length-listed f (suc i) n)

-- one value more, of those from any place j on
one_more : (f : ℕ → ℕ) (l : List ℕ) (i j n : ℕ) → set (sets l i (listed f j n)) (i + n) (f (j + n)) ≡ sets l i (listed f j (suc n))
unfolding listed
one_more f l i j zero = rw (add-zero i, add-zero j)
one_more f l i j (suc n) = rw (add-suc i n, add-suc j n, ← suc-add i n, ← suc-add j n) (one_more f (set l i (f j)) (suc i) (suc j) n)

-- what stands beyond the values that are set stays
beyond-sets : (vs l : List ℕ) (i k : ℕ) → i + length vs ≤ k → get_or (sets l i vs) k 0 ≡ get_or l k 0
beyond-sets [] l i k h = refl
beyond-sets (v ∷ vs) l i k h =
    let apart : k ≢ i = λ e. omega arith in
    beyond-sets vs (set l i v) (suc i) k (omega arith) ∙ get_or-set_other l i k v 0 apart

module _ {f : ℕ → ℕ} where
  pub filled_none : (first : ℕ) (t : List ℕ) → Filled f first 0 t t
  unfolding listed
  filled_none first t = record { so_far = refl }

  -- the count may be said in another way
  pub filled-as : {first m n : ℕ} {before t : List ℕ} → m ≡ n → Filled f first m before t → Filled f first n before t
  filled-as e filled = record { so_far = rw (← e) filled.so_far }

  -- a turn stores the value of its place
  pub filled_more : {first n v place : ℕ} {before t : List ℕ} → Filled f first n before t → v ≡ f n → place ≡ first + n
      → Filled f first (n + 1) before (set t place v)
  filled_more {first} {n} {before = before} filled e at =
      let here : f (0 + n) ≡ f n = ap f (zero-add n) in
      record { so_far = rw (filled.so_far, e, at, ← here, add-one) (one_more f before first 0 n) }

  -- the places that its turns have not come to are as they were
  pub filled-beyond : {first n : ℕ} {before t : List ℕ} → Filled f first n before t → (k : ℕ) → first + n ≤ k → get_or t k 0 ≡ get_or before k 0
  filled-beyond {first} {n} {before} filled k h =
      rw filled.so_far (beyond-sets (listed f 0 n) before first k (rw (length-listed f 0 n) h))

  -- as many turns as there are places leave nothing of what was before
  pub filled-whole : {n : ℕ} {before t : List ℕ} → Filled f 0 n before t → length before ≡ n → t ≡ listed f 0 n
  filled-whole {n} {before} filled e =
      let long : 0 + length (listed f 0 n) ≡ n = zero-add _ ∙ length-listed f 0 n in
      filled.so_far ∙ sets-eq (listed f 0 n) before 0 (omega arith) ∙ rw (long, drop_of_length-le before {i = n} (omega arith), append-nil)

-- a list is its own values by the place
shifted : (f : ℕ → ℕ) (i n : ℕ) → listed f (suc i) n ≡ listed (λ k. f (suc k)) i n
unfolding listed
shifted f i zero = refl
shifted f i (suc n) = ap (λ (t : List ℕ). f (suc i) ∷ t) (shifted f (suc i) n)

pub listed_back : (l : List ℕ) → listed (λ k. get_or l k 0) 0 (length l) ≡ l
unfolding listed
listed_back [] = refl
listed_back (x ∷ l) = ap (λ (t : List ℕ). x ∷ t) (shifted (λ k. get_or (x ∷ l) k 0) 0 (length l) ∙ listed_back l)
