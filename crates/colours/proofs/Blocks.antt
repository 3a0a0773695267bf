-- A pass over a palette's registers, in blocks, that counts those which the frame has defined and leaves their colours and marks; blocks where
-- there is nothing to do are left out.
-- Assumes nothing.
use mathlib.Core.Path.{◌≡◌, refl, sym, ap, ◌∙◌}
use mathlib.Core.List.{List}
use mathlib.Core.Logic.{⊎_elim}
use Prim.Native.Nat.{ℕ, zero, suc, ◌+◌, ◌/◌, ◌%◌, ◌≤◌, ◌<◌}
use native.Mathlib.Nat.{add-zero, add-suc, suc-add, zero-add, eq-or-lt_of_le, not-suc-le-zero}
use native.Mathlib.Numerals.{add-one}
use native.Mathlib.Omega.{arith}
use lib.Bits.{bit_or, or_add_and, and_le_l, and_le_r}
use lib.ListN.{length, get_or, set, length-set, take, drop, length-take, length-drop}
use lib.Seq.{set-get_or, get_or-take, get_or-drop}
use Rattle.colours.specs.Palette.{of_table}
use Rattle.colours.specs.Marks.{frame_unit, is_defined, counted, lasting, Lasting, defined_count}
use Rattle.colours.proofs.Counting.{counted_none, counted-more, defined-counts}
use Rattle.colours.proofs.Filling.{Filled, filled_none, filled-as, filled_more, filled-beyond, filled-whole}

-- ---- whether there is something to do

-- the first n numbers are at most this
pub record AtMost (colors : List ℕ) (n most : ℕ) : Type 0 where
  pub each : (k : ℕ) → k < n → get_or colors k 0 ≤ most

pub most-none : (colors : List ℕ) (most : ℕ) → AtMost colors 0 most
most-none colors most = record { each = λ k h. absurd (not-suc-le-zero h) }

-- two numbers joined by `|` are at least each of them
pub most-more : {colors : List ℕ} {n most : ℕ} → AtMost colors n most → AtMost colors (n + 1) (bit_or most (get_or colors n 0))
most-more {colors} {n} {most} so_far =
    let number : ℕ = get_or colors n 0 in
    let sum = or_add_and most number in
    let left = and_le_l most number in
    let right = and_le_r most number in
    record {
      each = λ k h.
          let last : k ≤ n = omega arith in
          ⊎_elim (λ e. rw e (omega (arith, sum, left))) (λ l. let before = so_far.each k l in omega (arith, sum, right, before))
          (eq-or-lt_of_le last);
    }

-- what holds of a part holds where it stands
pub lasting_part : (t : List ℕ) (n m : ℕ) → n + m ≤ length t → Lasting (take m (drop n t)) 0 (length (take m (drop n t))) → Lasting t n m
lasting_part t n m within part k h =
    let long : length (take m (drop n t)) ≡ m = simp (length-take, length-drop) (omega arith) in
    let here : get_or (take m (drop n t)) (0 + k) 0 < frame_unit = part k (rw long h) in
    rw (zero-add, get_or-take m (drop n t) k 0 h, get_or-drop n t k 0) at here

-- ---- the pass

-- table t after the first n registers of a table of 256, with the count so far
pub record Passed (before : List ℕ) (n count : ℕ) (t : List ℕ) : Type 0 where
  pub within : n ≤ 256
  pub long : length t ≡ 256
  pub whole : length before ≡ 256
  pub few : count ≤ n
  pub counts : count ≡ counted (is_defined (of_table before)) n
  pub filled : Filled (λ i. get_or before i 0 % frame_unit) 0 n before t

pub passed_none : (t : List ℕ) → length t ≡ 256 → Passed t 0 0 t
passed_none t e =
    record { within = omega arith; long = e; whole = e; few = omega arith; counts = counted_none _; filled = filled_none 0 t }

pub passed-more : {before t : List ℕ} {n count : ℕ} → Passed before n count t → n < 256
    → Passed before (n + 1) (count + get_or t n 0 / frame_unit % 2) (set t n (get_or t n 0 % frame_unit))
passed-more {before} {t} {n} {count} p h =
    let here = filled-beyond p.filled n (omega arith) in
    let few = p.few in
    record {
      within = omega arith;
      long = simp length-set p.long;
      whole = p.whole;
      few = omega arith;
      counts = counted-more _ _ p.counts (defined-counts _ _ (omega arith) here);
      filled = filled_more p.filled (ap (λ (v : ℕ). v % frame_unit) here) (omega arith);
    }

-- each of them may be said in another way
pub passed-as : {before t t' : List ℕ} {n n' count count' : ℕ} → Passed before n count t → n ≡ n' → count' ≡ count → t' ≡ t
    → Passed before n' count' t'
passed-as p en ec et = rw (← en, ec, et) p

-- some registers more, whatever was passed before them
pub record PassedOn (n count : ℕ) (t : List ℕ) (n' count' : ℕ) (t' : List ℕ) : Type 0 where
  pub on : (before : List ℕ) → Passed before n count t → Passed before n' count' t'

pub on_none : (n count : ℕ) (t : List ℕ) → PassedOn n count t n count t
on_none n count t = record { on = λ before p. p }

pub on-more : {n count n' count' : ℕ} {t t' : List ℕ} → PassedOn n count t n' count' t' → n' < 256
    → PassedOn n count t (n' + 1) (count' + get_or t' n' 0 / frame_unit % 2) (set t' n' (get_or t' n' 0 % frame_unit))
on-more so_far h = record { on = λ before p. passed-more (so_far.on before p) h }

-- registers that have nothing above their marks are as they are to be
pub passed-idle : (m : ℕ) {before t : List ℕ} {n count : ℕ} → Passed before n count t → n + m ≤ 256 → Lasting t n m
    → Passed before (n + m) count t
passed-idle zero {n = n} p h idle = rw (add-zero n) p
passed-idle (suc m) {before} {t} {n} {count} p h idle =
    let number : ℕ = get_or t n 0 in
    let at : get_or t (n + 0) 0 ≡ number = ap (λ (i : ℕ). get_or t i 0) (add-zero n) in
    let low : number < frame_unit = rw (← at) (idle 0 (omega arith)) in
    let none : count + number / frame_unit % 2 ≡ count = omega (arith, low) in
    let same : number % frame_unit ≡ number = omega (arith, low) in
    let kept : set t n (number % frame_unit) ≡ t = ap (set t n) same ∙ set-get_or t n 0 in
    let next : Passed before (n + 1) count t = passed-as (passed-more p (omega arith)) refl (sym none) (sym kept) in
    let later : Lasting t (n + 1) m = λ k l. rw (add-one n, suc-add, ← add-suc) (idle (suc k) (omega arith)) in
    passed-as (passed-idle m next (omega arith) later) (omega arith) refl refl

-- all of them
pub passed-all : {before t : List ℕ} {n count : ℕ} → Passed before n count t → n ≡ 256
    → (count ≡ defined_count (of_table before)) × (of_table t ≡ lasting (of_table before))
unfolding of_table defined_count lasting
passed-all {n = n} p e =
    (rw (← e) p.counts, ap of_table (filled-whole (filled-as e p.filled) p.whole))
