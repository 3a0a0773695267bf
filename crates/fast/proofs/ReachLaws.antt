-- Laws of the extent after a run: a run that lies inside it keeps it; else its right is found at the last sixel with ink, and its bottom by the
-- largest bits, since a larger number of six bits is no less deep. A run in two parts is one run.
use Prim.Native.Nat.{ℕ, zero, suc, ◌+◌, ◌-◌, ◌≤◌, ◌<◌, max}
use mathlib.Core.Bool.{false, cond}
use mathlib.Core.List.{List}
use mathlib.Core.Path.{◌≡◌, refl, sym, ap, ap₂, ◌∙◌}
use native.Mathlib.Nat.{add-zero, add-suc, not-suc-le-zero}
use native.Mathlib.Numerals.{add-one}
use native.Mathlib.Omega.{arith}
use borrow.Author.Tests.{eq-eqb, ne_eqb, eqb-true, eqb-false}
use lib.Dec.{eqb}
use lib.ListN.{get_or, take, drop}
use Rattle.std.proofs.lemmas.List.{get_or-take, get_or-drop}
use Rattle.canvas.specs.Picture.{depth}
use Rattle.canvas.proofs.Covers.{by-test}
use Rattle.canvas.proofs.Depth.{depth-most, depth-larger}
use Rattle.frame.specs.declared.Extent.{Extent}
use Rattle.reference.specs.Step.{painted_to, right_after, bottom_after}
use Rattle.reference.proofs.StepLaws.{sixel-bits, sixel-least, to-nowhere, to_end, to-most}
use Rattle.fast.specs.Run.{Sixels, run_right, run_bottom, run_extent, inked_length, largest_bits}

-- ---- parts of a run

pub sixels-fewer : (bytes : List ℕ) (i n : ℕ) → Sixels bytes i (i + suc n) → Sixels bytes i (i + n)
sixels-fewer bytes i n s = record { within = omega (arith, s.within); each = λ k h₁ h₂. s.each k h₁ (omega arith) }

pub sixels-first : (bytes : List ℕ) (i m n : ℕ) → m ≤ n → Sixels bytes i (i + n) → Sixels bytes i (i + m)
sixels-first bytes i m n h s = record { within = omega (arith, s.within); each = λ k h₁ h₂. s.each k h₁ (omega arith) }

pub sixels-rest : (bytes : List ℕ) (i m n : ℕ) → m ≤ n → Sixels bytes i (i + n) → Sixels bytes (i + m) (i + m + (n - m))
sixels-rest bytes i m n h s = record { within = omega (arith, s.within); each = λ k h₁ h₂. s.each k (omega arith) (omega arith) }

last-bits : (bytes : List ℕ) (i n : ℕ) → Sixels bytes i (i + suc n) → get_or bytes (i + n) 0 - 63 < 64
last-bits bytes i n s = sixel-bits _ (s.each (i + n) (omega arith) (omega arith))

-- ---- the right

-- the last sixel with ink stands in the run
pub inked-most : (bytes : List ℕ) (i n : ℕ) → inked_length bytes i n ≤ n
unfolding inked_length
inked-most bytes i zero = omega arith
inked-most bytes i (suc n) =
    by-test (eqb (get_or bytes (i + n) 0) 63) (λ t. rw t (omega (arith, inked-most bytes i n))) (λ t. rw t (omega arith))

-- past so many sixels it lies between the old one and their end
past-between : (right column inked : ℕ) → (right ≤ cond (eqb inked 0) right (max right (column + inked)))
    × (cond (eqb inked 0) right (max right (column + inked)) ≤ max right (column + inked))
past-between right column inked = by-test (eqb inked 0) (λ t. rw t (omega arith, omega arith)) (λ t. rw t (omega arith, omega arith))

-- it is found at the last sixel with ink, where there is one
pub right-found : (right column : ℕ) (bytes : List ℕ) (i n : ℕ) → Sixels bytes i (i + n)
    → cond (eqb (inked_length bytes i n) 0) right (max right (column + inked_length bytes i n)) ≡ run_right right column bytes i n
unfolding run_right right_after inked_length
right-found right column bytes i zero s = refl
right-found right column bytes i (suc n) s =
    let b : ℕ = get_or bytes (i + n) 0 in
    let least : 63 ≤ b = sixel-least _ refl (s.each (i + n) (omega arith) (omega arith)) in
    let before = right-found right column bytes i n (sixels-fewer bytes i n s) in
    by-test (eqb b 63)
    (λ t. let none = to-nowhere (b - 63) (column + n + 1) (last-bits bytes i n s) (omega (arith, eqb-true b 63 t)) in
    rw t (omega arith))
    (λ t. let some = to_end (b - 63) (column + n + 1) (last-bits bytes i n s) (λ (e : b - 63 ≡ 0). eqb-false b 63 t (omega arith)) in
    let between = past-between right column (inked_length bytes i n) in
    let long : eqb (suc n) 0 ≡ false = ne_eqb (suc n) 0 (λ (e : suc n ≡ 0). omega arith) in
    rw (t, long) (omega (arith, inked-most bytes i n)))

-- ---- the last sixel with ink, among the run's own bytes

-- a byte of the run, where it stands among all
pub part-at : (bytes : List ℕ) (i n k : ℕ) → k < n → get_or (take (i + n - i) (drop i bytes)) k 0 ≡ get_or bytes (i + k) 0
part-at bytes i n k h = get_or-take (i + n - i) (drop i bytes) k 0 (omega arith) ∙ get_or-drop i bytes k 0

-- all after it are blank
inked-at : (bytes : List ℕ) (i n last : ℕ) → last < n → (get_or bytes (i + last) 0 ≡ 63 → ⊥)
    → ((k : ℕ) → last + 1 ≤ k → k < n → get_or bytes (i + k) 0 ≡ 63) → last + 1 ≡ inked_length bytes i n
unfolding inked_length
inked-at bytes i zero last h ink after = absurd (not-suc-le-zero h)
inked-at bytes i (suc n) last h ink after =
    by-test (eqb last n)
    (λ t. let e : last ≡ n = eqb-true last n t in
    rw (ne_eqb (get_or bytes (i + n) 0) 63 (λ (b : get_or bytes (i + n) 0 ≡ 63). ink (rw e b))) (omega arith))
    (λ t. let less : last < n = omega (arith, eqb-false last n t) in
    rw (eq-eqb (get_or bytes (i + n) 0) 63 (after n (omega (arith, less)) (omega arith)))
    (inked-at bytes i n last less ink (λ k h₁ h₂. after k h₁ (omega arith))))

-- or all are
inked-blank : (bytes : List ℕ) (i n : ℕ) → ((k : ℕ) → k < n → get_or bytes (i + k) 0 ≡ 63) → 0 ≡ inked_length bytes i n
unfolding inked_length
inked-blank bytes i zero all = refl
inked-blank bytes i (suc n) all =
    rw (eq-eqb (get_or bytes (i + n) 0) 63 (all n (omega arith))) (inked-blank bytes i n (λ k h. all k (omega arith)))

pub inked-last : (bytes : List ℕ) (i n last : ℕ) → last < n → (get_or (take (i + n - i) (drop i bytes)) last 0 ≡ 63 → ⊥)
    → ((k : ℕ) → last + 1 ≤ k → k < n → get_or (take (i + n - i) (drop i bytes)) k 0 ≡ 63) → last + 1 ≡ inked_length bytes i n
inked-last bytes i n last h ink after =
    inked-at bytes i n last h (λ e. ink (part-at bytes i n last h ∙ e)) (λ k h₁ h₂. sym (part-at bytes i n k h₂) ∙ after k h₁ h₂)

pub inked-none : (bytes : List ℕ) (i n : ℕ) → ((k : ℕ) → k < n → get_or (take (i + n - i) (drop i bytes)) k 0 ≡ 63) → 0 ≡ inked_length bytes i n
inked-none bytes i n all = inked-blank bytes i n (λ k h. sym (part-at bytes i n k h) ∙ all k h)

-- ---- the bottom

-- of no bits
bottom-none : (bottom row : ℕ) → bottom_after bottom 0 row ≡ bottom
unfolding bottom_after painted_to depth
bottom-none bottom row = omega arith

-- of two depths the larger tells as much as both
larger-depth : (bottom row d e : ℕ)
    → max bottom (cond (eqb (max d e) 0) 0 (row + max d e)) ≡ max (max bottom (cond (eqb d 0) 0 (row + d))) (cond (eqb e 0) 0 (row + e))
larger-depth bottom row d e =
    by-test (eqb d 0)
    (λ t. let dry : d ≡ 0 = eqb-true d 0 t in
    let all : max d e ≡ e = omega arith in
    rw (t, all) (omega arith))
    (λ t. let some : eqb (max d e) 0 ≡ false = ne_eqb (max d e) 0 (λ (z : max d e ≡ 0). eqb-false d 0 t (omega arith)) in
    by-test (eqb e 0)
    (λ u. let none : e ≡ 0 = eqb-true e 0 u in rw (t, u, some) (omega arith))
    (λ u. rw (t, u, some) (omega arith)))

-- so of two sixels the larger bits do
bottom-both : (bottom row a b : ℕ) → a < 64 → b < 64 → bottom_after bottom (max a b) row ≡ bottom_after (bottom_after bottom a row) b row
unfolding bottom_after painted_to
bottom-both bottom row a b h k = rw (depth-larger a b h k) (larger-depth bottom row (depth 6 a) (depth 6 b))

-- the largest bits are six
pub largest-six : (bytes : List ℕ) (i n : ℕ) → Sixels bytes i (i + n) → largest_bits bytes i n < 64
unfolding largest_bits
largest-six bytes i zero s = omega arith
largest-six bytes i (suc n) s = omega (arith, largest-six bytes i n (sixels-fewer bytes i n s), last-bits bytes i n s)

-- and tell it
pub bottom-largest : (bottom row : ℕ) (bytes : List ℕ) (i n : ℕ) → Sixels bytes i (i + n)
    → bottom_after bottom (largest_bits bytes i n) row ≡ run_bottom bottom row bytes i n
unfolding run_bottom largest_bits
bottom-largest bottom row bytes i zero s = bottom-none bottom row
bottom-largest bottom row bytes i (suc n) s =
    let before = sixels-fewer bytes i n s in
    bottom-both bottom row (largest_bits bytes i n) (get_or bytes (i + n) 0 - 63) (largest-six bytes i n before) (last-bits bytes i n s)
    ∙ ap (λ (x : ℕ). bottom_after x (get_or bytes (i + n) 0 - 63) row) (bottom-largest bottom row bytes i n before)

-- one sixel more
pub largest-more : {m r : ℕ} (bytes : List ℕ) (i n : ℕ) → 63 ≤ get_or bytes (i + n) 0 → m ≡ 63 + largest_bits bytes i n
    → r ≡ max m (get_or bytes (i + n) 0) → r ≡ 63 + largest_bits bytes i (n + 1)
unfolding largest_bits
largest-more bytes i n least e k = rw (add-one n) (omega arith)

pub largest-none : (bytes : List ℕ) (i : ℕ) → 63 ≡ 63 + largest_bits bytes i 0
unfolding largest_bits
largest-none bytes i = refl

-- ---- both

both-sides : {r r' b b' : ℕ} → r ≡ r' → b ≡ b' → ◌≡◌ {A = Extent} (record { right = r; bottom = b }) (record { right = r'; bottom = b' })
both-sides e k = ap₂ (λ (x y : ℕ). record { right = x; bottom = y }) e k

module _ (e : Extent) (column row : ℕ) (bytes : List ℕ) (i : ℕ) where
  -- a run that lies inside it keeps it
  pub extent-inside : (n : ℕ) → row + 6 ≤ e.bottom → column + n ≤ e.right → e ≡ run_extent e column row bytes i n
  unfolding run_extent run_right run_bottom right_after bottom_after
  extent-inside zero rows columns = refl
  extent-inside (suc n) rows columns =
      let before : e ≡ run_extent e column row bytes i n = extent-inside n rows (omega arith) in
      let bits : ℕ = get_or bytes (i + n) 0 - 63 in
      let wide = to-most bits (column + n + 1) in
      let low = to-most bits (row + depth 6 bits) in
      let deep = depth-most 6 bits in
      both-sides (omega (arith, ap (λ (x : Extent). x.right) before)) (omega (arith, ap (λ (x : Extent). x.bottom) before))

  pub extent-found : {right bottom inked bits : ℕ} (n : ℕ) → Sixels bytes i (i + n) → inked ≡ inked_length bytes i n
      → right ≡ cond (eqb inked 0) e.right (max e.right (column + inked)) → bits ≡ largest_bits bytes i n
      → bottom ≡ bottom_after e.bottom bits row → ◌≡◌ {A = Extent} (record { right = right; bottom = bottom }) (run_extent e column row bytes i n)
  unfolding run_extent
  extent-found n s told x largest y =
      both-sides
      (x ∙ ap (λ (k : ℕ). cond (eqb k 0) e.right (max e.right (column + k))) told ∙ right-found e.right column bytes i n s)
      (y ∙ ap (λ (k : ℕ). bottom_after e.bottom k row) largest ∙ bottom-largest e.bottom row bytes i n s)

  -- a run goes on from where its first part led
  parts-joined : (m n : ℕ) → run_extent (run_extent e column row bytes i m) (column + m) row bytes (i + m) n ≡ run_extent e column row bytes i (m + n)
  unfolding run_extent run_right run_bottom
  parts-joined m zero = rw (add-zero m)
  parts-joined m (suc n) =
      let there : i + m + n ≡ i + (m + n) = omega arith in
      let end : column + m + n + 1 ≡ column + (m + n) + 1 = omega arith in
      let before = parts-joined m n in
      rw (add-suc m n, there, end, ap (λ (x : Extent). x.right) before, ap (λ (x : Extent). x.bottom) before)

  pub extent-parts : {first whole : Extent} (m n : ℕ) → m ≤ n → first ≡ run_extent e column row bytes i m
      → whole ≡ run_extent first (column + m) row bytes (i + m) (n - m) → whole ≡ run_extent e column row bytes i n
  extent-parts m n h part rest =
      let all : m + (n - m) ≡ n = omega arith in
      rest ∙ ap (λ (x : Extent). run_extent x (column + m) row bytes (i + m) (n - m)) part
      ∙ parts-joined m (n - m)
      ∙ ap (run_extent e column row bytes i) all

-- ---- the right past so many sixels

pub past-none : (right column inked : ℕ) → inked ≡ 0 → right ≡ cond (eqb inked 0) right (max right (column + inked))
past-none right column inked e = rw (eq-eqb inked 0 e)

pub past-some : {r : ℕ} (right column inked : ℕ) → (inked ≡ 0 → ⊥) → r ≡ max right (column + inked)
    → r ≡ cond (eqb inked 0) right (max right (column + inked))
past-some right column inked n e = rw (ne_eqb inked 0 n) e

pub ruleset pasts = (past-none, past-some)
