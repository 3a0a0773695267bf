-- How far an f64 is from an exact number. Every exact number is counted in units of 1 / N, so fine that one rounding below 1,024 adds
-- less than one unit to the distance. An exact number is written as a difference u - v of two natural numbers, so that one law serves
-- both signs. Assumes nothing.
use Rattle.std.proofs.Common.{◌≡◌, ℕ, ◌+◌, ◌-◌, ◌*◌, ◌/◌, ◌%◌, ◌^◌, ◌<◌, ◌≤◌, Bool, true, false, cond, not, T, ltb, sym, ap, subst, le_trans, le_of_eq, lt_of_le_of_lt, mul-le-mul_right, mod-lt, mul_comm, div-lt_iff_lt-mul, mul-lt-mul_of_pos_right, mul-pos, div-add-mod', le_of_mul-le-mul_right, arith, lit<, lit≤, ltb→lt, nltb→le, pow_pos, pow_mono}
use Prim.Native.Nat.{compare}
use lib.Ieee.{Float, nan, inf, fin, binary64, up, down, round, neg, sum, add, sub, mul}
use lib.Ieee.Digits.{size-le}
use lib.Ieee.Exact.{HasValue, units_val}
use lib.Ieee.Fits.{nearest-le, round_is, down_pos}
use lib.Ieee.Nearest.{closest, nearest-ge}
use lib.Ieee.Order.{drop, kept}
use lib.Ieee.Scale.{grid}

-- units to 1
abbrev pub N : ℕ
N = 3_600_000_000_000

-- ±a / c is at most k units from (u - v) / N
abbrev pub Nearby : Bool → ℕ → ℕ → ℕ → ℕ → ℕ → Type 0
Nearby false a c u v k = (a * N + v * c ≤ (u + k) * c) × (u * c ≤ a * N + (v + k) * c)
Nearby true a c u v k = (a * N + u * c ≤ (v + k) * c) × (v * c ≤ a * N + (u + k) * c)

abbrev pub Near : Float → ℕ → ℕ → ℕ → Type 0
Near nan u v k = ⊥
Near (inf s) u v k = ⊥
Near (fin s m e) u v k = Nearby s (m * up e) (down e) u v k

-- ---- one rounding

-- a / u to the nearest whole number is less than one from it
closest-near : (a u : ℕ) → 0 < u → (closest a u * u ≤ a + u) × (a ≤ closest a u * u + u)
closest-near a u U =
    let o = compare (a % u * 2) u in
    let lo = mul-le-mul_right u (nearest-ge (a / u) o) in
    let hi = mul-le-mul_right u (nearest-le (a / u) o) in
    let e = div-add-mod' a u in
    let r = mod-lt a U in
    (omega (arith, lo, hi, e, r), omega (arith, lo, hi, e, r))

-- below 1,024 at most 1,031 digits are dropped
few-dropped : (a c : ℕ) → 0 < c → a < 1024 * c → drop 53 (a * 2 ^ 1074) c ≤ 1031
few-dropped a c C h = less (size-le (a * 2 ^ 1074 / c) 1084 ((div-lt_iff_lt-mul C).1 (scaled (2 ^ 1074) (pow_pos 1074))))
  where
    less : {z : ℕ} → z ≤ 1084 → z - 53 ≤ 1031
    less l = omega arith

    scaled : (p : ℕ) → 0 < p → a * p < 1024 * p * c
    scaled p P = omega (arith, mul-lt-mul_of_pos_right h P)

-- with L units to 1, a / c is rounded to g units, at most b of them off, and b of them are at most 1 / n; y / d is that number
module _ (n y d g L b a c : ℕ) (pos-L : 0 < L) (is : y * L ≡ g * d) (fine : b * n ≤ L) where
  rounded-up : g * c ≤ a * L + c * b → y * n * c ≤ a * n * d + c * d
  rounded-up h =
      let e = ap (λ (x : ℕ). x * (n * c)) is in
      let f = mul-le-mul_right (n * d) h in
      let k = mul-le-mul_right (c * d) fine in
      le_of_mul-le-mul_right (omega (arith, e, f, k)) pos-L

  rounded-down : a * L ≤ g * c + c * b → a * n * d ≤ y * n * c + c * d
  rounded-down h =
      let e = ap (λ (x : ℕ). x * (n * c)) is in
      let f = mul-le-mul_right (n * d) h in
      let k = mul-le-mul_right (c * d) fine in
      le_of_mul-le-mul_right (omega (arith, e, f, k)) pos-L

-- what one rounding to y / d adds
moved : (y d a c u v k : ℕ) → 0 < c → y * N * c ≤ a * N * d + c * d → a * N * d ≤ y * N * c + c * d → Nearby false a c u v k
    → Nearby false y d u v (k + 1)
moved y d a c u v k C hi lo h = (
  le_of_mul-le-mul_right (omega (arith, mul-le-mul_right d h.0, hi)) C,
  le_of_mul-le-mul_right (omega (arith, mul-le-mul_right d h.1, lo)) C,
)

module _ (s : Bool) (a c : ℕ) (C : 0 < c) (h : a < 1024 * c) where
  dropped : ℕ
  dropped = drop 53 (a * 2 ^ 1074) c

  units : ℕ
  units = grid binary64 a c

  unit-le : 2 ^ dropped ≤ 2 ^ 1031
  unfolding dropped
  unit-le = pow_mono (few-dropped a c C h)

  off : (units * c ≤ a * 2 ^ 1074 + c * 2 ^ 1031) × (a * 2 ^ 1074 ≤ units * c + c * 2 ^ 1031)
  unfolding units dropped
  off =
      let w = closest-near (a * 2 ^ 1074) (c * 2 ^ dropped) (mul-pos C (pow_pos dropped)) in
      off-by (2 ^ 1074) (2 ^ 1031) (2 ^ dropped) (kept 53 (a * 2 ^ 1074) c) unit-le w
    where
      off-by : (L b q k : ℕ) → q ≤ b → (k * (c * q) ≤ a * L + c * q) × (a * L ≤ k * (c * q) + c * q)
          → (k * q * c ≤ a * L + c * b) × (a * L ≤ k * q * c + c * b)
      off-by L b q k l w = (omega (arith, mul-le-mul_right c l, w.0), omega (arith, mul-le-mul_right c l, w.1))

  under : units < 2 ^ (1074 + 1024)
  under = lt_of_le_of_lt (bound (2 ^ 1074) (2 ^ 1031) off.0) (lit< tt)
    where
      bound : (L b : ℕ) → units * c ≤ a * L + c * b → units ≤ 1024 * L + b
      bound L b w = le_of_mul-le-mul_right (omega (arith, w, mul-le-mul_right L h)) C

  value : HasValue (round binary64 s a c) s units (2 ^ 1074)
  unfolding units dropped
  value =
      subst (λ (x : Float). HasValue x s units (2 ^ 1074)) (sym (round_is binary64 s a c))
      (units_val binary64 s (kept 53 (a * 2 ^ 1074) c) dropped under)

-- the distance after a rounding, from the distance before it
taken : (x : Float) (s : Bool) (g a c u v k : ℕ) → 0 < c → HasValue x s g (2 ^ 1074) → g * c ≤ a * 2 ^ 1074 + c * 2 ^ 1031
    → a * 2 ^ 1074 ≤ g * c + c * 2 ^ 1031 → Nearby s a c u v k
    → Near x u v (k + 1)
taken nan s g a c u v k C is hi lo h = absurd is
taken (inf t) s g a c u v k C is hi lo h = absurd is
taken (fin t m e) s g a c u v k C is hi lo h = subst (λ (x : Bool). Nearby x (m * up e) (down e) u v (k + 1)) (sym is.0) (go s h)
  where
    near : (u v : ℕ) → Nearby false a c u v k → Nearby false (m * up e) (down e) u v (k + 1)
    near u v h =
        moved (m * up e) (down e) a c u v k C
        (rounded-up N (m * up e) (down e) g (2 ^ 1074) (2 ^ 1031) a c (pow_pos 1074) is.1 (lit≤ tt) hi)
        (rounded-down N (m * up e) (down e) g (2 ^ 1074) (2 ^ 1031) a c (pow_pos 1074) is.1 (lit≤ tt) lo)
        h

    go : (s : Bool) → Nearby s a c u v k → Nearby s (m * up e) (down e) u v (k + 1)
    go false h = near u v h
    go true h = near v u h

round-near : (s : Bool) (a c u v k : ℕ) → 0 < c → u + v + k < 1024 * N → Nearby s a c u v k → Near (round binary64 s a c) u v (k + 1)
round-near s a c u v k C l h =
    let b : a < 1024 * c = small s h in
    taken (round binary64 s a c) s (units s a c C b) a c u v k C (value s a c C b) (off s a c C b).0 (off s a c C b).1 h
  where
    small : (s : Bool) → Nearby s a c u v k → a < 1024 * c
    small false h = omega (arith, h.0, mul-lt-mul_of_pos_right l C)
    small true h = omega (arith, h.0, mul-lt-mul_of_pos_right l C)

-- ---- a sum and a difference

-- the same fraction over a multiple of its denominator
over-more : (s : Bool) (a c d u v k : ℕ) → Nearby s a c u v k → Nearby s (a * d) (c * d) u v k
over-more false a c d u v k h = (omega (arith, mul-le-mul_right d h.0), omega (arith, mul-le-mul_right d h.1))
over-more true a c d u v k h = (omega (arith, mul-le-mul_right d h.0), omega (arith, mul-le-mul_right d h.1))

module _ (u v k u' v' k' : ℕ) (l : u + u' + (v + v') + (k + k') < 1024 * N) where
  sum_near : (s t : Bool) (a b c : ℕ) → 0 < c → Nearby s a c u v k → Nearby t b c u' v' k'
      → Near (sum binary64 s a t b c) (u + u') (v + v') (k + k' + 1)
  unfolding sum
  sum_near false false a b c C h g = round-near false (a + b) c (u + u') (v + v') (k + k') C l (omega arith)
  sum_near true true a b c C h g = round-near true (a + b) c (u + u') (v + v') (k + k') C l (omega arith)
  sum_near false true a b c C h g = go (ltb a b) (ltb→lt a b) (nltb→le a b)
    where
      go : (x : Bool) → (T x → a < b) → (T (not x) → b ≤ a)
          → Near (cond x (round binary64 true (b - a) c) (round binary64 false (a - b) c)) (u + u') (v + v') (k + k' + 1)
      go true y n = let q = y tt in round-near true (b - a) c (u + u') (v + v') (k + k') C l (omega arith)
      go false y n = let q = n tt in round-near false (a - b) c (u + u') (v + v') (k + k') C l (omega arith)
  sum_near true false a b c C h g = go (ltb a b) (ltb b a) (ltb→lt a b) (nltb→le a b) (nltb→le b a)
    where
      go : (x z : Bool) → (T x → a < b) → (T (not x) → b ≤ a) → (T (not z) → a ≤ b)
          → Near (cond x (round binary64 false (b - a) c) (round binary64 z (a - b) c)) (u + u') (v + v') (k + k' + 1)
      go true z y n m = let q = y tt in round-near false (b - a) c (u + u') (v + v') (k + k') C l (omega arith)
      go false true y n m = let q = n tt in round-near true (a - b) c (u + u') (v + v') (k + k') C l (omega arith)
      go false false y n m = let q = n tt in let r = m tt in round-near false (a - b) c (u + u') (v + v') (k + k') C l (omega arith)

  pub add-near : (x y : Float) → Near x u v k → Near y u' v' k' → Near (add binary64 x y) (u + u') (v + v') (k + k' + 1)
  unfolding add
  add-near nan y h g = absurd h
  add-near (inf s) y h g = absurd h
  add-near (fin s m e) nan h g = absurd g
  add-near (fin s m e) (inf t) h g = absurd g
  add-near (fin s m e) (fin t n d) h g =
      sum_near s t (m * up e * down d) (n * up d * down e) (down e * down d) (mul-pos (down_pos e) (down_pos d))
      (over-more s (m * up e) (down e) (down d) u v k h)
      (subst (λ (c : ℕ). Nearby t (n * up d * down e) c u' v' k') (mul_comm (down d) (down e))
      (over-more t (n * up d) (down d) (down e) u' v' k' g))

neg-near : (x : Float) (u v k : ℕ) → Near x u v k → Near (neg x) v u k
unfolding neg
neg-near nan u v k h = absurd h
neg-near (inf s) u v k h = absurd h
neg-near (fin true m e) u v k h = h
neg-near (fin false m e) u v k h = h

pub sub-near : (x y : Float) (u v k u' v' k' : ℕ) → u + v' + (v + u') + (k + k') < 1024 * N → Near x u v k → Near y u' v' k'
    → Near (sub binary64 x y) (u + v') (v + u') (k + k' + 1)
unfolding sub
sub-near x y u v k u' v' k' l h g = add-near u v k v' u' k' l x (neg y) h (neg-near y u' v' k' g)

-- ---- a product with a number that is not negative

-- y is not negative, and at most j units from w
abbrev pub Above : Float → ℕ → ℕ → Type 0
Above nan w j = ⊥
Above (inf s) w j = ⊥
Above (fin true m e) w j = ⊥
Above (fin false m e) w j = Nearby false (m * up e) (down e) w 0 j

-- what a product is off by, before the division by n that brings it to units again
abbrev pub slack : ℕ → ℕ → ℕ → ℕ → ℕ → ℕ
slack u v k w j = (u + v) * j + k * w + k * j

module _ (u v k w j c d a b : ℕ) (hi : b ≤ (w + j) * d) (lo : w * d ≤ b + j * d) where
  product-up : a + v * c ≤ (u + k) * c → a * b + v * w * (c * d) ≤ (u * w + slack u v k w j) * (c * d)
  product-up h =
      let p = mul-le-mul_right b h in
      let q = mul-le-mul_right ((u + k) * c) hi in
      let r = mul-le-mul_right (v * c) lo in
      omega (arith, p, q, r)

  product-down : u * c ≤ a + (v + k) * c → u * w * (c * d) ≤ a * b + (v * w + slack u v k w j) * (c * d)
  product-down h =
      let p = mul-le-mul_right b h in
      let q = mul-le-mul_right ((v + k) * c) hi in
      let r = mul-le-mul_right (u * c) lo in
      omega (arith, p, q, r)

-- the division by n
module _ (n a b z z' g f X Y E : ℕ) (n_pos : 0 < n) (is : z * n ≡ X) (is' : z' * n ≡ Y) (l : E ≤ g * n) where
  divided-up : a * n * (b * n) + Y * f ≤ (X + E) * f → a * b * n + z' * f ≤ (z + g) * f
  divided-up h =
      let e = ap (λ (x : ℕ). x * f) is in
      let e' = ap (λ (x : ℕ). x * f) is' in
      le_of_mul-le-mul_right (omega (arith, mul-le-mul_right f l, h)) n_pos

  divided-down : X * f ≤ a * n * (b * n) + (Y + E) * f → z * f ≤ a * b * n + (z' + g) * f
  divided-down h =
      let e = ap (λ (x : ℕ). x * f) is in
      let e' = ap (λ (x : ℕ). x * f) is' in
      le_of_mul-le-mul_right (omega (arith, mul-le-mul_right f l, h)) n_pos

times : (u v k w j z z' g a c b d : ℕ) → z * N ≡ u * w → z' * N ≡ v * w → slack u v k w j ≤ g * N
    → Nearby false b d w 0 j → Nearby false a c u v k
    → Nearby false (a * b) (c * d) z z' g
times u v k w j z z' g a c b d is is' l r h =
    let hi : b * N ≤ (w + j) * d = omega (arith, r.0) in
    let lo : w * d ≤ b * N + j * d = omega (arith, r.1) in (
      divided-up N a b z z' g (c * d) (u * w) (v * w) (slack u v k w j) (lit< tt) is is' l
          (product-up u v k w j c d (a * N) (b * N) hi lo h.0),
      divided-down N a b z z' g (c * d) (u * w) (v * w) (slack u v k w j) (lit< tt) is is' l
          (product-down u v k w j c d (a * N) (b * N) hi lo h.1),
    )

pub mul-near :
    (x y : Float) (u v k w j z z' g : ℕ) → z * N ≡ u * w → z' * N ≡ v * w → slack u v k w j ≤ g * N → z + z' + g < 1024 * N
    → Near x u v k → Above y w j → Near (mul binary64 x y) z z' (g + 1)
unfolding mul
mul-near nan y u v k w j z z' g is is' l b h r = absurd h
mul-near (inf s) y u v k w j z z' g is is' l b h r = absurd h
mul-near (fin s m e) nan u v k w j z z' g is is' l b h r = absurd r
mul-near (fin s m e) (inf t) u v k w j z z' g is is' l b h r = absurd r
mul-near (fin s m e) (fin true n d) u v k w j z z' g is is' l b h r = absurd r
mul-near (fin false m e) (fin false n d) u v k w j z z' g is is' l b h r =
    round-near false (m * up e * (n * up d)) (down e * down d) z z' g (mul-pos (down_pos e) (down_pos d)) b
    (times u v k w j z z' g (m * up e) (down e) (n * up d) (down d) is is' l r h)
mul-near (fin true m e) (fin false n d) u v k w j z z' g is is' l b h r =
    round-near true (m * up e * (n * up d)) (down e * down d) z z' g (mul-pos (down_pos e) (down_pos d)) b
    (times v u k w j z' z g (m * up e) (down e) (n * up d) (down d) is' is (le_trans (le_of_eq swap) l) r h)
  where
    swap : (v + u) * j + k * w + k * j ≡ (u + v) * j + k * w + k * j
    swap = omega arith

-- ---- a looser distance, and the exact number as one

pub settle : (x : Float) (u v k w g : ℕ) → u ≡ w + v → k ≤ g → Near x u v k → Near x w 0 g
settle nan u v k w g e l h = h
settle (inf s) u v k w g e l h = h
settle (fin false m d) u v k w g e l h =
    let f = ap (λ (x : ℕ). x * down d) e in
    let o = mul-le-mul_right (down d) l in
    (omega (arith, h.0, f, o), omega (arith, h.1, f, o))
settle (fin true m d) u v k w g e l h =
    let f = ap (λ (x : ℕ). x * down d) e in
    let o = mul-le-mul_right (down d) l in
    (omega (arith, h.0, f, o), omega (arith, h.1, f, o))

pub above-near : (y : Float) (w j : ℕ) → Above y w j → Near y w 0 j
above-near nan w j h = h
above-near (inf s) w j h = h
above-near (fin true m e) w j h = absurd h
above-near (fin false m e) w j h = h
