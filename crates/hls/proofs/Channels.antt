-- From lightness and saturation to a channel, with the distance from the exact one: P and Q count 360,000,000 units, C 6,000,000.
-- Assumes nothing.
use Rattle.std.proofs.Common.{◌≡◌, ℕ, ◌+◌, ◌-◌, ◌*◌, ◌<◌, ◌≤◌, Bool, true, false, not, ◌&&◌, ◌||◌, T, eqb, ltb, leb, ◌⊎◌, sym, ap, ◌∙◌, subst, inl, inr, le_refl, mul-le-mul_right, mul-le-mul_left, arith, lit≤, eqb→eq, ltb→lt, leb→le, nltb→le, le-ltb, lt-ltb}
use lib.Ieee.{Float}
use lib.Ieee.Fits.{and_l, and_r}
use Rattle.hls.specs.Hls.{pick, add, sub, mul, div, f1, f2, f3, f6, upper_by, channel}
use Rattle.hls.specs.Exact.{exact_q, exact_c}
use Rattle.hls.proofs.Near.{N, Near, Above, add-near, sub-near, mul-near, settle, above-near}
use Rattle.hls.proofs.Sweep.{stands, place-stands, above_of}

-- ---- the exact ends

spread : (p q n : ℕ) → p ≤ q → (q - p) * n + p * n ≡ q * n
spread p q n l = go (q - p) (omega arith)
  where
    go : (d : ℕ) → d + p ≡ q → d * n + p * n ≡ q * n
    go d e = omega (arith, ap (λ (x : ℕ). x * n) e)

pub record Ends (l q : ℕ) : Type 0 where
  pub low : 100 * l ≤ q
  pub high : q ≤ 200 * l
  pub top : q ≤ 10000

pub ends : (l s : ℕ) → l ≤ 100 → s ≤ 100 → Ends l (exact_q l s)
unfolding exact_q
ends l s hl hs = go (ltb l 50) (ltb→lt l 50) (nltb→le l 50)
  where
    go : (b : Bool) → (T b → l < 50) → (T (not b) → 50 ≤ l) → Ends l (pick b (l * (100 + s)) (100 * l + 100 * s - l * s))
    go true y n =
        let k = y tt in
        let m = mul-le-mul_left l hs in
        record { low = omega arith; high = omega arith; top = omega arith }
    go false y n =
        let k = mul-le-mul_right s (n tt) in
        let m = mul-le-mul_right s hl in
        let d = mul-le-mul_left (100 - l) hs in
        let e = spread l 100 s hl in
        record { low = omega arith; high = omega (arith, n tt); top = omega arith }

-- ---- P and Q

six : Above f6 (6 * N) 0
six = (lit≤ tt, lit≤ tt)

two : Near f2 (2 * N) 0 0
two = (lit≤ tt, lit≤ tt)

module _ (l s : ℕ) (hl : l ≤ 100) (hs : s ≤ 100) (lum sat : Float)
    (lum-is : Above lum (36_000_000_000 * l) 1)
    (sat-is : Above sat (36_000_000_000 * s) 1)
    (more-is : Above (add f1 sat) (N + 36_000_000_000 * s) 1) where
  pub upper-near : (b : Bool) → (T b → l < 50)
      → Near (upper_by b lum sat) (360_000_000 * pick b (l * (100 + s)) (100 * l + 100 * s - l * s)) 0 8
  unfolding upper_by
  upper-near true y =
      let k = y tt in
      let m = mul-le-mul_left l hs in
      mul-near lum (add f1 sat) (36_000_000_000 * l) 0 1 (N + 36_000_000_000 * s) 1 (360_000_000 * (l * (100 + s))) 0 7
      (omega arith) (omega arith) (omega arith) (omega arith) (above-near lum (36_000_000_000 * l) 1 lum-is) more-is
  upper-near false y =
      let lum-near = above-near lum (36_000_000_000 * l) 1 lum-is in
      let sat-near = above-near sat (36_000_000_000 * s) 1 sat-is in
      let m = mul-le-mul_right s hl in
      let both = add-near (36_000_000_000 * l) 0 1 (36_000_000_000 * s) 0 1 (omega arith) lum sat lum-near sat-near in
      let product =
      mul-near lum sat (36_000_000_000 * l) 0 1 (36_000_000_000 * s) 1 (360_000_000 * (l * s)) 0 3
      (omega arith) (omega arith) (omega arith) (omega arith) lum-near sat-is in
      settle (sub (add lum sat) (mul lum sat))
      (36_000_000_000 * l + 36_000_000_000 * s + 0) (0 + 0 + 360_000_000 * (l * s)) 8
      (360_000_000 * (100 * l + 100 * s - l * s)) 8
      (omega arith) (le_refl 8)
      (sub-near (add lum sat) (mul lum sat) (36_000_000_000 * l + 36_000_000_000 * s) (0 + 0) 3 (360_000_000 * (l * s)) 0 4
      (omega arith) both product)

  pub lower-near : (q : Float) (n : ℕ) → n ≤ 200 * l → Near q (360_000_000 * n) 0 8
      → Near (sub (mul f2 lum) q) (360_000_000 * (200 * l - n)) 0 12
  lower-near q n h near =
      let twice =
      mul-near f2 lum (2 * N) 0 0 (36_000_000_000 * l) 1 (72_000_000_000 * l) 0 2
      (omega arith) (omega arith) (omega arith) (omega arith) two lum-is in
      settle (sub (mul f2 lum) q) (72_000_000_000 * l + 0) (0 + 360_000_000 * n) 12 (360_000_000 * (200 * l - n)) 12
      (omega arith) (le_refl 12)
      (sub-near (mul f2 lum) q (72_000_000_000 * l) 0 3 (360_000_000 * n) 0 8 (omega arith) twice near)

-- ---- C, by the place of T

module _ (P Q n : ℕ) where
  exact-rising : n < 60 → exact_c P Q n ≡ 60 * P + (Q - P) * n
  unfolding exact_c
  exact-rising h = rw (lt-ltb n 60 h)

  exact-full : 60 ≤ n → n < 180 → exact_c P Q n ≡ 60 * Q
  unfolding exact_c
  exact-full l h = rw (le-ltb n 60 l, lt-ltb n 180 h)

  exact-falling : 180 ≤ n → n < 240 → exact_c P Q n ≡ 60 * P + (Q - P) * (240 - n)
  unfolding exact_c
  exact-falling l h = let k : 60 ≤ n = omega arith in rw (le-ltb n 60 k, le-ltb n 180 l, lt-ltb n 240 h)

  -- red stands at 1.0 where T is 0: the last place, and as C the first
  exact_none : (240 ≤ n) ⊎ (n ≡ 0) → exact_c P Q n ≡ 60 * P
  exact_none (inl l) =
      let k : 60 ≤ n = omega arith in
      let m : 180 ≤ n = omega arith in
      unfold exact_c in rw (le-ltb n 60 k, le-ltb n 180 m, le-ltb n 240 l)
  exact_none (inr e) = exact-rising (omega arith) ∙ rw e (omega arith)

either : (n : ℕ) → T (leb 240 n || eqb n 0) → (240 ≤ n) ⊎ (n ≡ 0)
either n t = go (leb 240 n) (leb→le 240 n) t
  where
    go : (b : Bool) → (T b → 240 ≤ n) → T (b || eqb n 0) → (240 ≤ n) ⊎ (n ≡ 0)
    go true y t = inl (y tt)
    go false y t = inr (eqb→eq n 0 t)

-- ---- a channel

-- x is near C, which is in its range
pub record Channel (x : Float) (c : ℕ) : Type 0 where
  pub near : Near x (6_000_000 * c) 0 200
  pub top : c ≤ 600_000

module _ (P Q : ℕ) (le : P ≤ Q) (top : Q ≤ 10000) (p q : Float)
    (p-near : Near p (360_000_000 * P) 0 12) (q-near : Near q (360_000_000 * Q) 0 8) where
  at_p : Channel p (60 * P)
  at_p = record { near = settle p (360_000_000 * P) 0 12 (6_000_000 * (60 * P)) 200 (omega arith) (lit≤ tt) p-near; top = omega arith }

  at-q : Channel q (60 * Q)
  at-q = record { near = settle q (360_000_000 * Q) 0 8 (6_000_000 * (60 * Q)) 200 (omega arith) (lit≤ tt) q-near; top = omega arith }

  apart : Near (sub q p) (360_000_000 * Q + 0) (0 + 360_000_000 * P) 21
  apart = sub-near q p (360_000_000 * Q) 0 8 (360_000_000 * P) 0 12 (omega arith) q-near p-near

  -- p and a part of the way to q
  on-the-way : (x : Float) (n k : ℕ) → n ≤ 60 → k ≤ 151 → Near x (6_000_000 * (Q * n)) (6_000_000 * (P * n)) k
      → Channel (add p x) (60 * P + (Q - P) * n)
  on-the-way x n k hn hk near =
      let e = spread P Q n le in
      let a = mul-le-mul_right n top in
      let b = mul-le-mul_left (Q - P) hn in
      record {
        near =
            settle (add p x) (360_000_000 * P + 6_000_000 * (Q * n)) (0 + 6_000_000 * (P * n)) (12 + k + 1)
            (6_000_000 * (60 * P + (Q - P) * n)) 200 (omega arith) (omega arith)
            (add-near (360_000_000 * P) 0 12 (6_000_000 * (Q * n)) (6_000_000 * (P * n)) k (omega arith) p x p-near near);
        top = omega arith;
      }

  rising : (t : Float) (n : ℕ) → n ≤ 60 → Above t (10_000_000_000 * n) 1 → Channel (add p (mul (mul (sub q p) f6) t)) (60 * P + (Q - P) * n)
  rising t n hn t-is =
      let a = mul-le-mul_right n top in
      let b = mul-le-mul_right n le in
      on-the-way (mul (mul (sub q p) f6) t) n 141 hn (lit≤ tt)
      (mul-near (mul (sub q p) f6) t (2_160_000_000 * Q) (2_160_000_000 * P) 127 (10_000_000_000 * n) 1
      (6_000_000 * (Q * n)) (6_000_000 * (P * n)) 140
      (omega arith) (omega arith) (omega arith) (omega arith)
      (mul-near (sub q p) f6 (360_000_000 * Q + 0) (0 + 360_000_000 * P) 21 (6 * N) 0 (2_160_000_000 * Q) (2_160_000_000 * P) 126
      (omega arith) (omega arith) (omega arith) (omega arith) apart six)
      t-is)

  falling : (y : Float) (n : ℕ) → n ≤ 60 → Above y (10_000_000_000 * n) 1
      → Channel (add p (mul (mul (sub q p) y) f6)) (60 * P + (Q - P) * n)
  falling y n hn y-is =
      let a = mul-le-mul_right n top in
      let b = mul-le-mul_right n le in
      on-the-way (mul (mul (sub q p) y) f6) n 151 hn (lit≤ tt)
      (mul-near (mul (sub q p) y) f6 (1_000_000 * (Q * n)) (1_000_000 * (P * n)) 25 (6 * N) 0
      (6_000_000 * (Q * n)) (6_000_000 * (P * n)) 150
      (omega arith) (omega arith) (omega arith) (omega arith)
      (mul-near (sub q p) y (360_000_000 * Q + 0) (0 + 360_000_000 * P) 21 (10_000_000_000 * n) 1
      (1_000_000 * (Q * n)) (1_000_000 * (P * n)) 24
      (omega arith) (omega arith) (omega arith) (omega arith) apart y-is)
      six)

  -- by the tests of the turn's place
  pub place-near : (a b c : Bool) (t : Float) (n : ℕ) → T (place-stands a b c t n) → Channel (channel a b c p q t) (exact_c P Q n)
  unfolding channel place-stands
  place-near true b c t n h =
      let n-lt = ltb→lt n 60 (and_l (ltb n 60) (stands t (10_000_000_000 * n)) h) in
      subst (λ (x : ℕ). Channel (add p (mul (mul (sub q p) f6) t)) x) (sym (exact-rising P Q n n-lt))
      (rising t n (omega arith) (above_of t (10_000_000_000 * n) (and_r (ltb n 60) (stands t (10_000_000_000 * n)) h)))
  place-near false true c t n h =
      let n-ge = leb→le 60 n (and_l (leb 60 n) (ltb n 180) h) in
      let n-lt = ltb→lt n 180 (and_r (leb 60 n) (ltb n 180) h) in
      subst (λ (x : ℕ). Channel q x) (sym (exact-full P Q n n-ge n-lt)) at-q
  place-near false false true t n h =
      let y = sub (div f2 f3) t in
      let m = 10_000_000_000 * (240 - n) in
      let i = and_l (leb 180 n && ltb n 240) (stands y m) h in
      let n-ge = leb→le 180 n (and_l (leb 180 n) (ltb n 240) i) in
      subst (λ (x : ℕ). Channel (add p (mul (mul (sub q p) y) f6)) x)
      (sym (exact-falling P Q n n-ge (ltb→lt n 240 (and_r (leb 180 n) (ltb n 240) i))))
      (falling y (240 - n) (omega arith) (above_of y m (and_r (leb 180 n && ltb n 240) (stands y m) h)))
  place-near false false false t n h = subst (λ (x : ℕ). Channel p x) (sym (exact_none P Q n (either n h))) at_p
