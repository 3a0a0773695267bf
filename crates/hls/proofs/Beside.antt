-- Each byte of HLS stands beside the exact one: never above it, at most one below, and equal but at an exact tie. Assumes nothing.
use Rattle.std.proofs.Common.{◌≡◌, ℕ, ◌+◌, ◌-◌, ◌*◌, ◌/◌, ◌%◌, ◌<◌, ◌≤◌, min, Bool, true, false, ◌&&◌, T, ltb, List, map, ℤ, pos, negsuc, sym, refl, ◌∙◌, subst, mul-le-mul_right, div-lt_iff_lt-mul, lt_of_mul-lt-mul_right, le-div_iff_mul-le, arith, lit≤, ltb→lt, leb-true}
use mathlib.Core.Bool.{beq}
use lib.Signed.{le_z}
use lib.Ieee.{Float, nan, inf, fin, up, down, lt, to_unsigned}
use lib.Ieee.Fits.{and_l, and_r, down_pos}
use Rattle.hls.specs.Percent.{held, percent_byte}
use Rattle.hls.specs.Turn.{turned}
use Rattle.hls.specs.Hls.{pick, add, sub, mul, div, f½, f1, f2, f3, f6, f100, f255, f360, over, raised, lowered, placed, hue_to_rgb, upper, upper_by, channel_byte, between, coloured, grey, hls_bytes}
use Rattle.hls.specs.Exact.{exact_q, exact_p, exact_c, exact_turns, exact_hls, exact_byte, Beside, AllBeside}
use Rattle.hls.proofs.Whole.{held-le, turned_lt}
use Rattle.hls.proofs.Near.{N, Near, Above, add-near, mul-near}
use Rattle.hls.proofs.Sweep.{stands, percent-stands, turn-stands, hue-stands, percent-at, hue-at, above_of}
use Rattle.hls.proofs.Channels.{ends, Channel, upper-near, lower-near, place-near}

-- ---- a channel's byte

-- a / d rounded down, of a number at most 51,002 units from the exact one
module _ (a d c : ℕ) (D : 0 < d)
    (hi : a * N ≤ (1_530_000_000 * c + 1_800_000_000_000 + 51_002) * d)
    (lo : (1_530_000_000 * c + 1_800_000_000_000) * d ≤ a * N + 51_002 * d) where
  whole : ℕ
  whole = (510 * c + 600_000) / 1_200_000

  floor-below : a / d ≤ whole
  unfolding whole
  floor-below =
      let h : 510 * c + 600_001 ≤ 1_200_000 * (whole + 1) = omega arith in
      let k = mul-le-mul_right d h in
      let l : a / d < whole + 1 = (div-lt_iff_lt-mul D).1 (omega (arith, k)) in
      omega arith

  floor-near : whole ≤ a / d + 1
  unfolding whole
  floor-near =
      let h : 1_200_000 * whole ≤ 510 * c + 600_000 = omega arith in
      let k = mul-le-mul_right d h in
      let f : a < (a / d + 1) * d = (div-lt_iff_lt-mul D).0 (omega arith) in
      let l : whole < a / d + 2 = lt_of_mul-lt-mul_right d (omega (arith, k)) in
      omega arith

  floor-same : 0 < (510 * c + 600_000) % 1_200_000 → whole ≤ a / d
  unfolding whole
  floor-same r =
      let h : 1_200_000 * whole + 1 ≤ 510 * c + 600_000 = omega arith in
      let k = mul-le-mul_right d h in
      (le-div_iff_mul-le D).1 (omega (arith, k))

half : Near f½ 1_800_000_000_000 0 0
half = (lit≤ tt, lit≤ tt)

full : Above f255 (255 * N) 0
full = (lit≤ tt, lit≤ tt)

cast-beside : (w : Float) (c : ℕ) → c ≤ 600_000 → Near w (1_530_000_000 * c + 1_800_000_000_000) 0 51_002 → Beside c (to_unsigned 8 w)
unfolding to_unsigned exact_byte whole
cast-beside nan c l h = absurd h
cast-beside (inf s) c l h = absurd h
cast-beside (fin true m e) c l h = absurd (clash (m * up e) (down e) (down_pos e) h.0)
  where
    clash : (a d : ℕ) → 0 < d → a * N + (1_530_000_000 * c + 1_800_000_000_000) * d ≤ (0 + 51_002) * d → ⊥
    clash a d D k = omega arith
cast-beside (fin false m e) c l h =
    let a = m * up e in
    let d = down e in
    let D = down_pos e in
    let hi : a * N ≤ (1_530_000_000 * c + 1_800_000_000_000 + 51_002) * d = omega (arith, h.0) in
    let lo : (1_530_000_000 * c + 1_800_000_000_000) * d ≤ a * N + 51_002 * d = omega (arith, h.1) in
    let x = floor-below a d c D hi lo in
    let y = floor-near a d c D hi lo in
    record {
      below = omega arith;
      near = omega arith;
      same = λ r. exactly (a / d) (floor-same a d c D hi lo r) x;
    }
  where
    exactly : (n : ℕ) → (510 * c + 600_000) / 1_200_000 ≤ n → n ≤ (510 * c + 600_000) / 1_200_000
        → min n 255 ≡ (510 * c + 600_000) / 1_200_000
    exactly n g f = omega arith

byte-beside : (x : Float) (c : ℕ) → Channel x c → Beside c (channel_byte x)
unfolding channel_byte
byte-beside x c h =
    let c-top = h.top in
    cast-beside (add (mul x f255) f½) c h.top
    (add-near (1_530_000_000 * c) 0 51_001 1_800_000_000_000 0 0 (omega arith) (mul x f255) f½
    (mul-near x f255 (6_000_000 * c) 0 200 (255 * N) 0 (1_530_000_000 * c) 0 51_000
    (omega arith) (omega arith) (omega arith) (omega arith) h.near full)
    half)

-- ---- the three channels

record Percent (n : ℕ) (x : Float) : Type 0 where
  is : Above x (36_000_000_000 * n) 1
  more : Above (add f1 x) (N + 36_000_000_000 * n) 1
  dark : lt x f½ ≡ ltb n 50

percent : (n : ℕ) → n ≤ 100 → Percent n (over n f100)
percent n l = go (over n f100) (percent-at n l)
  where
    agree : (a b : Bool) → T (beq a b) → a ≡ b
    agree true true t = refl
    agree true false t = absurd t
    agree false true t = absurd t
    agree false false t = refl

    go : (x : Float) → T (percent-stands n x) → Percent n x
    go x t =
        let a = stands x (36_000_000_000 * n) in
        let b = stands (add f1 x) (N + 36_000_000_000 * n) in
        let c = beq (lt x f½) (ltb n 50) in
        unfold percent-stands in
        record {
          is = above_of x (36_000_000_000 * n) (and_l a b (and_l (a && b) c t));
          more = above_of (add f1 x) (N + 36_000_000_000 * n) (and_r a b (and_l (a && b) c t));
          dark = agree (lt x f½) (ltb n 50) (and_r (a && b) c t);
        }

module _ (P Q : ℕ) (le : P ≤ Q) (top : Q ≤ 10000) (p q : Float)
    (p-near : Near p (360_000_000 * P) 0 12) (q-near : Near q (360_000_000 * Q) 0 8) where
  turn-beside : (t : Float) (n : ℕ) → T (turn-stands (lowered (raised t)) n) → Beside (exact_c P Q n) (channel_byte (hue_to_rgb p q t))
  unfolding hue_to_rgb placed turn-stands
  turn-beside t n h =
      let u = lowered (raised t) in
      byte-beside (placed p q u) (exact_c P Q n)
      (place-near P Q le top p q p-near q-near (lt u (div f1 f6)) (lt u (div f1 f2)) (lt u (div f2 f3)) u n h)

  hue-beside : (n : ℕ) → n < 360 → AllBeside (map (exact_c P Q) (exact_turns n)) (between p q (over n f360))
  unfolding between exact_turns
  hue-beside n l = go (over n f360) (hue-at n l)
    where
      go : (x : Float) → T (hue-stands n x) → AllBeside (map (exact_c P Q) (exact_turns n)) (between p q x)
      go x t =
          let a = turn-stands (lowered (raised (add x (div f1 f3)))) ((n + 120) % 360) in
          let b = turn-stands (lowered (raised x)) n in
          let c = turn-stands (lowered (raised (sub x (div f1 f3)))) ((n + 240) % 360) in
          unfold hue-stands in
          let red = turn-beside (add x (div f1 f3)) ((n + 120) % 360) (and_l a b (and_l (a && b) c t)) in
          let green = turn-beside x n (and_r a b (and_l (a && b) c t)) in
          let blue = turn-beside (sub x (div f1 f3)) ((n + 240) % 360) (and_r (a && b) c t) in
          (red, (green, (blue, tt)))

upper-beside : (l s : ℕ) → l ≤ 100 → s ≤ 100 → Near (upper (over l f100) (over s f100)) (360_000_000 * exact_q l s) 0 8
unfolding upper exact_q
upper-beside l s hl hs =
    let lum = over l f100 in
    let sat = over s f100 in
    let L = percent l hl in
    let S = percent s hs in
    let exact : ℕ = 360_000_000 * pick (ltb l 50) (l * (100 + s)) (100 * l + 100 * s - l * s) in
    subst (λ (b : Bool). Near (upper_by b lum sat) exact 0 8) (sym L.dark)
    (upper-near l s hl hs lum sat L.is S.is S.more (ltb l 50) (ltb→lt l 50))

colour-beside : (l s n : ℕ) → l ≤ 100 → s ≤ 100 → n < 360
    → AllBeside (map (exact_c (exact_p l s) (exact_q l s)) (exact_turns n)) (coloured (over n f360) (over l f100) (over s f100))
unfolding coloured exact_p
colour-beside l s n hl hs hn =
    let lum = over l f100 in
    let sat = over s f100 in
    let L = percent l hl in
    let S = percent s hs in
    let E = ends l s hl hs in
    hue-beside (exact_p l s) (exact_q l s) (omega (arith, E.low)) E.top (sub (mul f2 lum) (upper lum sat)) (upper lum sat)
    (lower-near l s hl hs lum sat L.is S.is S.more (upper lum sat) (exact_q l s) E.high (upper-beside l s hl hs))
    (upper-beside l s hl hs) n hn

-- ---- grey

same_beside : (c b : ℕ) → b ≡ exact_byte c → Beside c b
same_beside c b e = record { below = omega arith; near = omega arith; same = λ r. e }

-- where P is Q, every place gives the same C
flat : (p n : ℕ) → exact_c p p n ≡ 60 * p
unfolding exact_c
flat p n = go (ltb n 60) (ltb n 180) (ltb n 240)
  where
    none : (x : ℕ) → 60 * p + (p - p) * x ≡ 60 * p
    none x = let z : p - p ≡ 0 = omega arith in rw z (omega arith)

    go : (a b c : Bool)
        → pick a (60 * p + (p - p) * n) (pick b (60 * p) (pick c (60 * p + (p - p) * (240 - n)) (60 * p))) ≡ 60 * p
    go true b c = none n
    go false true c = refl
    go false false true = none (240 - n)
    go false false false = refl

grey-q : (l : ℕ) → exact_q l 0 ≡ 100 * l
unfolding exact_q
grey-q l = go (ltb l 50)
  where
    go : (b : Bool) → pick b (l * (100 + 0)) (100 * l + 100 * 0 - l * 0) ≡ 100 * l
    go true = omega arith
    go false = omega arith

grey-beside : (l n : ℕ) → Beside (exact_c (exact_p l 0) (exact_q l 0) n) ((255 * l + 50) / 100)
unfolding exact_p exact_byte
grey-beside l n =
    let p : 200 * l - exact_q l 0 ≡ 100 * l = omega (arith, grey-q l) in
    let c : exact_c (200 * l - exact_q l 0) (exact_q l 0) n ≡ 6000 * l = rw (p, grey-q l) (flat (100 * l) n ∙ omega arith) in
    same_beside _ _ (rw c (omega arith))

none-held : (s : ℤ) → le_z s (pos 0) ≡ true → held s ≡ 0
unfolding held
none-held (pos n) t = omega (arith, leb-true n 0 t)
none-held (negsuc n) t = refl

all-grey : (h l : ℤ) (x : ℕ) → x ≡ 0
    → AllBeside (map (exact_c (exact_p (held l) x) (exact_q (held l) x)) (exact_turns (turned h))) (grey (percent_byte l))
unfolding grey percent_byte exact_turns
all-grey h l x e =
    let red = grey-beside (held l) ((turned h + 120) % 360) in
    let green = grey-beside (held l) (turned h) in
    let blue = grey-beside (held l) ((turned h + 240) % 360) in
    rw e (red, (green, (blue, tt)))

beside-by : (h l s : ℤ) (b : Bool) → le_z s (pos 0) ≡ b → AllBeside (exact_hls h l s) (hls_bytes h l s)
unfolding exact_hls hls_bytes
beside-by h l s true e = rw e (all-grey h l (held s) (none-held s e))
beside-by h l s false e = rw e (colour-beside (held l) (held s) (turned h) (held-le l) (held-le s) (turned_lt h))

pub all-beside : (h l s : ℤ) → AllBeside (exact_hls h l s) (hls_bytes h l s)
all-beside h l s = beside-by h l s (le_z s (pos 0)) refl

pub beside-too : (h l s : ℤ) {r : List ℕ} → r ≡ hls_bytes h l s → (r ≡ hls_bytes h l s) × AllBeside (exact_hls h l s) r
beside-too h l s e = (e, subst (λ (r : List ℕ). AllBeside (exact_hls h l s) r) (sym e) (all-beside h l s))
