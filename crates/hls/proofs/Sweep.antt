-- What is computed: of each of the 101 percents and of each of the 3 x 360 turns, that its f64 stands where it should. Assumes nothing.
use Rattle.std.proofs.Common.{◌≡◌, ℕ, zero, suc, ◌+◌, ◌-◌, ◌*◌, ◌%◌, ◌<◌, ◌≤◌, Bool, true, false, ◌&&◌, ◌||◌, T, eqb, ltb, leb, sym, refl, subst, inl, inr, le_of_suc-le-suc, not-suc-le-zero, eq-or-lt_of_le, arith, leb→le}
use mathlib.Core.Bool.{beq}
use lib.Ieee as Ieee
use lib.Ieee.{Float, nan, inf, fin, up, down, lt, round, of_int}
use lib.Ieee.Fits.{and_l, and_r}
use Rattle.hls.specs.Hls.{add, sub, div, f½, f1, f2, f3, f6, f100, f360, over, raised, lowered}
use Rattle.hls.proofs.Near.{N, Above}

-- f of every number below n
all : (ℕ → Bool) → ℕ → Bool
all f zero = true
all f (suc n) = elim (f n) [ true ↦ all f n | false ↦ false ]

all-at : (f : ℕ → Bool) (n m : ℕ) → T (all f n) → m < n → T (f m)
unfolding all
all-at f zero m t l = absurd (not-suc-le-zero l)
all-at f (suc n) m t l = go (f n) refl t (all-at f n m)
  where
    here : T (f n) → (T (all f n) → m < n → T (f m)) → T (all f n) → T (f m)
    here s rest t = elim (eq-or-lt_of_le (le_of_suc-le-suc l)) [ inl e ↦ subst (λ (k : ℕ). T (f k)) (sym e) s | inr k ↦ rest t k ]

    go : (b : Bool) → f n ≡ b → T (elim b [ true ↦ all f n | false ↦ false ]) → (T (all f n) → m < n → T (f m)) → T (f m)
    go true e t rest = here (subst T (sym e) tt) rest t
    go false e t rest = absurd t

-- y is not negative, and at most one unit from w
unfoldable pub stands : Float → ℕ → Bool
stands nan w = false
stands (inf s) w = false
stands (fin true m e) w = false
stands (fin false m e) w = leb (m * up e * N) ((w + 1) * down e) && leb (w * down e) (m * up e * N + down e)

unfoldable pub percent-stands : ℕ → Float → Bool
percent-stands n x = stands x (36_000_000_000 * n) && stands (add f1 x) (N + 36_000_000_000 * n) && beq (lt x f½) (ltb n 50)

percents : T (all (λ n. percent-stands n (over n f100)) 101)
unfolding all percent-stands stands over Ieee.add Ieee.div lt round of_int
percents = tt

-- a turn, by the tests of its place: where it is near, it stands at T degrees, and T is in the same place
unfoldable pub place-stands : Bool → Bool → Bool → Float → ℕ → Bool
place-stands true b c t n = ltb n 60 && stands t (10_000_000_000 * n)
place-stands false true c t n = leb 60 n && ltb n 180
place-stands false false true t n = leb 180 n && ltb n 240 && stands (sub (div f2 f3) t) (10_000_000_000 * (240 - n))
place-stands false false false t n = leb 240 n || eqb n 0

unfoldable pub turn-stands : Float → ℕ → Bool
turn-stands t n = place-stands (lt t (div f1 f6)) (lt t (div f1 f2)) (lt t (div f2 f3)) t n

unfoldable pub hue-stands : ℕ → Float → Bool
hue-stands n x =
    turn-stands (lowered (raised (add x (div f1 f3)))) ((n + 120) % 360)
    && turn-stands (lowered (raised x)) n
    && turn-stands (lowered (raised (sub x (div f1 f3)))) ((n + 240) % 360)

hues : T (all (λ n. hue-stands n (over n f360)) 360)
unfolding all hue-stands turn-stands place-stands stands lowered raised over Ieee.add Ieee.sub Ieee.div lt round of_int
hues = tt

-- ---- what was computed, of one number

pub percent-at : (n : ℕ) → n ≤ 100 → T (percent-stands n (over n f100))
percent-at n l = all-at (λ n. percent-stands n (over n f100)) 101 n percents (omega arith)

pub hue-at : (n : ℕ) → n < 360 → T (hue-stands n (over n f360))
hue-at n l = all-at (λ n. hue-stands n (over n f360)) 360 n hues l

pub above_of : (y : Float) (w : ℕ) → T (stands y w) → Above y w 1
unfolding stands
above_of nan w t = t
above_of (inf s) w t = t
above_of (fin true m e) w t = t
above_of (fin false m e) w t =
    let a = m * up e * N in
    let d = down e in
    let hi = leb→le a ((w + 1) * d) (and_l (leb a ((w + 1) * d)) (leb (w * d) (a + d)) t) in
    let lo = leb→le (w * d) (a + d) (and_r (leb a ((w + 1) * d)) (leb (w * d) (a + d)) t) in
    (omega arith, omega arith)
