-- Laws of the functions on i32: the library's clamp, range and remainder are the definitions. Assumes nothing.
use Rattle.std.proofs.Common.{◌≡◌, ℕ, ◌+◌, ◌*◌, ◌/◌, ◌<◌, ◌≤◌, Bool, ℤ, pos, negsuc, refl, ap, arith}
use Rattle.std.specs.Int.{int_max, int_min, int_rem_euclid}
use Rattle.std.specs.Prelude.{◌&&◌, not, nat_lt}
use Rattle.std.proofs.Common.{int_cmp, is_le}
use Rattle.std.proofs.lemmas.Bool.Decides.{nat_tests}
use Rattle.hls.specs.declared.Percent.{Percent}
use Rattle.hls.specs.Percent.{held, outside, percent_byte, percent_of}
use Rattle.hls.specs.Turn.{modulo360, turned}

-- ---- the clamp

pub held-le : (v : ℤ) → held v ≤ 100
unfolding held
held-le (pos n) = omega arith
held-le (negsuc n) = omega arith

-- the clamp between 0 and 100 is what is held
pub held_clamped : (v : ℤ) → int_max (pos 0) (int_min v (pos 100)) ≡ pos (held v)
unfolding held
held_clamped (pos n) = grind (arith, nat_tests)
held_clamped (negsuc n) = refl

-- ---- outside 0 to 100

-- what does not lie from 0 to 100 is outside
pub outside_is : (v : ℤ) → not (is_le (int_cmp (pos 0) v) && is_le (int_cmp v (pos 100))) ≡ outside v
unfolding outside
outside_is (pos n) = within n
  where
    within : (n : ℕ) → not (is_le (int_cmp (pos 0) (pos n)) && is_le (int_cmp (pos n) (pos 100))) ≡ nat_lt 100 n
    within n = grind (arith, nat_tests)
outside_is (negsuc n) = refl

pub percent-made : (v : ℤ) {b : ℕ} {h : Bool} → b ≡ percent_byte v → h ≡ outside v → ◌≡◌ {A = Percent} (record { byte = b; held = h }) (percent_of v)
unfolding percent_of
percent-made v eb eh = rw (eb, eh) refl

pub percent-is : {n : ℕ} (v : ℤ) → n ≡ held v → (n * 255 + 50) / 100 ≡ percent_byte v
unfolding percent_byte
percent-is {n} v e = rw e (ap (λ (x : ℕ). (x + 50) / 100) (swap (held v)))
  where
    swap : (x : ℕ) → x * 255 ≡ 255 * x
    swap x = omega arith

pub percent-byte-lt : (v : ℤ) → percent_byte v < 256
unfolding percent_byte
percent-byte-lt v = omega (arith, held-le v)

-- ---- the remainder

pub modulo_lt : (h : ℤ) → modulo360 h < 361
unfolding modulo360
modulo_lt (pos n) = omega arith
modulo_lt (negsuc n) = omega arith

pub turned_lt : (h : ℤ) → turned h < 360
unfolding turned
turned_lt h = omega arith

pub modulo_is : (h : ℤ) → int_rem_euclid h (pos 360) ≡ pos (modulo360 h)
unfolding modulo360
modulo_is (pos n) = refl
modulo_is (negsuc n) = ap pos (omega arith)
