-- Laws of the functions on f64: what a test picks, and the whole. Assumes nothing.
use Rattle.std.proofs.Common.{◌≡◌, ℕ, zero, suc, ◌+◌, ◌%◌, ◌<◌, Bool, true, false, [], ◌∷◌, get_or, ℤ, pos, sym, refl, ap, ◌∙◌, subst, lit<}
use lib.Signed.{le_z}
use lib.Ieee.{Float}
use lib.Ieee.Casts.{to_unsigned-lt}
use Rattle.hls.proofs.Whole.{percent-byte-lt}
use Rattle.hls.specs.Hls.{pick, add, sub, mul, div, f1, f2, f3, f100, f360, over, raised, lowered, placed, hue_to_rgb, upper, channel_byte, between, coloured, grey, hls_bytes}
use Rattle.hls.specs.Percent.{held, percent_byte}
use Rattle.hls.specs.Turn.{modulo360, turned}

pub pick_yes : {A : Type 0} (a b : A) {t : Bool} → t ≡ true → a ≡ pick t a b
pick_yes a b e = subst (λ (x : Bool). a ≡ pick x a b) (sym e) refl

pub pick_no : {A : Type 0} (a b : A) {c : A} {t : Bool} → t ≡ false → c ≡ b → c ≡ pick t a b
pick_no a b {c} e h = subst (λ (x : Bool). c ≡ pick x a b) (sym e) h

-- ---- a turn brought to 0.0 to 1.0, and the channel there

pub at_turn : (p q v : Float) {r t u : Float} → u ≡ raised v → t ≡ lowered u → r ≡ placed p q t → r ≡ hue_to_rgb p q v
unfolding hue_to_rgb
at_turn p q v e f h = h ∙ ap (λ (x : Float). placed p q x) (f ∙ ap lowered e)

-- ---- the whole

pub grey-is : (h l s : ℤ) {z : ℤ} {b : ℕ} → z ≡ s → le_z z (pos 0) ≡ true → b ≡ percent_byte l → b ∷ b ∷ b ∷ [] ≡ hls_bytes h l s
unfolding hls_bytes grey
grey-is h l s e t f = ap (λ (b : ℕ). b ∷ b ∷ b ∷ []) f ∙ pick_yes _ _ (subst (λ (z : ℤ). le_z z (pos 0) ≡ true) e t)

pub colour-is :
    (h l s : ℤ) {z : ℤ} {m L S : ℕ} {q r g b : Float} {x y w : ℕ} → z ≡ s → le_z z (pos 0) ≡ false
    → m ≡ modulo360 h → L ≡ held l → S ≡ held s
    → q ≡ upper (over L f100) (over S f100)
    → r ≡ hue_to_rgb (sub (mul f2 (over L f100)) q) q (add (over ((m + 240) % 360) f360) (div f1 f3))
    → g ≡ hue_to_rgb (sub (mul f2 (over L f100)) q) q (over ((m + 240) % 360) f360)
    → b ≡ hue_to_rgb (sub (mul f2 (over L f100)) q) q (sub (over ((m + 240) % 360) f360) (div f1 f3))
    → x ≡ channel_byte r → y ≡ channel_byte g → w ≡ channel_byte b → x ∷ y ∷ w ∷ [] ≡ hls_bytes h l s
unfolding hls_bytes coloured between turned
colour-is h l s {z} {m} {L} {S} {q} {r} {g} {b} {x} {y} {w} e t m-is L-is S-is q-is r-is g-is b-is x-is y-is w-is =
    pick_no _ _ (subst (λ (z : ℤ). le_z z (pos 0) ≡ false) e t) (cc)

-- each of the three is a byte
pub hls-byte-lt : (h l s : ℤ) (i : ℕ) → get_or (hls_bytes h l s) i 0 < 256
unfolding hls_bytes grey coloured between channel_byte
hls-byte-lt h l s = go (le_z s (pos 0))
  where
    each : (x y z : ℕ) → x < 256 → y < 256 → z < 256 → (i : ℕ) → get_or (x ∷ y ∷ z ∷ []) i 0 < 256
    each x y z a b c zero = a
    each x y z a b c (suc zero) = b
    each x y z a b c (suc (suc zero)) = c
    each x y z a b c (suc (suc (suc i))) = lit< tt

    go : (b : Bool) (i : ℕ)
        → get_or (pick b (grey (percent_byte l)) (coloured (over (turned h) f360) (over (held l) f100) (over (held s) f100))) i 0 < 256
    go true = each _ _ _ (percent-byte-lt l) (percent-byte-lt l) (percent-byte-lt l)
    go false = each _ _ _ (to_unsigned-lt 8 _) (to_unsigned-lt 8 _) (to_unsigned-lt 8 _)
