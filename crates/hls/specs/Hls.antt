-- HLS to three channel bytes: the f64 operations of the Rust's `hls_to_rgb` and `hue_to_rgb`, one by one and in its order, over IEEE
-- 754's binary64.
use Rattle.std.specs.Prelude.{ℕ, Bool, true, false, List, [], ◌∷◌, ℤ, pos, negsuc, int_le, Float}
use Rattle.std.specs.Float.Ieee as Ieee
use Rattle.std.specs.Float.{fin, binary64}
use Rattle.std.specs.Float.Ieee.{of_int, lt, to_unsigned}
use Rattle.hls.specs.Percent.{held, percent_byte}
use Rattle.hls.specs.Turn.{turned}

-- the first where the test passed, else the second
abbrev pub pick : {A : Type 0} → Bool → A → A → A
pick true a b = a
pick false a b = b

abbrev pub add : Float → Float → Float
add = Ieee.add binary64

abbrev pub sub : Float → Float → Float
sub = Ieee.sub binary64

abbrev pub mul : Float → Float → Float
mul = Ieee.mul binary64

abbrev pub div : Float → Float → Float
div = Ieee.div binary64

-- the Rust's literals: `fin false m e` is m * 2 ^ e, with m odd or 0, and `negsuc 0` is -1
abbrev pub f0 : Float
f0 = fin false 0 (pos 0)

abbrev pub f½ : Float
f½ = fin false 1 (negsuc 0)

abbrev pub f1 : Float
f1 = fin false 1 (pos 0)

abbrev pub f2 : Float
f2 = fin false 1 (pos 1)

abbrev pub f3 : Float
f3 = fin false 3 (pos 0)

abbrev pub f6 : Float
f6 = fin false 3 (pos 1)

abbrev pub f100 : Float
f100 = fin false 25 (pos 2)

abbrev pub f255 : Float
f255 = fin false 255 (pos 0)

abbrev pub f360 : Float
f360 = fin false 45 (pos 3)

-- a whole number over another
unfoldable pub over : ℕ → Float → Float
over n d = div (of_int binary64 (pos n)) d

-- a turn below 0 is raised by 1, then one above 1 lowered by 1
unfoldable pub raised : Float → Float
raised t = pick (lt t f0) (add t f1) t

unfoldable pub lowered : Float → Float
lowered t = pick (lt f1 t) (sub t f1) t

-- the channel at a turn from 0 to 1, by the three tests of its place
unfoldable pub channel : Bool → Bool → Bool → Float → Float → Float → Float
channel a b c p q t =
    pick a (add p (mul (mul (sub q p) f6) t))
    (pick b q
    (pick c (add p (mul (mul (sub q p) (sub (div f2 f3) t)) f6)) p))

unfoldable pub placed : Float → Float → Float → Float
placed p q t = channel (lt t (div f1 f6)) (lt t (div f1 f2)) (lt t (div f2 f3)) p q t

unfoldable pub hue_to_rgb : Float → Float → Float → Float
hue_to_rgb p q t = placed p q (lowered (raised t))

-- q, the larger of the two numbers between which a channel lies, from lightness and saturation
unfoldable pub upper_by : Bool → Float → Float → Float
upper_by t lum sat = pick t (mul lum (add f1 sat)) (sub (add lum sat) (mul lum sat))

unfoldable pub upper : Float → Float → Float
upper lum sat = upper_by (lt lum f½) lum sat

-- a channel's byte: rounded down, clamped to 0 to 255 (of a negative number 0, of one from 255 on 255)
unfoldable pub channel_byte : Float → ℕ
channel_byte c = to_unsigned 8 (add (mul c f255) f½)

-- the three bytes between p and q at a hue
unfoldable pub between : Float → Float → Float → List ℕ
between p q hue =
    channel_byte (hue_to_rgb p q (add hue (div f1 f3)))
    ∷ channel_byte (hue_to_rgb p q hue)
    ∷ channel_byte (hue_to_rgb p q (sub hue (div f1 f3)))
    ∷ []

unfoldable pub coloured : Float → Float → Float → List ℕ
coloured hue lum sat = between (sub (mul f2 lum) (upper lum sat)) (upper lum sat) hue

unfoldable pub grey : ℕ → List ℕ
grey b = b ∷ b ∷ b ∷ []

-- rule 9.4: saturation 0 or less is grey
unfoldable pub hls_bytes : ℤ → ℤ → ℤ → List ℕ
hls_bytes h l s =
    pick (int_le s (pos 0)) (grey (percent_byte l)) (coloured (over (turned h) f360) (over (held l) f100) (over (held s) f100))
