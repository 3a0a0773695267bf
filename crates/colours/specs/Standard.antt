-- The 256 standard registers by their three rules (docs/RULES.md, section 9).
-- Assumes nothing.
use Rattle.std.specs.Prelude.{ℕ, zero, suc, ◌-◌, ◌*◌, ◌/◌, ◌%◌, List, [], ◌∷◌, ltb, pos, get_or}
use Rattle.hls.specs.Hls.{pick}
use Rattle.hls.specs.Percent.{percent_byte}
use Rattle.colours.specs.Packing.{packed}

-- a colour by its percents of red, green and blue
unfoldable pub percents : ℕ → ℕ → ℕ → ℕ
percents r g b = packed (percent_byte (pos r)) (percent_byte (pos g)) (percent_byte (pos b))

-- rule 9.6: registers 0 to 15: BASE of the Rust
unfoldable pub base : List ℕ
base =
    percents 0 0 0
    ∷ percents 20 20 80
    ∷ percents 80 13 13
    ∷ percents 20 80 20
    ∷ percents 80 20 80
    ∷ percents 20 80 80
    ∷ percents 80 80 20
    ∷ percents 53 53 53
    ∷ percents 26 26 26
    ∷ percents 33 33 60
    ∷ percents 60 26 26
    ∷ percents 33 60 33
    ∷ percents 60 33 60
    ∷ percents 33 60 60
    ∷ percents 60 60 33
    ∷ percents 80 80 80
    ∷ []

-- rule 9.6: registers 16 to 231, the k-th of 216: each channel 0 to 100 by 20, blue fastest
unfoldable pub cube : ℕ → ℕ
cube k = percents (20 * (k / 36)) (20 * (k / 6 % 6)) (20 * (k % 6))

-- rule 9.6: registers 232 to 255, the k-th of 24: a grey of 100k / 23 percent, rounded down
unfoldable pub grey : ℕ → ℕ
grey k = percents (100 * k / 23) (100 * k / 23) (100 * k / 23)

-- rule 9.6: the colour of standard register n
unfoldable pub standard_at : ℕ → ℕ
standard_at n = pick (ltb n 16) (get_or base n 0) (pick (ltb n 232) (cube (n - 16)) (grey (n - 232)))

-- f at i and at the numbers after it, n of them. The `let` lets a proof read one without working out the rest
unfoldable pub listed : (ℕ → ℕ) → ℕ → ℕ → List ℕ
listed f i zero = []
listed f i (suc n) =
    let rest = listed f (suc i) n in
    f i ∷ rest
