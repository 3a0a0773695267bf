-- HLS in whole numbers (docs/RULES.md, section 9): C is 600,000 times a channel. No difference here is below 0: 100 L ≤ Q ≤ 200 L (`ends`,
-- proofs/Channels.antt), so P ≤ Q too.
use Rattle.std.specs.Prelude.{◌≡◌, ℕ, ◌+◌, ◌-◌, ◌*◌, ◌/◌, ◌%◌, ◌<◌, ◌≤◌, List, [], ◌∷◌, map, ℤ, nat_lt}
use Rattle.hls.specs.Percent.{held}
use Rattle.hls.specs.Turn.{turned}
use Rattle.hls.specs.Hls.{pick}

-- rule 9.5: Q, from lightness and saturation clamped to 0 to 100
unfoldable pub exact_q : ℕ → ℕ → ℕ
exact_q l s = pick (nat_lt l 50) (l * (100 + s)) (100 * l + 100 * s - l * s)

-- rule 9.5: P, from the same
unfoldable pub exact_p : ℕ → ℕ → ℕ
exact_p l s = 200 * l - exact_q l s

-- rule 9.5: C, from P, Q and T
unfoldable pub exact_c : ℕ → ℕ → ℕ → ℕ
exact_c p q t =
    pick (nat_lt t 60) (60 * p + (q - p) * t)
    (pick (nat_lt t 180) (60 * q)
    (pick (nat_lt t 240) (60 * p + (q - p) * (240 - t)) (60 * p)))

-- rule 9.5: T is hue + 120, hue, hue - 120 for red, green, blue, modulo 360
unfoldable pub exact_turns : ℕ → List ℕ
exact_turns hue = (hue + 120) % 360 ∷ hue ∷ (hue + 240) % 360 ∷ []

-- C for red, green, blue
unfoldable pub exact_hls : ℤ → ℤ → ℤ → List ℕ
exact_hls h l s = map (exact_c (exact_p (held l) (held s)) (exact_q (held l) (held s))) (exact_turns (turned h))

-- rule 9.5: the byte of a C
unfoldable pub exact_byte : ℕ → ℕ
exact_byte c = (510 * c + 600000) / 1200000

-- rule 9.5: a byte is never above the exact one, at most one below it, and equal to it but at an exact tie
pub record Beside (c b : ℕ) : Type 0 where
  pub below : b ≤ exact_byte c
  pub near : exact_byte c ≤ b + 1
  pub same : 0 < (510 * c + 600000) % 1200000 → b ≡ exact_byte c

-- each byte beside its C, in order
abbrev pub AllBeside : List ℕ → List ℕ → Type 0
AllBeside [] [] = Unit
AllBeside [] (b ∷ bs) = ⊥
AllBeside (c ∷ cs) [] = ⊥
AllBeside (c ∷ cs) (b ∷ bs) = Beside c b × AllBeside cs bs
