-- What the display's legend shows of the greys, registers 232 to 255 of the standard palette.
-- Assumes nothing.
use Rattle.std.specs.Prelude.{◌≡◌, List, [], ◌∷◌, ◌⊎◌, ℕ, ◌+◌, ◌≤◌, pos}
use Rattle.hls.specs.Percent.{percent_byte}

-- rule 9.7: the pixel of a grey: three equal channels, each the byte of one percent
unfoldable pub grey_pixel : ℕ → List ℕ
grey_pixel percent =
    let channel = percent_byte (pos percent) in
    channel ∷ channel ∷ channel ∷ 255 ∷ []

-- rule 9.7: two pixels are greys, the second lighter by 4 or 5 percent. Up to 100 no two percents have one byte, so that `within`
-- leaves no choice
pub record EvenStep (px next : List ℕ) : Type 0 where
  pub percent : ℕ
  pub step : ℕ
  pub here : px ≡ grey_pixel percent
  pub there : next ≡ grey_pixel (percent + step)
  pub within : percent + step ≤ 100
  pub even : (step ≡ 4) ⊎ (step ≡ 5)
