-- Laws of the standard registers and of their three rules.
-- Assumes nothing.
use mathlib.Core.Path.{◌≡◌, ap, ◌∙◌}
use mathlib.Core.List.{List}
use Prim.Native.Nat.{ℕ, ◌*◌, ◌/◌, ◌%◌}
use lib.ListN.{replicate}
use lib.Seq.{sets}
use Rattle.colours.specs.Standard.{percents, base, cube, grey, standard_at, listed}

-- a colour of the cube, and a grey, by what its percents come to
pub is-cube : (k r g b : ℕ) {color : ℕ} → color ≡ percents r g b → r ≡ 20 * (k / 36) → g ≡ 20 * (k / 6 % 6) → b ≡ 20 * (k % 6)
    → color ≡ cube k
unfolding cube
is-cube k r g b e er eg eb = e ∙ rw (er, eg, eb)

pub is-grey : (k p : ℕ) {color : ℕ} → color ≡ percents p p p → p ≡ 100 * k / 23 → color ≡ grey k
unfolding grey
is-grey k p e ep = e ∙ ap (λ (q : ℕ). percents q q q) ep

-- BASE from register 0 on, the cube from 16 on, the greys from 232 on: end to end they are the standard registers
pub end_to_end : {bases cubes greys t₁ t₂ t₃ : List ℕ} → bases ≡ base → cubes ≡ listed cube 0 216 → greys ≡ listed grey 0 24
    → t₁ ≡ sets (replicate 256 0) 0 bases → t₂ ≡ sets t₁ 16 cubes → t₃ ≡ sets t₂ 232 greys
    → t₃ ≡ listed standard_at 0 256
unfolding base standard_at listed
end_to_end eb ec eg e₁ e₂ e₃ = rw (e₃, e₂, e₁, eb, ec, eg)
