-- `canvas::rows` meets its contract: nothing has whole rows of 0 pixels. Assumes nothing.
use mathlib.Core.Path.{◌≡◌, sym, ap, ◌∙◌}
use Prim.Native.Nat.{ℕ, ◌/◌}
use native.Mathlib.Nat.{div-zero}
use borrow.Author.Rules.{rules}
use Rattle.canvas.specs.Picture.{rows_of}
use Rattle.canvas.proofs.rows.Goals as goal

none : (length stride : ℕ) → stride ≡ 0 → 0 ≡ rows_of length stride
unfolding rows_of
none length stride e = sym (ap (λ (s : ℕ). length / 4 / s) e ∙ div-zero (length / 4))

pub returns-then-stride-eq0 : goal.returns-then-stride-eq0
returns-then-stride-eq0 c = none _ _ c.if-stride-eq0.true

pub returns : goal.returns
unfolding rows_of
returns c = search rules
