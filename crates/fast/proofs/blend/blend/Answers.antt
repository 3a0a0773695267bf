-- `blend` meets its contract: painted is the new colour or the pixel's own, and a pixel painted with its own stays as it is.
use mathlib.Core.List.{List}
use mathlib.Core.Path.{◌∙◌, ap}
use Prim.Native.Nat.{ℕ}
use mathlib.Core.Bool.{cond}
use lib.Dec.{eqb}
use Rattle.fast.proofs.BlendLaws.{blended-as}
use Rattle.fast.proofs.blend.blend.Goals as goal

pub returns : goal.returns
returns c =
    let a = c.args in
    blended-as a.at a.bit a.px a.canvas.now
    (c.chosen-mixed.ensures ∙ ap (λ (old : List ℕ). cond (eqb a.bit 1) a.px old) c.pixel_at-old.ensures)
    c.fill_span.ensures
