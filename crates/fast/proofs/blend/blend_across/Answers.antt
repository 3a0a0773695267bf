-- `blend_across` meets its contract: four pixels, one after the other.
use mathlib.Core.Path.{◌∙◌, ap}
use Prim.Native.Nat.{◌+◌, ◌%◌}
use lib.ListN.{get_or}
use Rattle.fast.specs.Blend.{blended, blended_across}
use Rattle.fast.proofs.blend.blend_across.Goals as goal

pub returns : goal.returns
unfolding blended_across
returns c =
    let a = c.args in
    c.blend-4.ensures
    ∙ ap (blended (a.at + 3) (get_or a.four 3 0 % 2) a.px) (c.blend-3.ensures
    ∙ ap (blended (a.at + 2) (get_or a.four 2 0 % 2) a.px) (c.blend-2.ensures
    ∙ ap (blended (a.at + 1) (get_or a.four 1 0 % 2) a.px) c.blend.ensures))
