-- `blend_sixels` meets its contract: two stretches side by side.
use Prim.Native.Nat.{ℕ}
use mathlib.Core.Path.{sym, ap, ◌∙◌}
use native.Mathlib.Nat.{add_assoc}
use native.Mathlib.Omega.{arith}
use lib.ListN.{length, get_or}
use Rattle.numbers.specs.Bytes.{sixel}
use Rattle.fast.proofs.RunLaws.{laid-joined, laid-few}
use Rattle.fast.proofs.stretch.blend_sixels.Goals as goal

pub paint_singly-rest-requires : goal.paint_singly-rest-requires
paint_singly-rest-requires c = (
  omega (arith, c.requires.0, c.blend_fours-fours.ensures.0),
  omega (arith, c.requires.1, c.blend_fours-fours.ensures.0),
  rw c.blend_fours-fours.auto.canvas c.requires.2,
)

pub overflow_add-result-2 : goal.overflow_add-result-2
overflow_add-result-2 c =
    let all = laid-joined _ _ _ _ _ _ c.blend_fours-fours.ensures.1 c.paint_singly-rest.ensures.1 in
    omega (
      arith,
      laid-few _ _ _ _ _ _ (length c.args.canvas.now) all (omega (arith, c.requires.1, c.blend_fours-fours.ensures.0, c.paint_singly-rest.ensures.0)) c.requires.2,
    )

pub returns : goal.returns
returns c =
    let a = c.args in (
      omega (arith, c.blend_fours-fours.ensures.0, c.paint_singly-rest.ensures.0),
      laid-joined _ _ _ _ _ _ c.blend_fours-fours.ensures.1 c.paint_singly-rest.ensures.1,
      λ less. ap (λ (n : ℕ). sixel (get_or a.bytes.now n 0)) (sym (add_assoc a.from c.blend_fours-fours.result.count c.paint_singly-rest.result.count))
          ∙ c.paint_singly-rest.ensures.2 (omega (arith, less, c.blend_fours-fours.ensures.0)),
    )
