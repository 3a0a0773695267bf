use mathlib.Core.Path.{◌≡◌, refl, sym, ap, ap₂, ◌∙◌}
use mathlib.Core.List.{List}
use Prim.Native.Nat.{ℕ, ◌+◌, ◌<◌, zero-le}
use native.Mathlib.Numerals.{add-one}
use native.Mathlib.Omega.{arith}
use lib.ListN.{length, drop, set, length-set, length-drop}
use lib.Seq.{paste, paste-zero, paste-suc, get_or-drop}
use Rattle.canvas.proofs.copy_each.Goals as goal

pub loop-j-init : goal.loop-j-init
loop-j-init c = (paste-zero c.args.out.now c.args.at (drop c.args.from c.args.canvas.now), refl, zero-le)

pub loop-j-preserved : goal.loop-j-preserved
loop-j-preserved c =
    let a = c.args in
    let now-at = c.loop-j in
    let part : List ℕ = drop a.from a.canvas.now in
    let below : a.at + now-at.j < length a.out.now = omega arith in
    let more : now-at.j < length part = rw (length-drop a.from a.canvas.now) (omega arith) in (
      ap₂ (λ (l : List ℕ) (v : ℕ). set l (a.at + now-at.j) v) now-at.invariant.0 (sym (get_or-drop a.from a.canvas.now now-at.j 0))
          ∙ paste-suc a.out.now a.at part now-at.j 0 below more
          ∙ ap (paste a.out.now a.at part) (sym (add-one now-at.j)),
      simp length-set now-at.invariant.1,
      omega arith,
    )

pub shape_of-out : goal.shape_of-out
shape_of-out c = c.loop-j.invariant.1

pub returns : goal.returns
returns c =
    let a = c.args in
    let now-at = c.loop-j in
    let done : now-at.j ≡ a.count = omega arith in
    now-at.invariant.0 ∙ ap (paste a.out.now a.at (drop a.from a.canvas.now)) done
