-- `four_stand` meets its contract: four are counted.
use mathlib.Core.Path.{subst}
use Prim.Native.Nat.{ℕ, ◌+◌}
use borrow.Author.Tests.{eqb-true}
use Rattle.fast.specs.Run.{Sixels}
use Rattle.fast.proofs.stretch.four_stand.Goals as goal

pub returns : goal.returns
returns c t =
    let a = c.args in
    subst (λ (n : ℕ). Sixels a.bytes.now a.at (a.at + n)) (eqb-true _ 4 t) c.run_length.ensures.1
