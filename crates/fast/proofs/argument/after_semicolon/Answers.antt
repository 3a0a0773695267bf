-- `after_semicolon` meets its contract: the `;` after a number is read with it, by the law of a number parted.
use mathlib.Core.Path.{sym, ◌∙◌}
use Rattle.fast.proofs.ArgumentLaws.{written-parted}
use Rattle.fast.proofs.argument.after_semicolon.Goals as goal

pub returns-then-next-eq59 : goal.returns-then-next-eq59
returns-then-next-eq59 c =
    let next = c.in_ok-next.ensures.lookup.3 in
    λ from written. written-parted _ _ written next.0 (sym (next.1 0) ∙ c.if-next-eq59.true)
