-- `ends_argument` meets its contract: three tests, one after the other.
use native.Mathlib.Omega.{arith}
use borrow.Author.Rules.{rules}
use Rattle.std.proofs.lemmas.Grind.{common_steps}
use Rattle.fast.specs.Argument.{closing}
use Rattle.fast.proofs.argument.ends_argument.Goals as goal
use Rattle.fast.proofs.argument.ends_argument.Goals.{then-not-is_digit, else-not-is_digit}

pub returns-then-not-is_skipped : goal.returns-then-not-is_skipped
unfolding closing
returns-then-not-is_skipped c =
    elim c.if-not-is_digit.branch [ then-not-is_digit w ↦ grind (arith, common_steps) | else-not-is_digit w ↦ search rules ]

pub returns-else-not-is_skipped : goal.returns-else-not-is_skipped
unfolding closing
returns-else-not-is_skipped c =
    elim c.if-not-is_digit.branch [ then-not-is_digit w ↦ search rules | else-not-is_digit w ↦ search rules ]
