-- `read_run` meets its contract: its sixels are at most a sixth of the ink that is left, so their ink is within it, whichever way they are
-- painted.
use native.Mathlib.Omega.{arith}
use Rattle.fast.proofs.RunLaws.{nothing-advances}
use Rattle.fast.proofs.run.read_run.Goals as goal

pub returns-then-most-eq0 : goal.returns-then-most-eq0
returns-then-most-eq0 c =
    λ p. nothing-advances c.args.frame c.args.ground _ _ c.args.left p _ c.requires.0 (omega (arith, c.requires.3)) c.nothing.ensures
