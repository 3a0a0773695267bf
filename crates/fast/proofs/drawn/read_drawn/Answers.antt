-- `read_drawn` meets its contract: the sixel is one advance, and a repeat command before it is read with it.
use native.Mathlib.Omega.{arith}
use Rattle.fast.proofs.AdvanceLaws.{drawn-fits, drawn-advances}
use Rattle.fast.proofs.RunLaws.{nothing-advances}
use Rattle.fast.proofs.drawn.read_drawn.Goals as goal

pub returns-in_default : goal.returns-in_default
returns-in_default c =
    λ p. nothing-advances _ _ _ _ _ p _ c.requires.0 (omega (arith, c.requires.2)) c.nothing.ensures

pub read_repeated-advance-requires : goal.read_repeated-advance-requires
read_repeated-advance-requires c =
    let a = c.args in
    drawn-fits a.frame a.ground a.bytes.now a.from _ c.requires.0 c.requires.1 c.requires.2 c.in-Some.ensures c.drawing.ensures

pub returns : goal.returns
returns c =
    let a = c.args in
    λ p.
    drawn-advances a.frame a.ground a.bytes.now a.from a.left p a.canvas.now c.requires.0 c.requires.1 c.requires.2 c.in-Some.ensures
    c.drawing.ensures
    (c.read_repeated-advance.ensures p)
    c.settled_if.ensures
