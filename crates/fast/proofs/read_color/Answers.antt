-- `read_color` meets its contract: one number selects, five define and select, and anything else is left to the reference machine.
use native.Mathlib.Omega.{arith}
use Rattle.fast.proofs.AdvanceLaws.{select-advances, define-advances}
use Rattle.fast.proofs.RunLaws.{nothing-advances}
use Rattle.fast.proofs.read_color.Goals as goal

pub returns-in_default : goal.returns-in_default
returns-in_default c =
    λ g l left fits. nothing-advances _ g _ _ left _ l fits (omega (arith, c.requires.1)) c.nothing.ensures

pub returns-then-is_last : goal.returns-then-is_last
returns-then-is_last c =
    λ g l left fits.
    select-advances _ g _ _ left _ l fits c.requires.0 c.requires.1 c.requires.2
    (c.is_last.ensures c.if-is_last.true _ c.in-Some.ensures)
    c.selected.ensures

pub define-held-requires : goal.define-held-requires
define-held-requires c =
    let d = c.in-Some-read_definition.ensures _ c.in-Some.ensures in
    (omega (arith, d.x), omega (arith, d.y), omega (arith, d.z))

pub returns-in-Some-read_definition : goal.returns-in-Some-read_definition
returns-in-Some-read_definition c =
    λ g l left fits.
    define-advances _ g _ _ left _ l fits c.requires.0 c.requires.1 c.requires.2 (c.in-Some-read_definition.ensures _ c.in-Some.ensures)
    c.register_at.ensures
    c.define-held.ensures
    c.more_held.ensures
    c.selected-in-Some-read_definition.ensures

pub returns : goal.returns
returns c =
    λ g l left fits. nothing-advances _ g _ _ left _ l fits (omega (arith, c.requires.1)) c.nothing-2.ensures
