-- `paint_repeated` meets its contract: its ink is within what is left, or nothing is taken; the area has room for the sixel.
use mathlib.Core.Path.{refl}
use native.Mathlib.Omega.{arith}
use borrow.Author.Rules.{rules}
use Prim.Native.Nat.{◌-◌, ◌<◌}
use lib.ListN.{length, get_or}
use Rattle.reference.proofs.StepLaws.{sixel-least, ink-room, held-room, sixel-room, sixel-bits}
use Rattle.fast.proofs.RunSteps.{sixel-ones}
use Rattle.fast.proofs.AdvanceLaws.{sixel-advances}
use Rattle.fast.proofs.RunLaws.{nothing-advances}
use Rattle.fast.proofs.drawn.paint_repeated.Goals as goal

pub overflow_sub-bits : goal.overflow_sub-bits
overflow_sub-bits c = sixel-least _ refl c.requires.4

pub overflow_cast-ones : goal.overflow_cast-ones
overflow_cast-ones c = omega (arith, sixel-ones _ c.requires.4)

pub overflow_mul-ink : goal.overflow_mul-ink
overflow_mul-ink c =
    let a = c.args in
    let b = get_or a.bytes.now a.from 0 in
    let small : b - 63 < 256 = omega (arith, sixel-bits b c.requires.4) in
    omega (arith, ink-room a.frame a.ground (b - 63) a.area.width a.area.height (length a.canvas.now) small c.requires.0 c.requires.1)

pub returns-then-left-ink : goal.returns-then-left-ink
returns-then-left-ink c =
    λ p. nothing-advances _ _ _ _ _ p _ c.requires.0 (omega (arith, c.requires.3)) c.nothing.ensures

pub grow-requires : goal.grow-requires
grow-requires c = search (rules, held-room)

pub paint_rows-requires : goal.paint_rows-requires
paint_rows-requires c =
    let room = sixel-room c.args.frame c.args.ground _ _ _ _ c.grow.auto.canvas c.requires.0 c.requires.1 in
    (room.0, room.1, sixel-bits _ c.requires.4)

pub after_sixel-requires : goal.after_sixel-requires
after_sixel-requires c =
    (search rules, search rules, sixel-bits _ c.requires.4)

pub overflow_add-from : goal.overflow_add-from
overflow_add-from c =
    omega (arith, c.requires.3, c.ranges.left.fits)

pub returns : goal.returns
returns c =
    let a = c.args in
    λ p.
    sixel-advances a.frame a.ground a.bytes.now a.from a.area.width a.area.height p a.canvas.now c.requires.0 c.requires.1 c.requires.2
    c.requires.3
    c.requires.4
    c.requires.5
    a.left
    (omega (arith, c.if-left-ink.false))
    c.grow.ensures
    c.paint_rows.ensures
    c.after_sixel.ensures
    c.advance_to.ensures
