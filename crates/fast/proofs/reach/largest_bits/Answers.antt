use Prim.Native.Nat.{◌+◌, ◌-◌, ◌<◌}
use mathlib.Core.Path.{refl, sym}
use native.Mathlib.Omega.{arith}
use borrow.Author.Rules.{rules}
use Rattle.reference.proofs.StepLaws.{sixel-least}
use Rattle.fast.proofs.ReachLaws.{part-at, largest-none, largest-more}
use Rattle.fast.proofs.reach.largest_bits.Goals as goal

pub loop-byte-init : goal.loop-byte-init
loop-byte-init c = (omega arith, largest-none _ _)

pub loop-byte-preserved : goal.loop-byte-preserved
loop-byte-preserved c =
    let a = c.args in
    let k = c.loop-byte.byte-index in
    let more : k < a.from + a.count - a.from = search rules in
    let six = c.requires.each (a.from + k) (omega arith) (omega (arith, more)) in
    let this = part-at a.bytes.now a.from a.count k (omega (arith, more)) in
    (omega (arith, more), largest-more a.bytes.now a.from k (sixel-least _ refl six) c.loop-byte.invariant.1 (rw (sym this) c.max-most.ensures))
