-- `extent_past` meets its contract: a long run by its first part and the rest, each shorter than the whole, and any other by what is found in it.
use Prim.Native.Nat.{◌≤◌}
use native.Mathlib.Omega.{arith}
use Rattle.fast.proofs.ReachLaws.{inked-most, largest-six, extent-found, extent-parts}
use Rattle.fast.proofs.reach.+extent_past.Goals as goal

pub returns-then-count-gt-PART : goal.returns-then-count-gt-PART
returns-then-count-gt-PART t c =
    let a = c.args in
    let long : 64 ≤ a.count = omega arith in
    extent-parts a.extent a.column a.row a.bytes.now a.from 64 a.count long c.extent_past-first.ensures c.extent_past.ensures

pub right_past-right-requires : goal.right_past-right-requires
right_past-right-requires t c =
    let a = c.args in
    omega (arith, c.inked_length-inked.ensures, inked-most a.bytes.now a.from a.count, c.requires.1)

pub bottom_after-bottom-requires : goal.bottom_after-bottom-requires
bottom_after-bottom-requires t c =
    let a = c.args in
    (c.requires.2, rw c.largest_bits.ensures (largest-six a.bytes.now a.from a.count c.requires.0))

pub returns : goal.returns
returns t c =
    let a = c.args in
    extent-found a.extent a.column a.row a.bytes.now a.from a.count c.requires.0 c.inked_length-inked.ensures c.right_past-right.ensures
    c.largest_bits.ensures c.bottom_after-bottom.ensures
