-- `ink_of_four` meets its contract: each has no more than six ones.
use Prim.Native.Nat.{◌≤◌}
use native.Mathlib.Omega.{arith}
use lib.ListN.{get_or}
use lib.Count.{ones, ones-le}
use Rattle.fast.specs.Blend.{four_ink}
use Rattle.fast.proofs.blend.ink_of_four.Goals as goal
use Rattle.fast.proofs.blend.ink_of_four.Goals.{Start}

-- the ink of each
few : (c : Start) → (ones (get_or c.args.four 0 0) ≤ 6) × (ones (get_or c.args.four 1 0) ≤ 6) × (ones (get_or c.args.four 2 0) ≤ 6) × (ones (get_or c.args.four 3 0) ≤ 6)
few c = (ones-le 6 _ c.requires.0, ones-le 6 _ c.requires.1, ones-le 6 _ c.requires.2, ones-le 6 _ c.requires.3)

pub overflow_add-result : goal.overflow_add-result
overflow_add-result c =
    omega (arith, few (goal.at.overflow_add-result c).Start, c.ink_of.ensures, c.ink_of-2.ensures)

pub overflow_add-result-2 : goal.overflow_add-result-2
overflow_add-result-2 c =
    omega (arith, few (goal.at.overflow_add-result-2 c).Start, c.ink_of.ensures, c.ink_of-2.ensures, c.ink_of-3.ensures)

pub overflow_add-result-3 : goal.overflow_add-result-3
overflow_add-result-3 c =
    omega (arith, few (goal.at.overflow_add-result-3 c).Start, c.ink_of.ensures, c.ink_of-2.ensures, c.ink_of-3.ensures, c.ink_of-4.ensures)

pub returns : goal.returns
unfolding four_ink
returns c =
    omega (arith, c.ink_of.ensures, c.ink_of-2.ensures, c.ink_of-3.ensures, c.ink_of-4.ensures)
