-- `joined` meets its contract: the pen made anew is the pen, and a command was read where one of the two read it.
use mathlib.Core.Path.{refl}
use Rattle.reading.specs.Loop.{joined_to}
use Rattle.reading.proofs.joined.Goals as goal
use Rattle.reading.proofs.joined.Goals.{then-before, else-before}

pub returns : goal.returns
unfolding joined_to
returns c =
    elim c.if-before.branch [
      | then-before w ↦ rw (c.renewed_pen.ensures, w.result-is, w.if-before.true) refl
      | else-before w ↦ rw (c.renewed_pen.ensures, w.result-is, w.if-before.false) refl
    ]
