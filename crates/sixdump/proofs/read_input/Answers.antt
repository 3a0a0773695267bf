use Rattle.sixdump.proofs.TakenLaws.{taken_none, taken-one, taken_more}
use Rattle.sixdump.proofs.read_input.Goals as goal

pub loop-init : goal.loop-init
loop-init g c = taken_none _ _

pub loop-preserved : goal.loop-preserved
loop-preserved g c = taken_more _ _ c.loop.invariant (taken-one _ _ _ c.take-reader.ensures)

pub returns-then-not-matches : goal.returns-then-not-matches
returns-then-not-matches g c = taken_more _ _ c.loop.invariant (taken-one _ _ _ c.take-reader.ensures)
