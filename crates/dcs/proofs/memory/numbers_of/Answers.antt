-- `dcs::memory::numbers_of` meets its contract: the payload session's numbers, with phase and header written over the zeros.
use Rattle.dcs.specs.Memory.{nine_written}
use Rattle.dcs.proofs.MemoryLaws.{numbers-told}
use Rattle.dcs.proofs.memory.numbers_of.Goals as goal

pub returns : goal.returns
unfolding nine_written
returns c p = numbers-told _ c.numbers_of-values.ensures (c.numbers_of-numbers.ensures p) c.phase_number.ensures
