-- What the code's records have read.
use Rattle.std.specs.Prelude.{ℕ, min, List, ◌≡◌}
use Rattle.numbers.specs.Values.{decimal}
use Rattle.numbers.specs.Step.{opened, fed, ceiling}
use Rattle.numbers.specs.declared.Parameters.{Parameters}

-- the record, opened with so many places, has read these bytes
pub record Read (places : ℕ) (bs : List ℕ) (p : Parameters) : Type 0 where
  pub same : p ≡ fed (opened places) bs

-- a repeat's number, saturated at the ceiling, after these bytes
pub record Counted (bs : List ℕ) (n : ℕ) : Type 0 where
  pub same : n ≡ min (decimal bs) ceiling
