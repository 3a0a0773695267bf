-- The parameters of a header, on the code's own records.
use Rattle.std.specs.Prelude.{ℕ, cond, leb, Some, None}
use Rattle.numbers.specs.declared.Parameters.{Parameters}
use Rattle.numbers.specs.Step.{finished, value_at}
use Rattle.numbers.specs.Values.{held16}
use Rattle.payload.specs.Results.{Given}
use Rattle.payload.specs.declared.Settings.{Settings}

-- a value, where there are so many; it has 16 bits
unfoldable pub given_at : Parameters → ℕ → Given
given_at v i = cond (leb v.count i) None (Some (held16 (value_at v i)))

-- `q` closes the last number
unfoldable pub settings_from : Parameters → Settings
unfolding given_at
settings_from h = record { p1 = given_at (finished h) 0; p2 = given_at (finished h) 1 }
