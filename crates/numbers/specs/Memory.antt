-- A record of values as nine numbers and back, for a session that lies in a caller's memory: the five values, how many there are, the
-- number being read, 1 where it is to be stored at the end, and the places.
use Rattle.std.specs.Prelude.{ℕ, ◌%◌, ◌<◌, cond, List, [], ◌∷◌, ◌≡◌, eqb, get_or, length}
use Rattle.numbers.specs.declared.Parameters.{Parameters}

unfoldable pub numbers_of : Parameters → List ℕ
numbers_of p =
    get_or p.values 0 0
    ∷ get_or p.values 1 0
    ∷ get_or p.values 2 0
    ∷ get_or p.values 3 0
    ∷ get_or p.values 4 0
    ∷ p.count
    ∷ p.current
    ∷ cond p.pending 1 0
    ∷ p.places
    ∷ []

-- the lowest 32 bits of the i-th number
abbrev pub low_at : List ℕ → ℕ → ℕ
low_at ns i = get_or ns i 0 % 4294967296

unfoldable pub parameters_from : List ℕ → Parameters
parameters_from ns =
    record {
      values = low_at ns 0 ∷ low_at ns 1 ∷ low_at ns 2 ∷ low_at ns 3 ∷ low_at ns 4 ∷ [];
      count = get_or ns 5 0;
      current = low_at ns 6;
      pending = eqb (get_or ns 7 0) 1;
      places = get_or ns 8 0;
    }

-- what each record of the code is: five values of 32 bits, and a number of 32 bits being read
pub record Ranged (p : Parameters) : Type 0 where
  pub five : length p.values ≡ 5
  pub values : (i : ℕ) → get_or p.values i 0 < 4294967296
  pub current : p.current < 4294967296
