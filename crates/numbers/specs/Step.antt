-- The step that the code takes, on its own record: one equation for each function. Every record has an answer, also one
-- whose count or places are above 5: a value is stored only where `count` is below both `places` and 5.
use Rattle.std.specs.Prelude.{ℕ, ◌+◌, ◌-◌, ◌*◌, min, Bool, true, false, ◌&&◌, cond, List, [], ◌∷◌, ltb, eqb, get_or, set, take}
use Rattle.numbers.specs.Bytes.{digit, semicolon}
use Rattle.numbers.specs.Values.{held}
use Rattle.numbers.specs.declared.Parameters.{Parameters}

-- a record that has read nothing, with so many places
unfoldable pub opened : ℕ → Parameters
opened places = record { values = 0 ∷ 0 ∷ 0 ∷ 0 ∷ 0 ∷ []; count = 0; current = 0; pending = false; places = places }

-- a place is left
unfoldable pub room : Parameters → Bool
room p = ltb p.count p.places && ltb p.count 5

-- a new number starts at 0
abbrev pub emptied : Parameters → Parameters
emptied p = record { values = p.values; count = p.count; current = 0; pending = p.pending; places = p.places }

-- and the number before it is in the next place
abbrev pub filled : Parameters → Parameters
filled p =
    record { values = set p.values p.count p.current; count = p.count + 1; current = 0; pending = p.pending; places = p.places }

-- the number goes to the next place, where one is left, and a new one starts
unfoldable pub stored : Parameters → Parameters
unfolding room
stored p = cond (room p) (filled p) (emptied p)

-- the same record, marked as having something to store at the end
unfoldable pub marked : Parameters → Parameters
marked p = record { values = p.values; count = p.count; current = p.current; pending = true; places = p.places }

-- the number with one digit more
abbrev pub lengthened : Parameters → ℕ → Parameters
lengthened p d =
    record { values = p.values; count = p.count; current = held (p.current * 10 + d); pending = true; places = p.places }

-- a digit extends the number, another byte changes nothing
unfoldable pub with_digit : Parameters → ℕ → Parameters
with_digit p b = cond (digit b) (lengthened p (b - 0x30)) p

-- `;` stores the number, and another follows
unfoldable pub with_semicolon : Parameters → Parameters
unfolding stored marked
with_semicolon p = marked (stored p)

-- one byte more: a digit, a `;`, or one that changes nothing
unfoldable pub pushed : Parameters → ℕ → Parameters
unfolding with_digit with_semicolon
pushed p b = cond (eqb b semicolon) (with_semicolon p) (with_digit p b)

-- all of the bytes, one after the other
unfoldable pub fed : Parameters → List ℕ → Parameters
unfolding pushed
fed p [] = p
fed p (b ∷ bs) = fed (pushed p b) bs

-- at the end of the argument the last number is stored, where a digit or a `;` was read
unfoldable pub finished : Parameters → Parameters
unfolding stored
finished p = cond p.pending (stored p) p

-- the values that a record holds
unfoldable pub kept : Parameters → List ℕ
kept p = take p.count p.values

-- the value at a place, 0 where there is none
unfoldable pub value_at : Parameters → ℕ → ℕ
unfolding kept held
value_at p i = held (get_or (kept p) i 0)

-- the ceiling of a repeat's number, above every repeat limit that can be opened (10^12)
abbrev pub ceiling : ℕ
ceiling = 1000000000010

-- one digit more of a repeat's number, saturated at the ceiling
unfoldable pub repeated : ℕ → ℕ → ℕ
repeated n b = cond (digit b) (min (n * 10 + (b - 0x30)) ceiling) n
