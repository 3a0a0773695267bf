-- What the bytes of an argument mean (docs/RULES.md, section 2): the values are what stands between the `;`.
-- The bytes are those after the command's own and before the one that ends it: digits, `;` and skipped ones.
-- Whatever is no digit and no `;` is passed over, so a skipped byte inside a number makes no difference.
use Rattle.std.specs.Prelude.{ℕ, ◌+◌, ◌-◌, ◌*◌, min, Bool, false, ◌||◌, cond, List, [], ◌∷◌, map, eqb, take}
use Rattle.numbers.specs.Bytes.{digit, semicolon}

-- a digit extends a number, another byte leaves it
unfoldable pub extended : ℕ → ℕ → ℕ
extended n b = cond (digit b) (n * 10 + (b - 0x30)) n

-- the number `n` extended by each of the bytes
unfoldable pub decimal_from : ℕ → List ℕ → ℕ
unfolding extended
decimal_from n [] = n
decimal_from n (b ∷ bs) = decimal_from (extended n b) bs

-- rule 2.8: the digits among the bytes as one decimal number, 0 where there are none: a repeat's number is this
unfoldable pub decimal : List ℕ → ℕ
unfolding decimal_from
decimal bs = decimal_from 0 bs

-- rule 2.10: colour, raster and header numbers stop at 2,147,483,647
unfoldable pub held : ℕ → ℕ
held n = min n 2147483647

-- rule 2.10: P1 to P3 then stop at 65,535
unfoldable pub held16 : ℕ → ℕ
held16 n = min n 65535

-- a byte put before the first of some fields
unfoldable pub onto : ℕ → List (List ℕ) → List (List ℕ)
onto b [] = (b ∷ []) ∷ []
onto b (f ∷ fs) = (b ∷ f) ∷ fs

-- one byte more in front: `;` parts, another belongs to the first field
unfoldable pub parted : ℕ → List (List ℕ) → List (List ℕ)
unfolding onto
parted b fs = cond (eqb b semicolon) ([] ∷ fs) (onto b fs)

-- rule 2.9: what stands between the `;`: always one field more than there are `;`
unfoldable pub fields : List ℕ → List (List ℕ)
unfolding parted
fields [] = [] ∷ []
fields (b ∷ bs) = parted b (fields bs)

-- the number of a field
unfoldable pub number : List ℕ → ℕ
unfolding decimal held
number f = held (decimal f)

-- a digit or a `;` stands among the bytes
unfoldable pub written : List ℕ → Bool
written [] = false
written (b ∷ bs) = digit b || (eqb b semicolon || written bs)

-- rules 2.9, 2.10: the values of an argument with so many places: none where nothing is written, else the numbers of its
-- fields, and those past the last place are dropped
unfoldable pub values : ℕ → List ℕ → List ℕ
unfolding number fields written
values places bs = cond (written bs) (take places (map number (fields bs))) []
