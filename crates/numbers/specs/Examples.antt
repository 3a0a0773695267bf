-- Worked examples of the definitions, computed.
use Rattle.std.specs.Prelude.{◌≡◌, refl, [], ◌∷◌}
use Rattle.numbers.specs.Bytes.{digit, between}
use Rattle.numbers.specs.Values.{decimal, values}

-- `1`, 0A, `2` is 12
pub split-number : decimal (0x31 ∷ 0x0A ∷ 0x32 ∷ []) ≡ 12
unfolding decimal digit between
split-number = refl

-- nothing has no value
pub nothing : values 5 [] ≡ []
unfolding values
nothing = refl

-- skipped bytes alone have none
pub skipped-alone : values 5 (0x0A ∷ 0x0D ∷ []) ≡ []
unfolding values digit between
skipped-alone = refl

-- `;` has two zeros
pub two-zeros : values 3 (0x3B ∷ []) ≡ 0 ∷ 0 ∷ []
unfolding values digit between
two-zeros = refl

-- `1;2;100;0` has four values
pub four-values : values 5 (0x31 ∷ 0x3B ∷ 0x32 ∷ 0x3B ∷ 0x31 ∷ 0x30 ∷ 0x30 ∷ 0x3B ∷ 0x30 ∷ []) ≡ 1 ∷ 2 ∷ 100 ∷ 0 ∷ []
unfolding values digit between
four-values = refl

-- `1;2;100;0;` has five
pub five-values : values 5 (0x31 ∷ 0x3B ∷ 0x32 ∷ 0x3B ∷ 0x31 ∷ 0x30 ∷ 0x30 ∷ 0x3B ∷ 0x30 ∷ 0x3B ∷ [])
    ≡ 1 ∷ 2 ∷ 100 ∷ 0 ∷ 0 ∷ []
unfolding values digit between
five-values = refl

-- `9999999999` saturates
pub held_number
    : values 4 (0x39 ∷ 0x39 ∷ 0x39 ∷ 0x39 ∷ 0x39 ∷ 0x39 ∷ 0x39 ∷ 0x39 ∷ 0x39 ∷ 0x39 ∷ []) ≡ 2147483647 ∷ []
unfolding values digit between
held_number = refl

-- of `1;2;3;4;5;6` a colour drops the sixth
pub sixth-dropped : values 5 (0x31 ∷ 0x3B ∷ 0x32 ∷ 0x3B ∷ 0x33 ∷ 0x3B ∷ 0x34 ∷ 0x3B ∷ 0x35 ∷ 0x3B ∷ 0x36 ∷ [])
    ≡ 1 ∷ 2 ∷ 3 ∷ 4 ∷ 5 ∷ []
unfolding values digit between
sixth-dropped = refl

-- and a raster the fifth and sixth
pub fifth-dropped : values 4 (0x31 ∷ 0x3B ∷ 0x32 ∷ 0x3B ∷ 0x33 ∷ 0x3B ∷ 0x34 ∷ 0x3B ∷ 0x35 ∷ 0x3B ∷ 0x36 ∷ [])
    ≡ 1 ∷ 2 ∷ 3 ∷ 4 ∷ []
unfolding values digit between
fifth-dropped = refl
