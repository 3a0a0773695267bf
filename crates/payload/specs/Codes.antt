-- A parameter, a life, a kind and a colour as one number each, and back: for a session that lies in a caller's memory. Every number is one
-- of each.
use Rattle.std.specs.Prelude.{ℕ, ◌+◌, ◌-◌, ◌*◌, ◌/◌, ◌%◌, cond, List, [], ◌∷◌, ◌==◌, nat_lt, slice_index, Some, None}
use Rattle.colours.specs.Packing.{packed}
use Rattle.frame.specs.declared.Kind.{Kind}
use Rattle.frame.specs.declared.Kind.TheVariants as kinds
use Rattle.payload.specs.Results.{Given}
use Rattle.payload.specs.declared.Life.{Life}
use Rattle.payload.specs.declared.Life.TheVariants as lives

-- a parameter is its number, and 65,536 where it is missing
unfoldable pub given_number : Given → ℕ
given_number None = 65536
given_number (Some n) = n

unfoldable pub given_from : ℕ → Given
given_from n = cond (nat_lt n 65536) (Some n) None

-- 0 failed, 1 live, and 2 more than the byte that ended it
unfoldable pub life_number : Life → ℕ
life_number lives.Live = 1
life_number (lives.Ended b) = b + 2
life_number lives.Failed = 0

unfoldable pub life_from : ℕ → Life
life_from n = cond (n == 0) lives.Failed (cond (n == 1) lives.Live (lives.Ended ((n - 2) % 256)))

-- 0 none pending, 1 a repeat, 2 a colour, 3 a raster
unfoldable pub kind_number : Kind → ℕ
kind_number kinds.Data = 0
kind_number kinds.Repeat = 1
kind_number kinds.Color = 2
kind_number kinds.Raster = 3

unfoldable pub kind_from : ℕ → Kind
kind_from n = cond (n == 0) kinds.Data (cond (n == 1) kinds.Repeat (cond (n == 2) kinds.Color kinds.Raster))

-- a packed colour, its alpha above red, green and blue
unfoldable pub color_number : List ℕ → ℕ
color_number px = slice_index px 3 * 16777216 + packed (slice_index px 0) (slice_index px 1) (slice_index px 2)

unfoldable pub color_from : ℕ → List ℕ
color_from n = n / 65536 % 256 ∷ n / 256 % 256 ∷ n % 256 ∷ n / 16777216 % 256 ∷ []
