-- A stream that is taken in pieces, one after the other, the canvas given back each time as it was left.
use Rattle.std.specs.Prelude.{ℕ, zero, suc, ◌+◌, cond, List, [], ◌∷◌, ◌++◌, eqb, length, drop}
use Rattle.frame.specs.Numbers.{number_of}
use Rattle.meaning.specs.Reader.{How, read_all, halted, refused_by}
use Rattle.pieces.specs.declared.Called.{Called}
use Rattle.pieces.specs.declared.Reader.{Reader}
use Rattle.pieces.specs.declared.Standing.{Standing}
use Rattle.pieces.specs.declared.Standing.TheVariants as standings
use Rattle.pieces.specs.Pieces.{called_by, taken_by}

-- the stream of some pieces
unfoldable pub joined : List (List ℕ) → List ℕ
joined [] = []
joined (z ∷ zs) = z ++ joined zs

-- the reader and the canvas after them
unfoldable pub taken_all : Reader → List ℕ → List (List ℕ) → Reader × List ℕ
taken_all r canvas [] = (r, canvas)
taken_all r canvas (z ∷ zs) = let x : Reader × List ℕ = taken_by r canvas z in taken_all x.0 x.1 zs

-- ---- the calls that taking makes

-- of a piece, of which at most so many are made
unfoldable pub calls_for : ℕ → Reader → List ℕ → List ℕ → ℕ
calls_for zero r canvas bytes = 0
calls_for (suc n) r canvas bytes =
    let x : Called × List ℕ = called_by r canvas bytes in
    cond (eqb x.0.stopped 0) 1 (suc (calls_for n x.0.reader x.1 (drop x.0.stopped bytes)))

-- none after an end or a refusal
unfoldable pub calls_as : Standing → Reader → List ℕ → List ℕ → ℕ
unfolding calls_for
calls_as standings.Reading r canvas bytes = calls_for (suc (length bytes)) r canvas bytes
calls_as (standings.Ended e) r canvas bytes = 0
calls_as (standings.Refused n) r canvas bytes = 0

unfoldable pub calls_of_piece : Reader → List ℕ → List ℕ → ℕ
unfolding calls_as
calls_of_piece r canvas bytes = calls_as r.standing r canvas bytes

-- of all pieces; this number does not saturate, as the reader's own count does
unfoldable pub calls_of_all : Reader → List ℕ → List (List ℕ) → ℕ
unfolding calls_of_piece
calls_of_all r canvas [] = 0
calls_of_all r canvas (z ∷ zs) =
    let x : Reader × List ℕ = taken_by r canvas z in calls_of_piece r canvas z + calls_of_all x.0 x.1 zs

-- ---- how it stands

-- how the last call came to its end, as a reader says: it needs more, or the end has come, or a refusal with its number
unfoldable pub how_stood : Standing → How
how_stood standings.Reading = read_all
how_stood (standings.Ended e) = halted
how_stood (standings.Refused n) = refused_by (number_of n)
