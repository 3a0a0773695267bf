-- Copying a picture out of a canvas (docs/RULES.md, section 10): 12 where the canvas has no such picture, then 14
-- where the other buffer is too short for it; else the picture's rows without gaps stand at the front of the other
-- buffer, and its later bytes stay. A refused copy writes nothing.
use Rattle.std.specs.Prelude.{ℕ, Result, Ok, Err, zero, suc, ◌*◌, Bool, cond, ◌&&◌, List, [], ◌++◌, length, take, drop, leb, ltb}
use Rattle.std.proofs.Math.Seq.{paste}
use Rattle.canvas.specs.Picture.{Area, fits}
use Rattle.canvas.specs.declared.Uncopied.{Uncopied}
use Rattle.canvas.specs.declared.Uncopied.TheVariants.{Misfit, Short}

-- rule 5.1: the number of each answer; 0 is none of the refusals
unfoldable pub number_of : Result (Unit {0}) Uncopied → ℕ
number_of (Ok _) = 0
number_of (Err Misfit) = 12
number_of (Err Short) = 14

-- rule 10.1: a canvas of so many bytes has a picture of this size: neither the stride nor the size is 0, and the area has room
unfoldable pub has_picture : ℕ → ℕ → Area → Bool
has_picture stride length area = ltb 0 stride && (ltb 0 area.width && (ltb 0 area.height && fits stride length area))

-- rule 10.2: so many rows without gaps: of each the bytes of the first `width` pixels
unfoldable pub packed : ℕ → ℕ → ℕ → List ℕ → List ℕ
packed stride width zero canvas = []
packed stride width (suc rows) canvas = take (4 * width) canvas ++ packed stride width rows (drop (4 * stride) canvas)

-- so many rows, of each the first `width` pixels, copied to another buffer, from the first stride to the second
unfoldable pub rows_copied : ℕ → ℕ → ℕ → ℕ → List ℕ → List ℕ → List ℕ
rows_copied stride stride' width zero canvas out = out
rows_copied stride stride' width (suc y) canvas out =
    paste (rows_copied stride stride' width y canvas out) (4 * (y * stride')) (drop (4 * (y * stride)) canvas) (4 * width)

-- the bytes of a picture without gaps
unfoldable pub size_of : Area → ℕ
size_of area = 4 * (area.width * area.height)

-- rules 10.1, 10.2: the number of the answer, and what the other buffer holds then
unfoldable pub copied : ℕ → Area → List ℕ → List ℕ → ℕ × List ℕ
copied stride area canvas out =
    cond (has_picture stride (length canvas) area)
    (cond (leb (size_of area) (length out)) (0, packed stride area.width area.height canvas ++ drop (size_of area) out) (14, out))
    (12, out)
