-- `bins::is_colour` meets its contract: slices of four bytes are equal exactly when each byte is. Assumes nothing.
use Rattle.std.proofs.Common.{◌≡◌, ◌+◌, ◌-◌, ◌*◌, length, arith}
use Rattle.std.proofs.lemmas.Bool.Decides.{same_from_decides}
use Rattle.std.proofs.lemmas.Slice.Eq.{bytes_eq-Decides}
use Rattle.bins.specs.Bins.{pixel}
use Rattle.bins.proofs.Pixels.{pixel-length, same-exactly}
use Rattle.bins.proofs.is_colour.Goals as goal

pub returns : goal.returns
unfolding pixel
returns c =
    let a = c.args in
    let four : 4 * a.p + 4 - 4 * a.p ≡ 4 = omega arith in
    let of-colour : length a.colour ≡ 4 = omega arith in
    same_from_decides _ _ (rw c.eq.ensures (rw four (bytes_eq-Decides _ _))) (same-exactly _ _ (pixel-length a.canvas.now a.p c.requires) of-colour)
