-- What reading all at once answers, as numbers, in the definition's terms (docs/RULES.md, section 8).
use Rattle.std.specs.Prelude.{ℕ, ◌-◌, cond, List, [], ◌∷◌, length}
use Rattle.std.proofs.Math.Option.{Option, none, some}
use Rattle.colours.specs.declared.Palette.{Palette}
use Rattle.meaning.specs.Calls.{part_handed_back}
use Rattle.meaning.specs.Drawing.{Limits}
use Rattle.meaning.specs.Payload.{Ratio, by_raster, left_to_p1, Finished, finished, turned_down}
use Rattle.oneshot.specs.OneShot.{Read, read_whole}

-- P1: 0 and 0 where there is none, 1 and its number
unfoldable pub given_kind : Option ℕ → ℕ
given_kind none = 0
given_kind (some n) = 1

unfoldable pub given_number : Option ℕ → ℕ
given_number none = 0
given_number (some n) = n

-- a ratio: left to P1, or 2 and the raster's, so many to 1
unfoldable pub ratio_kind : Ratio → ℕ
unfolding given_kind
ratio_kind (by_raster n) = 2
ratio_kind (left_to_p1 p1) = given_kind p1

unfoldable pub ratio_number : Ratio → ℕ
unfolding given_number
ratio_number (by_raster n) = n
ratio_number (left_to_p1 p1) = given_number p1

-- the thirteen numbers of a report: size, extent, ratio, 1 for a transparent background, how many registers were defined, the declared size,
-- how many definitions had a held value, and the part's place and length; a refusal has the last two alone
unfoldable pub report_numbers : Finished → ℕ → ℕ → List ℕ
unfolding ratio_kind ratio_number
report_numbers (finished r) place part =
    r.size.width
    ∷ r.size.height
    ∷ r.extent.width
    ∷ r.extent.height
    ∷ ratio_kind r.ratio
    ∷ ratio_number r.ratio
    ∷ cond r.clear 1 0
    ∷ r.defined
    ∷ r.declared.width
    ∷ r.declared.height
    ∷ r.held
    ∷ place
    ∷ part
    ∷ []
report_numbers (turned_down n) place part = 0 ∷ 0 ∷ 0 ∷ 0 ∷ 0 ∷ 0 ∷ 0 ∷ 0 ∷ 0 ∷ 0 ∷ 0 ∷ place ∷ part ∷ []

-- 0, or the refusal's number
unfoldable pub refusal_number : Finished → ℕ
refusal_number (finished r) = 0
refusal_number (turned_down n) = n

-- the number, the canvas, the owner's palette and the report after reading; the part that is handed back reaches to the end of the bytes
unfoldable pub sixel_read : Limits → ℕ → List ℕ → List ℕ → Palette → ℕ × List ℕ × Palette × List ℕ
unfolding report_numbers refusal_number
sixel_read l stride canvas bytes p =
    let x : Read = read_whole l stride p canvas bytes in
    let part : ℕ = length (part_handed_back l stride (length canvas) bytes) in
    (refusal_number x.answer, x.canvas, x.palette, report_numbers x.answer (length bytes - part) part)
