-- What the benchmark's reading answers, in the definition's terms.
use Rattle.std.specs.Prelude.{ℕ, ◌+◌, ◌*◌, ◌^◌, ◌≤◌, cond, List, length, Ok, Err}
use Rattle.std.proofs.Math.Option.{some}
use Rattle.colours.specs.Palette.{standard}
use Rattle.meaning.specs.Calls.{setting_for, opens, shown}
use Rattle.meaning.specs.Drawing.{house_limits, Setting, Outcome}
use Rattle.meaning.specs.Payload.{no_parameters, payload, Finished, finished, turned_down, finish}
use Rattle.payload.specs.Results.{Finishing}

-- a picture's width x 2^32 + height, or the refusal's number
unfoldable pub size_or_number : Finished → ℕ
size_or_number (finished r) = r.size.width * 2 ^ 32 + r.size.height
size_or_number (turned_down n) = n

-- that of a payload with the standard palette, and the canvas after it; 11 and the canvas as it was where none can be opened
unfoldable pub bench_decoded : ℕ → List ℕ → List ℕ → ℕ × List ℕ
unfolding size_or_number
bench_decoded stride canvas bytes =
    let s : Setting = setting_for house_limits stride (length canvas) in
    let out : Outcome = payload s no_parameters standard bytes in
    cond (opens house_limits stride (length canvas))
    (size_or_number (finish no_parameters out), shown stride (some out.drawing) canvas)
    (11, canvas)

-- a picture of the code no larger than the house's limits
abbrev pub SizeWithin : Finishing → Type 0
SizeWithin (Ok r) = (r.width ≤ house_limits.width) × (r.height ≤ house_limits.height)
SizeWithin (Err n) = Unit {0}
