-- What the code finds, and the whole outcome of reading all at once, in the definition's terms (docs/RULES.md, section 8).
use Rattle.std.specs.Prelude.{ℕ, ◌+◌, ◌-◌, cond, List, length, drop, ◌==◌, nat_le, Ok, Err}
use Rattle.std.proofs.Math.Option.{some}
use Rattle.colours.specs.declared.Palette.{Palette}
use Rattle.frame.specs.Numbers.{number_of}
use Rattle.meaning.specs.Calls.{shown, one_shot_shown, read_one_shot}
use Rattle.meaning.specs.Drawing.{Limits, Setting, Outcome}
use Rattle.meaning.specs.OneShot as meaning
use Rattle.meaning.specs.Payload as meant
use Rattle.payload.specs.declared.Finished.{Finished}
use Rattle.payload.specs.Meant.{parameters_meant, finish_meant}
use Rattle.oneshot.specs.Search.{Found}

-- without a payload: 8 says that bytes are missing, another number refuses
unfoldable pub unfound_meant : ℕ → meaning.Found
unfound_meant n = cond (n == 8) meaning.lacking (meaning.refused_with n)

-- what was found in some bytes: parameters and the part from a place on, or a refusal's number
unfoldable pub found_meant : List ℕ → Found → meaning.Found
unfolding unfound_meant
found_meant bs (Ok f) = meaning.found (parameters_meant f.settings) (drop f.from bs)
found_meant bs (Err n) = unfound_meant (number_of n)

-- the whole outcome of a reading: its answer, the owner's palette after it, and every byte of the canvas
pub record Read : Type 0 where
  pub answer : meant.Finished
  pub palette : Palette
  pub canvas : List ℕ

-- the owner's palette becomes the picture's, and stays on a refusal
unfoldable pub palette_after : meant.Finished → Palette → Palette
palette_after (meant.finished r) owner = r.palette
palette_after (meant.turned_down n) owner = owner

-- all at once
unfoldable pub read_whole : Limits → ℕ → Palette → List ℕ → List ℕ → Read
unfolding palette_after
read_whole l stride p canvas bytes =
    let answer : meant.Finished = read_one_shot l stride (length canvas) p bytes in
    record { answer = answer; palette = palette_after answer p; canvas = one_shot_shown l stride (length canvas) p bytes canvas }

-- what a payload's outcome is read as
unfoldable pub read_outcome : Setting → meant.Parameters → Palette → List ℕ → Outcome → Read
unfolding palette_after
read_outcome s o p canvas out =
    let answer : meant.Finished = meant.finish o out in
    record { answer = answer; palette = palette_after answer p; canvas = shown s.stride (some out.drawing) canvas }

-- a payload that was found
unfoldable pub read_part : Setting → meant.Parameters → Palette → List ℕ → List ℕ → Read
unfolding read_outcome
read_part s o p canvas part = read_outcome s o p canvas (meant.payload s o p part)

-- where a piece that begins at a place ends: so many bytes on, or at the end of all where fewer are left or that number is 0
unfoldable pub piece_end : ℕ → ℕ → ℕ → ℕ
piece_end at size chunk = cond (chunk == 0) size (cond (nat_le (size - at) chunk) size (at + chunk))

-- what the code answers, with the canvas after it
unfoldable pub read_meant : Finished → List ℕ → Read
unfolding finish_meant
read_meant r canvas = record { answer = finish_meant r.answer r.palette; palette = r.palette; canvas = canvas }
