-- What is printed of a reader that has taken its bytes: the picture that its finish gives, or the refusal.
use Rattle.std.specs.Prelude.{ℕ, List, Ok, Err}
use Rattle.text.specs.Text.{put}
use Rattle.colours.specs.declared.Palette.{Palette}
use Rattle.payload.specs.declared.Finished.{Finished}
use Rattle.payload.specs.Results.{Finishing}
use Rattle.dcs.specs.declared.Ending.{Ending}
use Rattle.dcs.specs.declared.Ending.TheVariants as endings
use Rattle.pieces.specs.declared.Counts.{Counts}
use Rattle.pieces.specs.declared.Reader.{Reader}
use Rattle.pieces.specs.declared.Standing.{Standing}
use Rattle.pieces.specs.declared.Standing.TheVariants as standings
use Rattle.pieces.specs.Pieces.{finished_by}
use Rattle.dump.specs.Dump.{picture_text, refusal_text}

-- how the sequence ended; no picture is finished before its end, so the other two are never printed
unfoldable pub ending_of : Standing → Ending
ending_of standings.Reading = endings.Complete
ending_of (standings.Ended ending) = ending
ending_of (standings.Refused refusal) = endings.Complete

-- the text of a finish
unfoldable pub finish_text : Finishing → Ending → Counts → ℕ → List ℕ → List ℕ
finish_text (Ok report) ending counts stride canvas =
    picture_text ending counts.consumed counts.ink report stride canvas
finish_text (Err refusal) ending counts stride canvas = refusal_text refusal

-- the length of the text, the buffer and the canvas, after the finish of a reader
unfoldable pub dumped_by : Reader → Palette → ℕ → List ℕ → List ℕ → (ℕ × List ℕ) × List ℕ
dumped_by reader owner stride canvas out =
    let x : Finished × List ℕ = finished_by reader owner canvas in
    (put (finish_text x.0.answer (ending_of reader.standing) reader.counts stride x.1) (0, out), x.1)
