-- What a reader's text comes to from its parts.
-- Assumes nothing.
use mathlib.Core.Path.{◌≡◌, sym, ap}
use mathlib.Core.List.{List}
use Prim.Native.Nat.{ℕ}
use Rattle.text.specs.Text.{put}
use Rattle.colours.specs.declared.Palette.{Palette}
use Rattle.payload.specs.declared.Finished.{Finished}
use Rattle.dcs.specs.declared.Ending.{Ending}
use Rattle.pieces.specs.declared.Counts.{Counts}
use Rattle.pieces.specs.declared.Reader.{Reader}
use Rattle.pieces.specs.declared.Standing.{Standing}
use Rattle.pieces.specs.Pieces.{finished_by}
use Rattle.dump.specs.Outcome.{ending_of, finish_text, dumped_by}

pub outcome_put : (reader : Reader) (owner : Palette) (stride : ℕ) (canvas later out : List ℕ) (standing : Standing) (ending : Ending)
    (counts : Counts) (finished : Finished) (after : ℕ × List ℕ) → standing ≡ reader.standing → ending ≡ ending_of standing
    → counts ≡ reader.counts → (finished, later) ≡ finished_by reader owner canvas
    → after ≡ put (finish_text finished.answer ending counts stride later) (0, out)
    → (after, later) ≡ dumped_by reader owner stride canvas out
unfolding dumped_by
outcome_put reader owner stride canvas later out standing ending counts finished after s e c f h =
    let text : List ℕ = finish_text finished.answer (ending_of reader.standing) reader.counts stride later in
    let whole : after ≡ put text (0, out) = rw (e, s, c) at h in
    rw (sym f) (ap {B = (ℕ × List ℕ) × List ℕ} (λ (x : ℕ × List ℕ). (x, later)) whole)
