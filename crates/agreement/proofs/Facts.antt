-- What code that stands for a drawing can rely on.
use Prim.Native.Nat.{ℕ}
use mathlib.Core.Path.{◌≡◌, ap, ◌∙◌}
use mathlib.Core.List.{List}
use lib.ListN.{length}
use Rattle.colours.specs.declared.Palette.{Palette}
use Rattle.canvas.specs.Picture.{rows_of}
use Rattle.canvas.proofs.Pictures.{length-picture}
use Rattle.frame.specs.declared.Frame.{Frame}
use Rattle.frame.specs.declared.Ground.{Ground}
use Rattle.reference.specs.Step.{Fits}
use Rattle.meaning.specs.Drawing.{Setting, Drawing}
use Rattle.agreement.specs.Same.{ground_of, frame_of, canvas_of, SameDrawing}
use Rattle.agreement.proofs.Settle.{same-fact}

module _ {s : Setting} {opening : List ℕ} {d : Drawing} {g : Ground} {f : Frame} {p : Palette} {l : List ℕ} (same : SameDrawing s opening d g f p l) where
  -- the canvas keeps its length
  pub same_length : length l ≡ length opening
  unfolding canvas_of
  same_length = ap length same.canvas ∙ length-picture s.stride d.area d.background d.strokes opening

  -- where the rows are those of a canvas, the visible area has room on it
  pub same-fits : (n : ℕ) → s.rows ≡ rows_of n s.stride → Fits f g n
  unfolding frame_of ground_of
  same-fits n rows =
      same-fact (λ g f p l. Fits f g n) same (record { rows = rows; width = same.sound.fits.stride; height = same.sound.fits.rows })
