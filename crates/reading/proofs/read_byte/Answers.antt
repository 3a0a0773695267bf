-- `read_byte` meets its contract: a step whose frame is made anew is the step.
use Prim.Native.Nat.{ℕ}
use mathlib.Core.Path.{◌≡◌, ◌∙◌, ap}
use mathlib.Core.List.{List}
use Rattle.colours.specs.declared.Palette.{Palette}
use Rattle.frame.specs.declared.Frame.{Frame}
use Rattle.frame.specs.declared.Progress.{Progress}
use Rattle.reference.specs.Step.{Reached}
use Rattle.reading.proofs.read_byte.Goals as goal

step-anew : {f : Frame} {s : Progress} {p : Palette} {l : List ℕ} {x : Reached} → f ≡ s.frame
    → ◌≡◌ {A = Reached} (record { progress = s; palette = p; canvas = l }) x
    → ◌≡◌ {A = Reached}
    (record { progress = record { frame = f; consumed = s.consumed; ink = s.ink; outcome = s.outcome }; palette = p; canvas = l })
    x
step-anew {s = s} {p = p} {l = l} e q =
    ap {B = Reached}
    (λ (g : Frame).
    record { progress = record { frame = g; consumed = s.consumed; ink = s.ink; outcome = s.outcome }; palette = p; canvas = l })
    e
    ∙ q

pub returns : goal.returns
returns c = step-anew c.renewed.ensures c.step-read.ensures
