-- What the code does with bytes one after the other, on its own records.
use Rattle.std.specs.Prelude.{ℕ, suc, ◌+◌, ◌-◌, cond, List, [], ◌∷◌, eqb}
use Rattle.colours.specs.declared.Palette.{Palette}
use Rattle.frame.specs.declared.Frame.{Frame}
use Rattle.frame.specs.declared.Ground.{Ground}
use Rattle.frame.specs.declared.Outcome.{Outcome}
use Rattle.frame.specs.declared.Outcome.TheVariants as outcomes
use Rattle.frame.specs.declared.Progress.{Progress}
use Rattle.reference.specs.Step.{Reached, step_of, data_step}

-- a byte that ended the pending command is then read itself
unfoldable pub then_data : Outcome → Reached → Ground → ℕ → ℕ → Reached
unfolding data_step
then_data outcomes.Read t g b left =
    cond (eqb t.progress.consumed 0) (data_step t.progress.frame g b left t.palette t.canvas) t
then_data outcomes.Stopped t g b left = t
then_data (outcomes.Ended e) t g b left = t
then_data (outcomes.Refused r) t g b left = t

unfoldable pub byte_step : Frame → Ground → ℕ → ℕ → Palette → List ℕ → Reached
unfolding step_of then_data
byte_step f g b left p l = let t : Reached = step_of f g b left p l in then_data t.progress.outcome t g b left

unfoldable pub reached_as : Frame → ℕ → ℕ → Outcome → Palette → List ℕ → Reached
reached_as f consumed ink o p l =
    record { progress = record { frame = f; consumed = consumed; ink = ink; outcome = o }; palette = p; canvas = l }

-- a byte that was read is followed by the others, and any other ends the reading
unfoldable pub go_on : Outcome → Reached → ℕ → ℕ → (ℕ → ℕ → Frame → Palette → List ℕ → Reached) → Reached
unfolding reached_as
go_on outcomes.Read t n i later = later (n + 1) (i + t.progress.ink) t.progress.frame t.palette t.canvas
go_on outcomes.Stopped t n i later = reached_as t.progress.frame n i outcomes.Stopped t.palette t.canvas
go_on (outcomes.Ended b) t n i later = reached_as t.progress.frame n i (outcomes.Ended b) t.palette t.canvas
go_on (outcomes.Refused r) t n i later = reached_as t.progress.frame n i (outcomes.Refused r) t.palette t.canvas

-- the bytes that are left, after `n` bytes and ink `i`
unfoldable pub feed_from : Ground → ℕ → List ℕ → ℕ → ℕ → Frame → Palette → List ℕ → Reached
unfolding byte_step go_on reached_as
feed_from g allowance [] n i f p l = reached_as f n i outcomes.Read p l
feed_from g allowance (b ∷ bs) n i f p l =
    let t : Reached = byte_step f g b (allowance - i) p l in
    go_on t.progress.outcome t n i (λ n' i' f' p' l'. feed_from g allowance bs n' i' f' p' l')
