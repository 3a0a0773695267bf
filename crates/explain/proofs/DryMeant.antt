-- The machine without a canvas does what the reference machine does, whatever the canvas holds.
use Rattle.std.specs.Prelude.{◌≡◌, ℕ, ◌+◌, ◌-◌, ◌*◌, true, ◌&&◌, eqb, ltb, List, [], ◌∷◌}
use mathlib.Core.Path.{refl, ap, ◌∙◌}
use native.Mathlib.Omega.{arith}
use lib.Count.{ones}
use Rattle.numbers.specs.Bytes.{skipped, digit, sixel, ends, semicolon}
use Rattle.colours.specs.declared.Palette.{Palette}
use Rattle.canvas.proofs.Covers.{by-test}
use Rattle.frame.specs.declared.Frame.{Frame}
use Rattle.frame.specs.declared.Ground.{Ground}
use Rattle.frame.specs.declared.Kind.{Kind}
use Rattle.frame.specs.declared.Kind.TheVariants as kinds
use Rattle.frame.specs.declared.Outcome.{Outcome}
use Rattle.frame.specs.declared.Outcome.TheVariants as outcomes
use Rattle.frame.specs.declared.Progress.{Progress}
use Rattle.frame.specs.declared.VisibleArea.{VisibleArea}
use Rattle.frame.specs.declared.Refusal.{Refusal}
use Rattle.std.specs.Prelude.{Result, Ok, Err}
use Rattle.frame.specs.Commands.{Ended}
use Rattle.frame.specs.Sizes.{sixel_area}
use Rattle.reference.specs.Step.{Reached, painted_on, drawn_in, drawn_by, data_step, takes_semicolon, settled_step, argument_step, step_in, step_of}
use Rattle.reference.specs.Feed.{then_data, byte_step, reached_as, go_on, feed_from}
use Rattle.explain.specs.declared.dry.Led.{Led}
use Rattle.explain.specs.Dry.{inked_dry, drawn_dry_in, drawn_dry, data_dry, argument_dry, step_dry_in, step_dry, then_dry, byte_dry, cost_of, led_as, go_on_dry, dry_from}

-- where the reference machine came to, without its canvas
abbrev pub uncanvassed : Reached → Ended
uncanvassed t = record { progress = t.progress; palette = t.palette }

-- ---- a byte

painted-dry : (f : Frame) (g : Ground) (bits left w h : ℕ) (p : Palette) (l : List ℕ)
    → uncanvassed (painted_on f g bits left w h p l) ≡ record { progress = inked_dry f bits left w h; palette = p }
unfolding painted_on inked_dry
painted-dry f g bits left w h p l = by-test (ltb left (ones bits * f.pen.repeat)) (λ t. rw t) (λ t. rw t)

drawn-dry : (x : Result VisibleArea Refusal) (f : Frame) (g : Ground) (bits left : ℕ) (p : Palette) (l : List ℕ)
    → uncanvassed (drawn_in x f g bits left p l) ≡ record { progress = drawn_dry_in x f bits left; palette = p }
unfolding drawn_in drawn_dry_in
drawn-dry (Ok a) f g bits left p l = painted-dry f g bits left a.width a.height p l
drawn-dry (Err r) f g bits left p l = refl

module _ (f : Frame) (g : Ground) (b left : ℕ) (p : Palette) (l : List ℕ) where
  pub data-dry : uncanvassed (data_step f g b left p l) ≡ record { progress = data_dry f g b left; palette = p }
  unfolding data_step data_dry drawn_by drawn_dry
  data-dry =
      by-test (sixel b) (λ t. rw t (drawn-dry (sixel_area f.pen f.area g) f g (b - 63) left p l))
      (λ t. by-test (ends b) (λ u. rw (t, u)) (λ u. rw (t, u)))

  argument-dry : uncanvassed (argument_step f g b p l) ≡ argument_dry f g b p
  unfolding argument_step argument_dry settled_step
  argument-dry =
      by-test (digit b) (λ t. rw t)
      (λ t. by-test (skipped b) (λ u. rw (t, u))
      (λ u. by-test (eqb b semicolon && takes_semicolon f.command.kind) (λ v. rw (t, u, v)) (λ v. rw (t, u, v))))

  step-dry-in : (k : Kind) → uncanvassed (step_in k f g b left p l) ≡ step_dry_in k f g b left p
  unfolding step_in step_dry_in
  step-dry-in kinds.Data = data-dry
  step-dry-in kinds.Repeat = argument-dry
  step-dry-in kinds.Color = argument-dry
  step-dry-in kinds.Raster = argument-dry

then-dry : (o : Outcome) (t : Reached) (g : Ground) (b left : ℕ) → uncanvassed (then_data o t g b left) ≡ then_dry o (uncanvassed t) g b left
unfolding then_data then_dry
then-dry outcomes.Read t g b left =
    by-test (eqb t.progress.consumed 0) (λ e. rw e (data-dry t.progress.frame g b left t.palette t.canvas)) (λ e. rw e)
then-dry outcomes.Stopped t g b left = refl
then-dry (outcomes.Ended e) t g b left = refl
then-dry (outcomes.Refused r) t g b left = refl

pub byte-dry : (f : Frame) (g : Ground) (b left : ℕ) (p : Palette) (l : List ℕ) → uncanvassed (byte_step f g b left p l) ≡ byte_dry f g b left p
unfolding byte_step byte_dry step_of step_dry
byte-dry f g b left p l =
    let t : Reached = step_of f g b left p l in
    then-dry t.progress.outcome t g b left
    ∙ ap (λ (x : Ended). then_dry x.progress.outcome x g b left) (step-dry-in f g b left p l f.command.kind)

-- ---- bytes

-- where it led
abbrev pub led_by : Progress → Led
led_by r = led_as r.frame r.consumed r.outcome

-- the later bytes lead to the same, whatever the canvas
on-dry : (o : Outcome) (t : Reached) (n i : ℕ) (later : ℕ → ℕ → Frame → Palette → List ℕ → Reached) (dry : Frame → Palette → ℕ → Led)
    → ((f : Frame) (p : Palette) (l : List ℕ) (j : ℕ) → led_by (later (n + 1) (i + j) f p l).progress ≡ dry f p j)
    → led_by (go_on o t n i later).progress ≡ go_on_dry o (uncanvassed t) n dry
unfolding go_on go_on_dry reached_as led_as
on-dry outcomes.Read t n i later dry h = h t.progress.frame t.palette t.canvas t.progress.ink
on-dry outcomes.Stopped t n i later dry h = refl
on-dry (outcomes.Ended b) t n i later dry h = refl
on-dry (outcomes.Refused r) t n i later dry h = refl

pub feed-dry : (g : Ground) (a : ℕ) (bs : List ℕ) (n i : ℕ) (f : Frame) (p : Palette) (l : List ℕ)
    → led_by (feed_from g a bs n i f p l).progress ≡ dry_from true g bs n (a - i) f p
unfolding feed_from dry_from reached_as
feed-dry g a [] n i f p l = refl
feed-dry g a (b ∷ bs) n i f p l =
    let t : Reached = byte_step f g b (a - i) p l in
    on-dry t.progress.outcome t n i (λ n' i' f' p' l'. feed_from g a bs n' i' f' p' l')
    (λ f' p' j. dry_from true g bs (n + 1) (a - i - cost_of true j) f' p')
    (λ f' p' l' j. feed-dry g a bs (n + 1) (i + j) f' p' l' ∙ ap (λ (left : ℕ). dry_from true g bs (n + 1) left f' p') (spent j))
    ∙ ap (λ (x : Ended). go_on_dry x.progress.outcome x n (λ f' p' j. dry_from true g bs (n + 1) (a - i - cost_of true j) f' p'))
    (byte-dry f g b (a - i) p l)
  where
    spent : (j : ℕ) → a - (i + j) ≡ a - i - cost_of true j
    spent j = go
      where
        go : a - (i + j) ≡ a - i - j
        go = omega arith
