-- Reading keeps the fields of a frame in their ranges, byte by byte.
use Rattle.std.specs.Prelude.{◌≡◌, ℕ, ◌-◌, ◌*◌, ◌<◌, ◌≤◌, max, Bool, true, false, ◌&&◌, eqb, ltb, List, [], ◌∷◌}
use native.Mathlib.Omega.{arith}
use mathlib.Core.Bool.{true≢false}
use mathlib.Core.Path.{refl, sym, subst, ◌∙◌}
use borrow.Author.Tests.{le-leb, lt-leb, ne_eqb, ltb-true, ltb-false}
use Rattle.numbers.specs.declared.Parameters.{Parameters}
use Rattle.numbers.specs.Bytes.{skipped, digit, sixel, ends, semicolon, bang, quote, hash, dollar, dash}
use Rattle.numbers.specs.Memory as parameters
use Rattle.numbers.specs.Step as numbers
use Rattle.numbers.proofs.MemoryLaws.{opened-ranged, digit-ranged, semicolon-ranged}
use Rattle.colours.specs.declared.Palette.{Palette}
use Rattle.colours.specs.Packing.{pixel_of}
use Rattle.colours.specs.Palette.{register_of}
use Rattle.meaning.proofs.AreaLaws.{cond-case}
use Rattle.frame.specs.declared.Command.{Command}
use Rattle.frame.specs.declared.Frame.{Frame}
use Rattle.frame.specs.declared.Ground.{Ground}
use Rattle.frame.specs.declared.Kind.{Kind}
use Rattle.frame.specs.declared.Kind.TheVariants as kinds
use Rattle.frame.specs.declared.Outcome.{Outcome}
use Rattle.frame.specs.declared.Outcome.TheVariants as outcomes
use Rattle.frame.specs.declared.Progress.{Progress}
use Rattle.frame.specs.declared.Raster.{Raster}
use Rattle.frame.specs.declared.Refusal.{Refusal}
use Rattle.frame.specs.declared.VisibleArea.{VisibleArea}
use Rattle.std.specs.Prelude.{Result, Ok, Err}
use Rattle.frame.specs.Sizes.{raster_area, sixel_area}
use Rattle.frame.specs.Commands.{no_command, with_command, begun, values_longer, number_longer, by_digit_in, by_digit, by_semicolon, settled_as, refused_as, with_repeat, repeat_ended, with_color, color_ended_by, quotient_of, ratio_by, raster_by, raster_grown, raster_ended_by, finished_of, ended_in, ended}
use Rattle.reference.specs.Step.{Reached, read_as, pen_after, inked, painted_on, drawn_in, drawn_by, moved_to, own_of, data_step, takes_semicolon, settled_step, argument_step, step_in, step_of}
use Rattle.reference.specs.Feed.{then_data, byte_step, reached_as, go_on, feed_from}
use Rattle.payload.specs.Ranges.{ColorRanged, FrameRanged}

-- ---- colours, and the bytes that end a payload

pub pixel-ranged : (n : ℕ) → ColorRanged (pixel_of n)
unfolding pixel_of
pixel-ranged n = record { four = refl; red = omega arith; green = omega arith; blue = omega arith; alpha = omega arith }

pub register-ranged : (p : Palette) (n : ℕ) → ColorRanged (register_of p n)
unfolding register_of
register-ranged p n = pixel-ranged _

no_end : (b : ℕ) → 256 ≤ b → ends b ≡ false
unfolding ends
no_end b h =
    rw (
      ne_eqb b 0x18 (λ e. omega arith),
      le-leb 0x1A b (omega arith),
      lt-leb b 0x1B (omega arith),
      le-leb 0x80 b (omega arith),
      lt-leb b 0x9F (omega arith),
    )
    refl

end-byte : (b : ℕ) → ends b ≡ true → b < 256
end-byte b e = go (ltb b 256) refl
  where
    go : (t : Bool) → ltb b 256 ≡ t → b < 256
    go true k = ltb-true b 256 k
    go false k = absurd (true≢false (sym e ∙ no_end b (ltb-false b 256 k)))

-- ---- a step

abbrev pub OutcomeRanged : Outcome → Type 0
OutcomeRanged outcomes.Read = Unit {0}
OutcomeRanged outcomes.Stopped = Unit {0}
OutcomeRanged (outcomes.Ended b) = b < 256
OutcomeRanged (outcomes.Refused r) = Unit {0}

pub record ProgressRanged (x : Progress) : Type 0 where
  pub frame : FrameRanged x.frame
  pub outcome : OutcomeRanged x.outcome

abbrev pub ReachedRanged : Reached → Type 0
ReachedRanged t = ProgressRanged t.progress

quotient-small : (v h : ℕ) → quotient_of v h < 256
unfolding quotient_of
quotient-small v h =
    cond-case (λ n. n < 256) (eqb v h) (λ _. omega arith)
    (λ _. cond-case (λ n. n < 256) (eqb v (2 * h)) (λ _. omega arith)
    (λ _. cond-case (λ n. n < 256) (eqb v (3 * h)) (λ _. omega arith)
    (λ _. cond-case (λ n. n < 256) (eqb v (5 * h)) (λ _. omega arith) (λ _. omega arith))))

ratio-small : (old : ℕ) (v : Parameters) → old < 256 → ratio_by old v < 256
unfolding ratio_by
ratio-small old v h = cond-case (λ n. n < 256) (ltb v.count 2) (λ _. h) (λ _. quotient-small (max 1 (numbers.value_at v 0)) (max 1 (numbers.value_at v 1)))

module _ (f : Frame) (h : FrameRanged f) where
  same : (n : ℕ) → ProgressRanged (read_as f n)
  unfolding read_as
  same n = record { frame = h; outcome = tt }

  refused : (r : Refusal) → ProgressRanged (refused_as f r)
  unfolding refused_as
  refused r = record { frame = h; outcome = tt }

  commanded : (c : Command) → parameters.Ranged c.parameters → FrameRanged (with_command f c)
  unfolding with_command
  commanded c k = record { color = h.color; ratio = h.ratio; parameters = k }

  begins : (k : Kind) (places : ℕ) → FrameRanged (begun f k places)
  unfolding begun
  begins k places = commanded _ (opened-ranged places)

  moves : (row : ℕ) → FrameRanged (moved_to f row)
  unfolding moved_to
  moves row = record { color = h.color; ratio = h.ratio; parameters = h.parameters }

  own : (b : ℕ) → FrameRanged (own_of f b)
  unfolding own_of
  own b =
      cond-case FrameRanged (eqb b hash) (λ _. begins kinds.Color 5)
      (λ _. cond-case FrameRanged (eqb b bang) (λ _. begins kinds.Repeat 0)
      (λ _. cond-case FrameRanged (eqb b dollar) (λ _. moves _)
      (λ _. cond-case FrameRanged (eqb b dash) (λ _. moves _)
      (λ _. cond-case FrameRanged (eqb b quote) (λ _. begins kinds.Raster 4) (λ _. h)))))

  -- a sixel
  painted : (g : Ground) (bits left w x : ℕ) (p : Palette) (l : List ℕ) → ReachedRanged (painted_on f g bits left w x p l)
  unfolding painted_on read_as inked pen_after
  painted g bits left w x p l =
      cond-case ReachedRanged (ltb left _) (λ _. record { frame = h; outcome = tt })
      (λ _. record { frame = record { color = h.color; ratio = h.ratio; parameters = h.parameters }; outcome = tt })

  drawn : (n : Result VisibleArea Refusal) (g : Ground) (bits left : ℕ) (p : Palette) (l : List ℕ) → ReachedRanged (drawn_in n f g bits left p l)
  unfolding drawn_in
  drawn (Ok a) g bits left p l = painted g bits left a.width a.height p l
  drawn (Err r) g bits left p l = refused r

  data-ranged : (g : Ground) (b left : ℕ) (p : Palette) (l : List ℕ) → ReachedRanged (data_step f g b left p l)
  unfolding data_step drawn_by read_as
  data-ranged g b left p l =
      cond-case ReachedRanged (sixel b) (λ _. drawn (sixel_area f.pen f.area g) g (b - 63) left p l)
      (λ _. cond-case ReachedRanged (ends b) (λ e. record { frame = h; outcome = end-byte b e })
      (λ _. record { frame = own b; outcome = tt }))

  -- a command's end
  rastered : (r : Raster) → r.ratio < 256 → (n : Result VisibleArea Refusal) → ProgressRanged (raster_grown f r n)
  unfolding raster_grown settled_as no_command refused_as
  rastered r k (Ok a) = record { frame = record { color = h.color; ratio = k; parameters = opened-ranged 0 }; outcome = tt }
  rastered r k (Err n) = record { frame = h; outcome = tt }

  raster-ended : (g : Ground) (r : Raster) → r.ratio < 256 → ProgressRanged (raster_ended_by f g r)
  unfolding raster_ended_by settled_as no_command
  raster-ended g r k =
      cond-case ProgressRanged (eqb r.width 0 && eqb r.height 0)
      (λ _. record { frame = record { color = h.color; ratio = k; parameters = opened-ranged 0 }; outcome = tt })
      (λ _. rastered r k (raster_area f.area g (max 1 r.width) (max 1 r.height)))

  ended-in : (k : Kind) (g : Ground) (p : Palette) → ProgressRanged (ended_in k f g p).progress
  unfolding ended_in repeat_ended color_ended_by settled_as no_command refused_as with_repeat with_color raster_by
  ended-in kinds.Data g p = record { frame = record { color = h.color; ratio = h.ratio; parameters = opened-ranged 0 }; outcome = tt }
  ended-in kinds.Repeat g p =
      cond-case ProgressRanged (ltb g.limits.repeats f.command.number) (λ _. record { frame = h; outcome = tt })
      (λ _. record { frame = record { color = h.color; ratio = h.ratio; parameters = opened-ranged 0 }; outcome = tt })
  ended-in kinds.Color g p = record { frame = record { color = register-ranged _ _; ratio = h.ratio; parameters = opened-ranged 0 }; outcome = tt }
  ended-in kinds.Raster g p =
      raster-ended g (raster_by f.raster (finished_of f)) (ratio-small f.raster.ratio (finished_of f) h.ratio)

  pub ended-ranged : (g : Ground) (p : Palette) → ProgressRanged (ended f g p).progress
  unfolding ended
  ended-ranged g p = ended-in f.command.kind g p

  -- a command's argument
  longer : (k : Kind) (b : ℕ) → parameters.Ranged (by_digit_in k f.command b).parameters
  unfolding by_digit_in values_longer number_longer
  longer kinds.Data b = digit-ranged _ b h.parameters
  longer kinds.Repeat b = h.parameters
  longer kinds.Color b = digit-ranged _ b h.parameters
  longer kinds.Raster b = digit-ranged _ b h.parameters

  argued : (g : Ground) (b : ℕ) (p : Palette) (l : List ℕ) → ReachedRanged (argument_step f g b p l)
  unfolding argument_step read_as by_digit by_semicolon settled_step
  argued g b p l =
      cond-case ReachedRanged (digit b) (λ _. record { frame = commanded _ (longer f.command.kind b); outcome = tt })
      (λ _. cond-case ReachedRanged (skipped b) (λ _. record { frame = h; outcome = tt })
      (λ _. cond-case ReachedRanged (eqb b semicolon && takes_semicolon f.command.kind)
      (λ _. record { frame = commanded _ (semicolon-ranged _ h.parameters); outcome = tt }) (λ _. ended-ranged g p)))

  stepped : (k : Kind) (g : Ground) (b left : ℕ) (p : Palette) (l : List ℕ) → ReachedRanged (step_in k f g b left p l)
  unfolding step_in
  stepped kinds.Data g b left p l = data-ranged g b left p l
  stepped kinds.Repeat g b left p l = argued g b p l
  stepped kinds.Color g b left p l = argued g b p l
  stepped kinds.Raster g b left p l = argued g b p l

-- ---- bytes

then-ranged : (o : Outcome) (t : Reached) (g : Ground) (b left : ℕ) → ReachedRanged t → ReachedRanged (then_data o t g b left)
unfolding then_data
then-ranged outcomes.Read t g b left h =
    cond-case ReachedRanged (eqb t.progress.consumed 0) (λ _. data-ranged _ h.frame g b left _ _) (λ _. h)
then-ranged outcomes.Stopped t g b left h = h
then-ranged (outcomes.Ended e) t g b left h = h
then-ranged (outcomes.Refused r) t g b left h = h

byte-ranged : (f : Frame) → FrameRanged f → (g : Ground) (b left : ℕ) (p : Palette) (l : List ℕ) → ReachedRanged (byte_step f g b left p l)
unfolding byte_step step_of
byte-ranged f h g b left p l =
    let t : Reached = step_of f g b left p l in
    then-ranged t.progress.outcome t g b left (stepped f h f.command.kind g b left p l)

on-ranged : (o : Outcome) (t : Reached) (n i : ℕ) (later : ℕ → ℕ → Frame → Palette → List ℕ → Reached) → t.progress.outcome ≡ o → ReachedRanged t
    → ((n' i' : ℕ) (f' : Frame) (p' : Palette) (l' : List ℕ) → FrameRanged f' → ReachedRanged (later n' i' f' p' l'))
    → ReachedRanged (go_on o t n i later)
unfolding go_on reached_as
on-ranged outcomes.Read t n i later e h k = k _ _ _ _ _ h.frame
on-ranged outcomes.Stopped t n i later e h k = record { frame = h.frame; outcome = tt }
on-ranged (outcomes.Ended b) t n i later e h k = record { frame = h.frame; outcome = subst OutcomeRanged e h.outcome }
on-ranged (outcomes.Refused r) t n i later e h k = record { frame = h.frame; outcome = tt }

pub feed-ranged : (g : Ground) (allowance : ℕ) (bs : List ℕ) (n i : ℕ) (f : Frame) (p : Palette) (l : List ℕ) → FrameRanged f
    → ReachedRanged (feed_from g allowance bs n i f p l)
unfolding feed_from reached_as
feed-ranged g allowance [] n i f p l h = record { frame = h; outcome = tt }
feed-ranged g allowance (b ∷ bs) n i f p l h =
    let t : Reached = byte_step f g b (allowance - i) p l in
    on-ranged t.progress.outcome t n i (λ n' i' f' p' l'. feed_from g allowance bs n' i' f' p' l') refl (byte-ranged f h g b (allowance - i) p l)
    (λ n' i' f' p' l' k. feed-ranged g allowance bs n' i' f' p' l' k)
