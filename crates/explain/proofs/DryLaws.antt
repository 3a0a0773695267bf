-- Laws of the machine without a canvas: what a step takes of the allowance, and the loop's invariant.
use Rattle.std.specs.Prelude.{◌≡◌, ℕ, ◌+◌, ◌-◌, ◌*◌, ◌<◌, ◌≤◌, max, Bool, ◌&&◌, eqb, ltb, List, [], ◌∷◌, length, get_or, drop}
use mathlib.Core.Path.{refl, sym, ap, ◌∙◌}
use native.Mathlib.Numerals.{add-one}
use native.Mathlib.Omega.{arith}
use borrow.Author.Tests.{ltb-false}
use denote.Enum.Declared.{tag_of}
use lib.Count.{ones}
use lib.Seq.{drop-cons, drop-length}
use types.Run.{OneOf, miss}
use Rattle.numbers.specs.Bytes.{skipped, digit, sixel, ends, semicolon}
use Rattle.colours.specs.declared.Palette.{Palette}
use Rattle.canvas.proofs.Covers.{by-test}
use Rattle.frame.specs.declared.Frame.{Frame}
use Rattle.frame.specs.declared.Ground.{Ground}
use Rattle.frame.specs.declared.Kind.{Kind}
use Rattle.frame.specs.declared.Kind.TheVariants as kinds
use Rattle.frame.specs.declared.Outcome.{Outcome}
use Rattle.frame.specs.declared.Outcome.TheVariants as outcomes
use Rattle.frame.specs.declared.Progress.{Progress}
use Rattle.frame.specs.declared.Raster.{Raster}
use Rattle.frame.specs.declared.Refusal.{Refusal}
use Rattle.frame.specs.declared.VisibleArea.{VisibleArea}
use Rattle.std.specs.Prelude.{Result, Ok, Err}
use Rattle.frame.specs.Sizes.{raster_area, sixel_area}
use Rattle.frame.specs.Commands.{unread_as, refused_as, settled_as, repeat_ended, raster_grown, raster_ended_by, color_ended_by}
use Rattle.frame.specs.Commands.{raster_by, finished_of, Ended, ended_in, ended}
use Rattle.frame.proofs.SizeLaws.{sixel-reach}
use Rattle.frame.specs.contracts.Outcome as OutcomeType
use Rattle.reference.specs.Step.{read_as, takes_semicolon}
use Rattle.explain.specs.declared.dry.Led.{Led}
use Rattle.explain.specs.Dry.{inked_dry, drawn_dry_in, drawn_dry, data_dry, argument_dry, step_dry_in, step_dry, then_dry, byte_dry, cost_of, led_as, go_on_dry, dry_from}

-- ---- a sixel

-- the area that a sixel needs holds it
pub area-holds : {x : Result VisibleArea Refusal} (f : Frame) (g : Ground) (w h : ℕ) → x ≡ sixel_area f.pen f.area g → x ≡ Ok (record { width = w; height = h })
    → (f.pen.column + f.pen.repeat ≤ w) × (f.pen.row + 6 ≤ h)
area-holds f g w h e k =
    let r = sixel-reach f.pen f.area g w h (sym e ∙ k) in (omega (arith, r.0), omega (arith, r.1))

-- a step that leaves the palette
abbrev pub kept : Progress → Palette → Ended
kept r p = record { progress = r; palette = p }

-- ---- the allowance

pub cost-most : (m : Bool) (ink : ℕ) → cost_of m ink ≤ ink
unfolding cost_of
cost-most m ink = by-test m (λ t. rw t (omega arith)) (λ t. rw t (omega arith))

-- what a step spends is within what is left
inked-within : (f : Frame) (bits left w h : ℕ) → (inked_dry f bits left w h).ink ≤ left
unfolding inked_dry unread_as read_as
inked-within f bits left w h =
    by-test (ltb left (ones bits * f.pen.repeat)) (λ t. rw t (omega arith)) (λ t. rw t (ltb-false _ _ t))

drawn-within : (x : Result VisibleArea Refusal) (f : Frame) (bits left : ℕ) → (drawn_dry_in x f bits left).ink ≤ left
unfolding drawn_dry_in refused_as unread_as
drawn-within (Ok a) f bits left = inked-within f bits left a.width a.height
drawn-within (Err r) f bits left = omega arith

data-within : (f : Frame) (g : Ground) (b left : ℕ) → (data_dry f g b left).ink ≤ left
unfolding data_dry drawn_dry unread_as read_as
data-within f g b left =
    by-test (sixel b) (λ t. rw t (drawn-within (sixel_area f.pen f.area g) f (b - 63) left))
    (λ t. by-test (ends b) (λ u. rw (t, u) (omega arith)) (λ u. rw (t, u) (omega arith)))

repeat-spends : (f : Frame) (g : Ground) → (repeat_ended f g).ink ≡ 0
unfolding repeat_ended refused_as unread_as settled_as
repeat-spends f g = by-test (ltb g.limits.repeats f.command.number) (λ t. rw t) (λ t. rw t)

grown-spends : (f : Frame) (r : Raster) (x : Result VisibleArea Refusal) → (raster_grown f r x).ink ≡ 0
unfolding raster_grown refused_as unread_as settled_as
grown-spends f r (Ok a) = refl
grown-spends f r (Err n) = refl

raster-spends : (f : Frame) (g : Ground) (r : Raster) → (raster_ended_by f g r).ink ≡ 0
unfolding raster_ended_by settled_as
raster-spends f g r =
    by-test (eqb r.width 0 && eqb r.height 0) (λ t. rw t) (λ t. rw t (grown-spends f r (raster_area f.area g (max 1 r.width) (max 1 r.height))))

ended-spends : (k : Kind) (f : Frame) (g : Ground) (p : Palette) → (ended_in k f g p).progress.ink ≡ 0
unfolding ended_in settled_as color_ended_by
ended-spends kinds.Data f g p = refl
ended-spends kinds.Repeat f g p = repeat-spends f g
ended-spends kinds.Color f g p = refl
ended-spends kinds.Raster f g p = raster-spends f g (raster_by f.raster (finished_of f))

argument-spends : (f : Frame) (g : Ground) (b : ℕ) (p : Palette) → (argument_dry f g b p).progress.ink ≡ 0
unfolding argument_dry read_as ended
argument-spends f g b p =
    by-test (digit b) (λ t. rw t)
    (λ t. by-test (skipped b) (λ u. rw (t, u))
    (λ u. by-test (eqb b semicolon && takes_semicolon f.command.kind) (λ v. rw (t, u, v)) (λ v. rw (t, u, v) (ended-spends f.command.kind f g p))))

step-within : (k : Kind) (f : Frame) (g : Ground) (b left : ℕ) (p : Palette) → (step_dry_in k f g b left p).progress.ink ≤ left
unfolding step_dry_in
step-within kinds.Data f g b left p = data-within f g b left
step-within kinds.Repeat f g b left p = omega (arith, argument-spends f g b p)
step-within kinds.Color f g b left p = omega (arith, argument-spends f g b p)
step-within kinds.Raster f g b left p = omega (arith, argument-spends f g b p)

then-within : (o : Outcome) (t : Ended) (g : Ground) (b left : ℕ) → t.progress.ink ≤ left → (then_dry o t g b left).progress.ink ≤ left
unfolding then_dry
then-within outcomes.Read t g b left h =
    by-test (eqb t.progress.consumed 0) (λ e. rw e (data-within t.progress.frame g b left)) (λ e. rw e h)
then-within outcomes.Stopped t g b left h = h
then-within (outcomes.Ended e) t g b left h = h
then-within (outcomes.Refused r) t g b left h = h

byte-within : (f : Frame) (g : Ground) (b left : ℕ) (p : Palette) → (byte_dry f g b left p).progress.ink ≤ left
unfolding byte_dry step_dry
byte-within f g b left p =
    let t : Ended = step_dry f g b left p in
    then-within t.progress.outcome t g b left (step-within f.command.kind f g b left p)

-- ---- the loop

-- its invariant: the bytes from `consumed` on lead to where all lead
pub record Going (m : Bool) (g : Ground) (bytes : List ℕ) (whole : Led) (p : Palette) (f : Frame) (consumed left : ℕ) : Type 0 where
  pub same : dry_from m g (drop consumed bytes) consumed left f p ≡ whole
  pub within : consumed ≤ length bytes

pub going_start : (m : Bool) (g : Ground) (bytes : List ℕ) (p : Palette) (f : Frame) (left : ℕ)
    → Going m g bytes (dry_from m g bytes 0 left f p) p f 0 left
going_start m g bytes p f left = record { same = refl; within = omega arith }

module _ {m : Bool} {g : Ground} {bytes : List ℕ} {whole : Led} {p : Palette} {f : Frame} {consumed left : ℕ}
    (going : Going m g bytes whole p f consumed left) {s : Progress} {q : Palette}
    (byte : ◌≡◌ {A = Ended} (record { progress = s; palette = q }) (byte_dry f g (get_or bytes consumed 0) left p)) where
  -- what it takes of the allowance is there
  pub spends : {c : ℕ} → c ≡ cost_of m s.ink → c ≤ left
  spends {c} e =
      let most : s.ink ≤ left =
      rw (← ap (λ (t : Ended). t.progress) byte) at (byte-within f g (get_or bytes consumed 0) left p) in
      omega (arith, cost-most m s.ink, e)

  module _ (more : consumed < length bytes) where
    onward : Frame → Palette → ℕ → Led
    onward f' p' ink = dry_from m g (drop (consumed + 1) bytes) (consumed + 1) (left - cost_of m ink) f' p'

    next : drop consumed bytes ≡ get_or bytes consumed 0 ∷ drop (consumed + 1) bytes
    next = rw add-one (drop-cons bytes consumed 0 more)

    from-here : go_on_dry s.outcome (kept s q) consumed onward ≡ whole
    unfolding dry_from onward
    from-here =
        ap (λ (t : Ended). go_on_dry t.progress.outcome t consumed onward) byte
        ∙ ap (λ (bs : List ℕ). dry_from m g bs consumed left f p) (sym next)
        ∙ going.same

    pub going_on_lem : {c : ℕ} → s.outcome ≡ outcomes.Read → c ≡ cost_of m s.ink → Going m g bytes whole q s.frame (consumed + 1) (left - c)
    unfolding go_on_dry onward
    going_on_lem o e =
        record {
          same = ap (λ (c : ℕ). dry_from m g (drop (consumed + 1) bytes) (consumed + 1) (left - c) s.frame q) e
              ∙ ap (λ (x : Outcome). go_on_dry x (kept s q) consumed onward) (sym o)
              ∙ from-here;
          within = omega arith;
        }

    stays : (o : Outcome) → OneOf (1 ∷ 2 ∷ 3 ∷ []) (tag_of OutcomeType.the_type o) → led_as s.frame consumed o ≡ go_on_dry o (kept s q) consumed onward
    unfolding go_on_dry led_as
    stays outcomes.Read h = absurd (miss (1 ∷ 2 ∷ 3 ∷ []) 0 tt h)
    stays outcomes.Stopped h = refl
    stays (outcomes.Ended b) h = refl
    stays (outcomes.Refused r) h = refl

    pub going-stops : {r : Led} → OneOf (1 ∷ 2 ∷ 3 ∷ []) (tag_of OutcomeType.the_type s.outcome)
        → r ≡ record { frame = s.frame; consumed = consumed; outcome = s.outcome } → r ≡ whole
    unfolding led_as
    going-stops o e = e ∙ stays s.outcome o ∙ from-here

-- all bytes are read
pub going_done : {m : Bool} {g : Ground} {bytes : List ℕ} {whole : Led} {p : Palette} {f : Frame} {consumed left : ℕ} {r : Led}
    → Going m g bytes whole p f consumed left → length bytes ≤ consumed
    → r ≡ record { frame = f; consumed = consumed; outcome = outcomes.Read } → r ≡ whole
unfolding dry_from led_as
going_done {m} {g} {bytes} {p = p} {f = f} {consumed = consumed} {left = left} going h e =
    let n : consumed ≡ length bytes = omega (arith, going.within) in
    e
    ∙ ap (λ (bs : List ℕ). dry_from m g bs consumed left f p) (sym (ap (λ (k : ℕ). drop k bytes) n ∙ drop-length bytes))
    ∙ going.same

pub ruleset looping = (going_start, going_on_lem, going-stops, going_done)
