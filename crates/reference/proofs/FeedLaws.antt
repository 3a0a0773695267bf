-- Laws of the loop: what a step leaves, and how the bytes that are left go on after it.
use Prim.Native.Nat.{ℕ, ◌+◌, ◌-◌, ◌*◌, ◌≤◌, ◌<◌}
use mathlib.Core.Bool.{◌&&◌}
use mathlib.Core.List.{List, [], ◌∷◌}
use mathlib.Core.Path.{◌≡◌, refl, sym, ap, ◌∙◌}
use native.Mathlib.Nat.{add-zero}
use native.Mathlib.Numerals.{add-one}
use native.Mathlib.Omega.{arith}
use borrow.Author.Tests.{ltb-false, eq-eqb, ne_eqb, eqb-true, eqb-false}
use denote.Enum.Declared.{tag_of}
use lib.Count.{ones}
use lib.Dec.{ltb, eqb}
use lib.ListN.{length, get_or, drop}
use lib.Seq.{drop-cons, drop-length}
use types.Run.{OneOf, miss}
use Rattle.numbers.specs.Bytes.{skipped, digit, sixel, ends, semicolon, bang, quote, hash, dollar, dash}
use Rattle.colours.specs.declared.Palette.{Palette}
use Rattle.numbers.proofs.Laws.{cond_yes, cond_no}
use Rattle.canvas.proofs.Covers.{by-test}
use Rattle.frame.specs.declared.Frame.{Frame}
use Rattle.frame.specs.declared.Ground.{Ground}
use Rattle.frame.specs.declared.Kind.{Kind}
use Rattle.frame.specs.declared.Kind.TheVariants as kinds
use Rattle.frame.specs.declared.Outcome.{Outcome}
use Rattle.frame.specs.declared.Outcome.TheVariants as outcomes
use Rattle.frame.specs.declared.Progress.{Progress}
use Rattle.std.specs.Prelude.{Result, Ok, Err}
use Rattle.frame.specs.declared.Refusal.{Refusal}
use Rattle.frame.specs.declared.VisibleArea.{VisibleArea}
use Rattle.frame.specs.Sizes.{sixel_area}
use Rattle.frame.specs.Commands.{with_command, begun, unread_as, refused_as}
use Rattle.reference.specs.Step.{Reached, Fits, read_as, inked, painted_on, drawn_in, drawn_by, moved_to, own_of, data_step, takes_semicolon, settled_step, argument_step, step_in, step_of}
use Rattle.reference.specs.Feed.{then_data, byte_step, reached_as, go_on, feed_from}
use Rattle.frame.proofs.SizeLaws.{Roomy, sixel-roomy}
use Rattle.reference.proofs.StepLaws.{same-roomy, Ends, ended-ends}
use Rattle.frame.specs.contracts.Outcome as OutcomeType

-- ---- what a step leaves

-- a byte while no command is pending: the area has room and holds the one before, the ink is within what is left, and
-- where reading goes on the byte is consumed
pub record Drawn (f : Frame) (g : Ground) (left : ℕ) (s : Progress) : Type 0 where
  pub roomy : Roomy f.area g s.frame.area.width s.frame.area.height
  pub ink : s.ink ≤ left
  pub few : s.consumed ≤ 1
  pub consumes : s.outcome ≡ outcomes.Read → s.consumed ≡ 1

one-not-none : ◌≡◌ {A = ℕ} 1 0 → ⊥
one-not-none e = omega arith

module _ (f : Frame) (g : Ground) (left : ℕ) {n : ℕ} (fits : Fits f g n) where
  painted-drawn : (bits w h : ℕ) (p : Palette) (l : List ℕ) → Roomy f.area g w h → Drawn f g left (painted_on f g bits left w h p l).progress
  unfolding painted_on read_as unread_as inked
  painted-drawn bits w h p l k =
      by-test (ltb left (ones bits * f.pen.repeat))
      (λ t. rw t (record { roomy = same-roomy f g n fits; ink = omega arith; few = omega arith; consumes = λ e. cc }))
      (λ t. rw t (record { roomy = k; ink = ltb-false _ _ t; few = omega arith; consumes = λ e. refl }))

  drawn-in : (x : Result VisibleArea Refusal) (bits : ℕ) (p : Palette) (l : List ℕ) → sixel_area f.pen f.area g ≡ x
      → Drawn f g left (drawn_in x f g bits left p l).progress
  unfolding drawn_in refused_as unread_as
  drawn-in (Ok a) bits p l e = painted-drawn bits a.width a.height p l (sixel-roomy f.pen f.area g a.width a.height fits.width fits.height e).0
  drawn-in (Err r) bits p l e = record { roomy = same-roomy f g n fits; ink = omega arith; few = omega arith; consumes = λ e. cc }

  -- an own effect leaves the area
  own-area : (b : ℕ) → (own_of f b).area ≡ f.area
  unfolding own_of begun with_command moved_to
  own-area b =
      by-test (eqb b hash) (λ t. rw t)
      (λ t. by-test (eqb b bang) (λ u. rw (t, u))
      (λ u. by-test (eqb b dollar) (λ v. rw (t, u, v))
      (λ v. by-test (eqb b dash) (λ w. rw (t, u, v, w))
      (λ w. by-test (eqb b quote) (λ x. rw (t, u, v, w, x)) (λ x. rw (t, u, v, w, x))))))

  pub data-drawn : (b : ℕ) (p : Palette) (l : List ℕ) → Drawn f g left (data_step f g b left p l).progress
  unfolding data_step drawn_by read_as unread_as
  data-drawn b p l =
      by-test (sixel b) (λ t. rw t (drawn-in _ (b - 63) p l refl))
      (λ t. by-test (ends b)
      (λ u. rw (t, u) (record { roomy = same-roomy f g n fits; ink = omega arith; few = omega arith; consumes = λ e. cc }))
      (λ u. rw (t, u) (record { roomy = rw (own-area b) (same-roomy f g n fits); ink = omega arith; few = omega arith; consumes = λ e. refl })))

  -- a byte of an argument leaves the area
  read-ends : (next : Frame) → next.area ≡ f.area → Ends f g (read_as next 0)
  unfolding read_as
  read-ends next e = record { roomy = rw e (same-roomy f g n fits); ink = refl; few = omega arith; settled = λ k none. absurd (one-not-none none) }

  pub argument-ends : (b : ℕ) (p : Palette) (l : List ℕ) → Ends f g (argument_step f g b p l).progress
  unfolding argument_step settled_step with_command
  argument-ends b p l =
      by-test (digit b) (λ t. rw t (read-ends _ refl))
      (λ t. by-test (skipped b) (λ u. rw (t, u) (read-ends f refl))
      (λ u. by-test (eqb b semicolon && takes_semicolon f.command.kind) (λ v. rw (t, u, v) (read-ends _ refl))
      (λ v. rw (t, u, v) (ended-ends f g p n fits))))

-- 1 while a command is pending
unfoldable pub pending : Kind → ℕ
pending kinds.Data = 0
pending kinds.Repeat = 1
pending kinds.Color = 1
pending kinds.Raster = 1

pub pending-most : (k : Kind) → pending k ≤ 1
unfolding pending
pending-most kinds.Data = omega arith
pending-most kinds.Repeat = omega arith
pending-most kinds.Color = omega arith
pending-most kinds.Raster = omega arith

-- any byte: the area has room and holds the one before, the ink is within what is left, and where the byte ended the pending
-- command and is still to be read, one was pending, none is any more, and no ink is spent
pub record Steps (f : Frame) (g : Ground) (left : ℕ) (s : Progress) : Type 0 where
  pub roomy : Roomy f.area g s.frame.area.width s.frame.area.height
  pub ink : s.ink ≤ left
  pub few : s.consumed ≤ 1
  pub settled : s.outcome ≡ outcomes.Read → s.consumed ≡ 0 →
      (pending f.command.kind ≡ 1) × (s.frame.command.kind ≡ kinds.Data) × (s.ink ≡ 0)

ends-steps : {s : Progress} (f : Frame) (g : Ground) (left : ℕ) → pending f.command.kind ≡ 1 → Ends f g s → Steps f g left s
ends-steps f g left k e =
    record { roomy = e.roomy; ink = omega (arith, e.ink); few = e.few; settled = λ h none. (k, e.settled h none, e.ink) }

drawn-steps : {s : Progress} (f : Frame) (g : Ground) (left : ℕ) → Drawn f g left s → Steps f g left s
drawn-steps f g left d =
    record {
      roomy = d.roomy;
      ink = d.ink;
      few = d.few;
      settled = λ h none. absurd (one-not-none (sym (d.consumes h) ∙ none));
    }

step_in_lem : (k : Kind) (f : Frame) (g : Ground) (b left : ℕ) (p : Palette) (l : List ℕ) {n : ℕ} → f.command.kind ≡ k → Fits f g n
    → Steps f g left (step_in k f g b left p l).progress
unfolding step_in pending
step_in_lem kinds.Data f g b left p l e fits = drawn-steps f g left (data-drawn f g left fits b p l)
step_in_lem kinds.Repeat f g b left p l e fits = ends-steps f g left (ap pending e) (argument-ends f g left fits b p l)
step_in_lem kinds.Color f g b left p l e fits = ends-steps f g left (ap pending e) (argument-ends f g left fits b p l)
step_in_lem kinds.Raster f g b left p l e fits = ends-steps f g left (ap pending e) (argument-ends f g left fits b p l)

pub step-steps : (f : Frame) (g : Ground) (b left : ℕ) (p : Palette) (l : List ℕ) {n : ℕ} → Fits f g n
    → Steps f g left (step_of f g b left p l).progress
unfolding step_of
step-steps f g b left p l fits = step_in_lem f.command.kind f g b left p l refl fits

-- ---- a byte, whatever is pending

then-once : (o : Outcome) (t : Reached) (g : Ground) (b left : ℕ) → (o ≡ outcomes.Read → t.progress.consumed ≡ 1) → then_data o t g b left ≡ t
unfolding then_data
then-once outcomes.Read t g b left h = cond_no _ _ (ne_eqb _ _ (λ none. one-not-none (sym (h refl) ∙ none)))
then-once outcomes.Stopped t g b left h = refl
then-once (outcomes.Ended e) t g b left h = refl
then-once (outcomes.Refused r) t g b left h = refl

-- a byte that is consumed, or ends the reading, takes one step
pub byte-once : (f : Frame) (g : Ground) (b left : ℕ) (p : Palette) (l : List ℕ)
    → ((step_of f g b left p l).progress.outcome ≡ outcomes.Read → (step_of f g b left p l).progress.consumed ≡ 1)
    → byte_step f g b left p l ≡ step_of f g b left p l
unfolding byte_step
byte-once f g b left p l h = then-once _ (step_of f g b left p l) g b left h

-- while no command is pending
pub byte-data : (f : Frame) (g : Ground) (b left : ℕ) (p : Palette) (l : List ℕ) {n : ℕ} → Fits f g n → f.command.kind ≡ kinds.Data
    → byte_step f g b left p l ≡ data_step f g b left p l
unfolding step_of step_in
byte-data f g b left p l fits k =
    let e : step_of f g b left p l ≡ data_step f g b left p l = ap (λ (j : Kind). step_in j f g b left p l) k in
    byte-once f g b left p l (rw e (data-drawn f g left fits b p l).consumes) ∙ e

-- one that ends a command is then read as if none had been pending
pub byte-twice : {t : Reached} (f : Frame) (g : Ground) (b left : ℕ) (p : Palette) (l : List ℕ) → t ≡ step_of f g b left p l
    → t.progress.outcome ≡ outcomes.Read → t.progress.consumed ≡ 0
    → data_step t.progress.frame g b left t.palette t.canvas ≡ byte_step f g b left p l
unfolding byte_step then_data
byte-twice {t} f g b left p l e o none =
    sym (cond_yes _ _ (eq-eqb _ _ none))
    ∙ ap (λ (x : Outcome). then_data x t g b left) (sym o)
    ∙ ap (λ (x : Reached). then_data x.progress.outcome x g b left) e

-- ---- the bytes that are left

-- the loop's invariant: the bytes from `consumed` on lead to where all lead, and what the next step asks holds
pub record Going (g : Ground) (allowance : ℕ) (bytes : List ℕ) (whole : Reached) (room : ℕ) (p : Palette) (l : List ℕ) (f : Frame)
    (consumed ink : ℕ) : Type 0 where
  pub same : feed_from g allowance (drop consumed bytes) consumed ink f p l ≡ whole
  pub within : consumed ≤ length bytes
  pub spent : ink ≤ allowance
  pub fits : Fits f g (length l)
  pub long : length l ≡ room

-- the loop's measure, what is left to do: two turns a byte, and one for a pending command
abbrev pub left_over : List ℕ → ℕ → Frame → ℕ
left_over bytes consumed f = 2 * (length bytes - consumed) + pending f.command.kind

pub going_start : (g : Ground) (allowance : ℕ) (bytes : List ℕ) (p : Palette) (l : List ℕ) (f : Frame) → Fits f g (length l)
    → Going g allowance bytes (feed_from g allowance bytes 0 0 f p l) (length l) p l f 0 0
going_start g allowance bytes p l f fits = record { same = refl; within = omega arith; spent = omega arith; fits = fits; long = refl }

stepped-fits : {s : Progress} (f : Frame) (g : Ground) (left n m : ℕ) → Fits f g n → Steps f g left s → m ≡ n → Fits s.frame g m
stepped-fits f g left n m fits t e =
    record { rows = rw e fits.rows; width = t.roomy.width; height = t.roomy.height }

go-other : (o : Outcome) (t : Reached) (n i : ℕ) (later : ℕ → ℕ → Frame → Palette → List ℕ → Reached)
    → OneOf (1 ∷ 2 ∷ 3 ∷ []) (tag_of OutcomeType.the_type o) → reached_as t.progress.frame n i o t.palette t.canvas ≡ go_on o t n i later
unfolding go_on
go-other outcomes.Read t n i later h = absurd (miss (1 ∷ 2 ∷ 3 ∷ []) 0 tt h)
go-other outcomes.Stopped t n i later h = refl
go-other (outcomes.Ended b) t n i later h = refl
go-other (outcomes.Refused r) t n i later h = refl

unread : {o : Outcome} → (o ≡ outcomes.Read → ◌≡◌ {A = ℕ} 1 0) → o ≡ outcomes.Read → ⊥
unread h e = one-not-none (h e)

other-unread : (o : Outcome) → OneOf (1 ∷ 2 ∷ 3 ∷ []) (tag_of OutcomeType.the_type o) → o ≡ outcomes.Read → ⊥
other-unread outcomes.Read h e = miss (1 ∷ 2 ∷ 3 ∷ []) 0 tt h
other-unread outcomes.Stopped h e = unread (λ k. cc) e
other-unread (outcomes.Ended b) h e = unread (λ k. cc) e
other-unread (outcomes.Refused r) h e = unread (λ k. cc) e

-- one step of the loop
module _ {g : Ground} {allowance : ℕ} {bytes : List ℕ} {whole : Reached} {room : ℕ} {p : Palette} {l : List ℕ} {f : Frame} {consumed ink : ℕ}
    (going : Going g allowance bytes whole room p l f consumed ink) {s : Progress} {q : Palette} {l₁ : List ℕ}
    (step : ◌≡◌ {A = Reached} (record { progress = s; palette = q; canvas = l₁ }) (step_of f g (get_or bytes consumed 0) (allowance - ink) p l)) where
  steps : Steps f g (allowance - ink) s
  steps = rw (← ap (λ (x : Reached). x.progress) step) at (step-steps f g (get_or bytes consumed 0) (allowance - ink) p l going.fits)

  pub step-ink : ink + s.ink ≤ allowance
  step-ink = omega (arith, steps.ink, going.spent)

  module _ (more : consumed < length bytes) where
    pub step-within : consumed + s.consumed ≤ length bytes
    step-within = omega (arith, steps.few)

    -- the byte is consumed, or the pending command has gone
    pub step_less : s.outcome ≡ outcomes.Read → left_over bytes (consumed + s.consumed) s.frame < left_over bytes consumed f
    unfolding pending
    step_less o =
        by-test (eqb s.consumed 0)
        (λ t. let none : s.consumed ≡ 0 = eqb-true _ _ t in
        let k = steps.settled o none in rw (k.0, k.1) (omega (arith, none)))
        (λ t. omega (arith, eqb-false s.consumed 0 t, pending-most s.frame.command.kind))

    next : drop consumed bytes ≡ get_or bytes consumed 0 ∷ drop (consumed + 1) bytes
    next = rw add-one (drop-cons bytes consumed 0 more)

    -- reading from the next byte on
    onward : ℕ → ℕ → Frame → Palette → List ℕ → Reached
    onward n i f' p' l' = feed_from g allowance (drop (consumed + 1) bytes) n i f' p' l'

    -- the whole from this byte on
    here : (t : Reached) → t ≡ byte_step f g (get_or bytes consumed 0) (allowance - ink) p l → go_on t.progress.outcome t consumed ink onward ≡ whole
    unfolding feed_from onward
    here t e =
        ap (λ (x : Reached). go_on x.progress.outcome x consumed ink onward) e
        ∙ ap (λ (bs : List ℕ). feed_from g allowance bs consumed ink f p l) (sym next)
        ∙ going.same

    once : (s.outcome ≡ outcomes.Read → s.consumed ≡ 1)
        → record { progress = s; palette = q; canvas = l₁ } ≡ byte_step f g (get_or bytes consumed 0) (allowance - ink) p l
    once h = step ∙ sym (byte-once f g (get_or bytes consumed 0) (allowance - ink) p l (rw (← step) h))

    pub step-stops : {r : Progress} → OneOf (1 ∷ 2 ∷ 3 ∷ []) (tag_of OutcomeType.the_type s.outcome)
        → r ≡ record { frame = s.frame; consumed = consumed; ink = ink; outcome = s.outcome }
        → ◌≡◌ {A = Reached} (record { progress = r; palette = q; canvas = l₁ }) whole
    unfolding reached_as
    step-stops o e =
        ap (λ (x : Progress). record { progress = x; palette = q; canvas = l₁ }) e
        ∙ go-other s.outcome (record { progress = s; palette = q; canvas = l₁ }) consumed ink onward o
        ∙ here _ (once (λ h. absurd (other-unread s.outcome o h)))

    module _ (kept : length l₁ ≡ length l) where
      fitting : Fits s.frame g (length l₁)
      fitting = stepped-fits f g (allowance - ink) (length l) (length l₁) going.fits steps kept

      pub going-read : s.outcome ≡ outcomes.Read → s.consumed ≡ 1 → Going g allowance bytes whole room q l₁ s.frame (consumed + 1) (ink + s.ink)
      unfolding go_on onward
      going-read o one =
          record {
            same = ap (λ (x : Outcome). go_on x (record { progress = s; palette = q; canvas = l₁ }) consumed ink onward) (sym o) ∙ here _ (once (λ h. one));
            within = omega arith;
            spent = step-ink;
            fits = fitting;
            long = kept ∙ going.long;
          }

      pub going_settled : s.outcome ≡ outcomes.Read → s.consumed ≡ 0 → Going g allowance bytes whole room q l₁ s.frame consumed ink
      unfolding feed_from onward
      going_settled o none =
          let b = get_or bytes consumed 0 in
          let again : byte_step s.frame g b (allowance - ink) q l₁ ≡ byte_step f g b (allowance - ink) p l =
          byte-data s.frame g b (allowance - ink) q l₁ fitting (steps.settled o none).1 ∙ byte-twice f g b (allowance - ink) p l step o none in
          record {
            same = ap (λ (bs : List ℕ). feed_from g allowance bs consumed ink s.frame q l₁) next ∙ here _ again;
            within = going.within;
            spent = going.spent;
            fits = fitting;
            long = kept ∙ going.long;
          }

      -- either, as the loop goes on
      pub going_on_lem : s.outcome ≡ outcomes.Read → Going g allowance bytes whole room q l₁ s.frame (consumed + s.consumed) (ink + s.ink)
      going_on_lem o =
          by-test (eqb s.consumed 0)
          (λ t. let none : s.consumed ≡ 0 = eqb-true _ _ t in
          rw (none, (steps.settled o none).2, add-zero consumed, add-zero ink) (going_settled o none))
          (λ t. let one : s.consumed ≡ 1 = omega (arith, steps.few, eqb-false s.consumed 0 t) in rw one (going-read o one))

-- all bytes are read
pub going_done : {g : Ground} {allowance : ℕ} {bytes : List ℕ} {whole : Reached} {room : ℕ} {p : Palette} {l : List ℕ} {f : Frame}
    {consumed ink : ℕ} {r : Progress} → Going g allowance bytes whole room p l f consumed ink → length bytes ≤ consumed
    → r ≡ record { frame = f; consumed = consumed; ink = ink; outcome = outcomes.Read }
    → ◌≡◌ {A = Reached} (record { progress = r; palette = p; canvas = l }) whole
unfolding feed_from reached_as
going_done {g} {allowance} {bytes} {p = p} {l = l} {f = f} {consumed = consumed} {ink = ink} going h k =
    let e : consumed ≡ length bytes = omega (arith, going.within) in
    ap (λ (x : Progress). record { progress = x; palette = p; canvas = l }) k
    ∙ ap (λ (bs : List ℕ). feed_from g allowance bs consumed ink f p l) (sym (ap (λ (n : ℕ). drop n bytes) e ∙ drop-length bytes)) ∙ going.same

pub ruleset looping = (going_start, step-ink, step-within, step_less, step-stops, going_on_lem, going_done)
