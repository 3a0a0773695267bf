-- What any session can be refused with, whatever it holds: one of a history, and one that a caller has damaged in memory. A finish is refused
-- by 9, 12, 8 and the pending command's 4 to 7 alone, in this order.
use Rattle.std.specs.Prelude.{Ok, Err}
use Prim.Native.Nat.{ℕ, ◌+◌, ◌-◌, ◌*◌, max}
use mathlib.Core.Bool.{Bool, true, false, cond, ◌&&◌}
use mathlib.Core.List.{List, [], ◌∷◌}
use mathlib.Core.Path.{◌≡◌, refl, ◌∙◌}
use lib.Count.{ones}
use lib.Dec.{leb, ltb, eqb}
use lib.ListN.{length}
use Rattle.numbers.specs.Bytes.{skipped, digit, sixel, ends, semicolon}
use Rattle.colours.specs.declared.Palette.{Palette}
use Rattle.frame.specs.Commands.{repeat_ended, raster_by, raster_grown, raster_ended_by, finished_of, Ended, ended_in, ended}
use Rattle.frame.specs.Numbers.{number_of}
use Rattle.frame.specs.Sizes.{room_for, grown_area, raster_area, sixel_area}
use Rattle.frame.specs.declared.Frame.{Frame}
use Rattle.frame.specs.declared.Ground.{Ground}
use Rattle.frame.specs.declared.Kind.{Kind}
use Rattle.frame.specs.declared.Kind.TheVariants as kinds
use Rattle.frame.specs.declared.Outcome.{Outcome}
use Rattle.frame.specs.declared.Outcome.TheVariants as outcomes
use Rattle.frame.specs.declared.Raster.{Raster}
use Rattle.frame.specs.declared.Refusal.TheVariants as refusals
use Rattle.frame.specs.declared.VisibleArea.{VisibleArea}
use Rattle.frame.specs.declared.Pen.{Pen}
use Rattle.frame.specs.declared.Progress.{Progress}
use Rattle.frame.specs.declared.Refusal.{Refusal}
use Rattle.std.specs.Prelude.{Result, Ok, Err}
use Rattle.reference.specs.Step.{Reached, painted_on, drawn_in, drawn_by, data_step, takes_semicolon, settled_step, argument_step, step_in, step_of}
use Rattle.reference.specs.Feed.{then_data, byte_step, reached_as, go_on, feed_from}
use Rattle.meaning.specs.Calls.{first_of}
use Rattle.meaning.proofs.Cases.{cond-case}
use Rattle.payload.specs.declared.Session.{Session}
use Rattle.payload.specs.Refusals.{is_failed, misfitting, finish_judged}
use Rattle.payload.specs.Session.{turned_away, pictured, finished_in, finished_live, finished_as, finished_by}
use Rattle.dcs.specs.declared.Phase.{Phase}
use Rattle.dcs.specs.declared.Phase.TheVariants as phases
use Rattle.dcs.specs.declared.Session as dcs_session
use Rattle.dcs.specs.Session as dcs
use Rattle.promises.specs.Refusals.{finish_number, one_of, Only, command_numbers, outcome_number, pending_number, first_or, payload_finish_order, is_early, dcs_finish_order}

-- ---- a command that ends

abbrev Low : Outcome → Type 0
Low o = Only command_numbers (outcome_number o)

-- an area that is needed is refused by 5, 6 or 7
abbrev NeededLow : Result VisibleArea Refusal → Type 0
NeededLow (Ok a) = Unit {0}
NeededLow (Err n) = one_of (number_of n) command_numbers ≡ true

room-low : (g : Ground) (w h : ℕ) → NeededLow (room_for g w h)
unfolding room_for number_of one_of
room-low g w h =
    cond-case NeededLow (ltb g.limits.pixels (w * h)) (λ _. refl)
    λ _. cond-case NeededLow (ltb g.stride w) (λ _. refl) λ _. cond-case NeededLow (ltb g.rows h) (λ _. refl) (λ _. tt)

raster-low : (a : VisibleArea) (g : Ground) (w h : ℕ) → NeededLow (raster_area a g w h)
unfolding raster_area grown_area number_of one_of
raster-low a g w h =
    cond-case NeededLow (ltb g.limits.width w) (λ _. refl)
    λ _. cond-case NeededLow (ltb g.limits.height h) (λ _. refl) (λ _. room-low g (max a.width w) (max a.height h))

sixel-low : (p : Pen) (a : VisibleArea) (g : Ground) → NeededLow (sixel_area p a g)
unfolding sixel_area grown_area number_of one_of
sixel-low p a g =
    cond-case NeededLow (leb (p.column + p.repeat) a.width && leb (p.row + 6) a.height) (λ _. tt)
    λ _. cond-case NeededLow (leb (p.column + p.repeat) g.limits.width && leb (p.row + 6) g.limits.height)
    (λ _. room-low g (max a.width (p.column + p.repeat)) (max a.height (p.row + 6))) (λ _. refl)

module _ (f : Frame) (g : Ground) (p : Palette) where
  grown-low : (r : Raster) (n : Result VisibleArea Refusal) → NeededLow n → Low (raster_grown f r n).outcome
  unfolding raster_grown outcome_number
  grown-low r (Ok a) k = tt
  grown-low r (Err n) k = k

  kind-low : (k : Kind) → Low (ended_in k f g p).progress.outcome
  unfolding ended_in repeat_ended raster_ended_by outcome_number number_of one_of
  kind-low kinds.Data = tt
  kind-low kinds.Repeat = cond-case (λ (s : Progress). Low s.outcome) (ltb g.limits.repeats f.command.number) (λ _. refl) (λ _. tt)
  kind-low kinds.Color = tt
  kind-low kinds.Raster =
      let r : Raster = raster_by f.raster (finished_of f) in
      cond-case (λ (s : Progress). Low s.outcome) (eqb r.width 0 && eqb r.height 0) (λ _. tt)
      (λ _. grown-low r (raster_area f.area g (max 1 r.width) (max 1 r.height)) (raster-low f.area g (max 1 r.width) (max 1 r.height)))

  -- Ending the pending command is refused by 4 to 7 alone.
  pub ended-low : Low (ended f g p).progress.outcome
  unfolding ended
  ended-low = kind-low f.command.kind

-- ---- bytes

abbrev StepLow : Reached → Type 0
StepLow t = Low t.progress.outcome

module _ (g : Ground) (b left : ℕ) where
  drawn-low : (n : Result VisibleArea Refusal) → NeededLow n → (f : Frame) (bits : ℕ) (p : Palette) (l : List ℕ) → StepLow (drawn_in n f g bits left p l)
  unfolding drawn_in painted_on outcome_number
  drawn-low (Ok a) k f bits p l = cond-case StepLow (ltb left (ones bits * f.pen.repeat)) (λ _. tt) (λ _. tt)
  drawn-low (Err n) k f bits p l = k

  data-low : (f : Frame) (p : Palette) (l : List ℕ) → StepLow (data_step f g b left p l)
  unfolding data_step drawn_by outcome_number
  data-low f p l =
      cond-case StepLow (sixel b) (λ _. drawn-low (sixel_area f.pen f.area g) (sixel-low f.pen f.area g) f (b - 63) p l)
      λ _. cond-case StepLow (ends b) (λ _. tt) (λ _. tt)

  argument-low : (f : Frame) (p : Palette) (l : List ℕ) → StepLow (argument_step f g b p l)
  unfolding argument_step settled_step outcome_number
  argument-low f p l =
      cond-case StepLow (digit b) (λ _. tt)
      λ _. cond-case StepLow (skipped b) (λ _. tt)
      λ _. cond-case StepLow (eqb b semicolon && takes_semicolon f.command.kind) (λ _. tt) (λ _. ended-low f g p)

  step-low : (k : Kind) (f : Frame) (p : Palette) (l : List ℕ) → StepLow (step_in k f g b left p l)
  unfolding step_in
  step-low kinds.Data f p l = data-low f p l
  step-low kinds.Repeat f p l = argument-low f p l
  step-low kinds.Color f p l = argument-low f p l
  step-low kinds.Raster f p l = argument-low f p l

  then-low : (o : Outcome) (t : Reached) → StepLow t → StepLow (then_data o t g b left)
  unfolding then_data
  then-low outcomes.Read t h = cond-case StepLow (eqb t.progress.consumed 0) (λ _. data-low t.progress.frame t.palette t.canvas) (λ _. h)
  then-low outcomes.Stopped t h = h
  then-low (outcomes.Ended x) t h = h
  then-low (outcomes.Refused r) t h = h

  byte_low : (f : Frame) (p : Palette) (l : List ℕ) → StepLow (byte_step f g b left p l)
  unfolding byte_step step_of
  byte_low f p l =
      then-low (step_of f g b left p l).progress.outcome (step_of f g b left p l) (step-low f.command.kind f p l)

abbrev ReachedLow : Reached → Type 0
ReachedLow r = Low r.progress.outcome

on-low : (o : Outcome) (t : Reached) (n i : ℕ) (later : ℕ → ℕ → Frame → Palette → List ℕ → Reached) → Low o
    → ((n' i' : ℕ) (f : Frame) (p : Palette) (l : List ℕ) → ReachedLow (later n' i' f p l)) → ReachedLow (go_on o t n i later)
unfolding go_on reached_as outcome_number
on-low outcomes.Read t n i later h k = k (n + 1) (i + t.progress.ink) t.progress.frame t.palette t.canvas
on-low outcomes.Stopped t n i later h k = tt
on-low (outcomes.Ended b) t n i later h k = tt
on-low (outcomes.Refused r) t n i later h k = h

-- Reading any bytes, from whatever frame, is refused by 4 to 7 alone.
pub reading-low : (g : Ground) (a : ℕ) (bs : List ℕ) (n i : ℕ) (f : Frame) (p : Palette) (l : List ℕ) → ReachedLow (feed_from g a bs n i f p l)
unfolding feed_from reached_as outcome_number
reading-low g a [] n i f p l = tt
reading-low g a (b ∷ bs) n i f p l =
    let t : Reached = byte_step f g b (a - i) p l in
    on-low t.progress.outcome t n i (λ n' i' f' p' l'. feed_from g a bs n' i' f' p' l') (byte_low g b (a - i) f p l)
    (λ n' i' f' p' l'. reading-low g a bs n' i' f' p' l')

-- ---- the order of a finish

module _ (s : Session) (owner : Palette) (canvas : List ℕ) where
  outcome-order : (o : Outcome) (last : Frame) (p : Palette) → finish_number (finished_in o s owner last p canvas).0.answer ≡ outcome_number o
  unfolding finished_in pictured turned_away finish_number outcome_number
  outcome-order outcomes.Read last p = refl
  outcome-order outcomes.Stopped last p = refl
  outcome-order (outcomes.Ended b) last p = refl
  outcome-order (outcomes.Refused n) last p = refl

  live-order : finish_number (finished_live s owner canvas).0.answer ≡ pending_number s
  unfolding finished_live pending_number
  live-order = let e : Ended = ended s.frame s.ground s.palette in outcome-order e.progress.outcome e.progress.frame e.palette

  -- A payload session's finish, whatever the session holds: 9, 12, the pending command's, and no other.
  pub payload-finish-order : finish_number (finished_by s owner canvas).0.answer ≡ payload_finish_order s (length canvas)
  unfolding finished_by finished_as finish_judged turned_away finish_number payload_finish_order first_or first_of number_of
  payload-finish-order = go (is_failed s.life) (misfitting s (length canvas))
    where
      go : (t m : Bool)
          → finish_number (finished_as (cond t (Err refusals.Failed) (cond m (Err refusals.Canvas) (Ok tt))) s owner canvas).0.answer
          ≡ first_or (record { holds = t; number = 9 } ∷ record { holds = m; number = 12 } ∷ []) (pending_number s)
      go true m = refl
      go false true = refl
      go false false = live-order

module _ (s : dcs_session.Session) (owner : Palette) (canvas : List ℕ) where
  -- at the end it is the payload's, which has passed 9 and 12
  phase-order : (t : Phase) → is_failed s.payload.life ≡ false → misfitting s.payload (length canvas) ≡ false
      → finish_number (dcs.finished_in t s owner canvas).0.answer
      ≡ first_or (record { holds = is_early t; number = 8 } ∷ []) (pending_number s.payload)
  unfolding dcs.finished_in turned_away finish_number first_or first_of is_early number_of payload_finish_order pending_number
  phase-order (phases.Before t) live fits = refl
  phase-order phases.Within live fits = refl
  phase-order phases.Escaped live fits = refl
  phase-order (phases.Over e) live fits =
      payload-finish-order s.payload owner canvas
      ∙ passed (is_failed s.payload.life) (misfitting s.payload (length canvas)) live fits
    where
      passed : (t m : Bool) → t ≡ false → m ≡ false
          → first_or (record { holds = t; number = 9 } ∷ record { holds = m; number = 12 } ∷ []) (pending_number s.payload) ≡ pending_number s.payload
      passed t m live fits = rw (live, fits) refl

  -- A DCS session's finish: 9, 12, 8, the pending command's, and no other.
  pub dcs-finish-order : finish_number (dcs.finished_by s owner canvas).0.answer ≡ dcs_finish_order s (length canvas)
  unfolding dcs.finished_by dcs.finished_as finish_judged turned_away finish_number dcs_finish_order first_or first_of number_of
  dcs-finish-order = go (is_failed s.payload.life) refl (misfitting s.payload (length canvas)) refl
    where
      go : (t : Bool) → is_failed s.payload.life ≡ t → (m : Bool) → misfitting s.payload (length canvas) ≡ m
          → finish_number
          (dcs.finished_as (cond t (Err refusals.Failed) (cond m (Err refusals.Canvas) (Ok tt))) s owner canvas).0.answer
          ≡ first_or
          (record { holds = t; number = 9 } ∷ record { holds = m; number = 12 } ∷ record { holds = is_early s.phase; number = 8 } ∷ [])
          (pending_number s.payload)
      go true live m fits = refl
      go false live true fits = refl
      go false live false fits = phase-order s.phase live fits

-- The pending command's number is one of 4 to 7.
pub pending-low : (s : Session) → Only command_numbers (pending_number s)
unfolding pending_number
pending-low s = ended-low s.frame s.ground s.palette
