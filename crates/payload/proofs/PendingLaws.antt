-- The pending command at a finish: the byte 1B ends it as any byte that ends a command does, and then ends the payload, so that what a finish
-- reports is what ending the command alone comes to.
use Rattle.std.specs.Prelude.{◌≡◌, ℕ, max, ◌&&◌, eqb, ltb, List, [], ◌∷◌, Ok, Err}
use mathlib.Core.Path.{refl, sym, ap, ◌∙◌}
use denote.Enum.Declared.{tag_of}
use types.Run.{OneOf, miss}
use Rattle.numbers.specs.Bytes.{skipped, digit, sixel, ends}
use Rattle.colours.specs.declared.Palette.{Palette}
use Rattle.colours.specs.Marks.{lasting, defined_count}
use Rattle.canvas.specs.Picture.{area_of}
use Rattle.canvas.proofs.Pictures.{grown-none}
use Rattle.frame.specs.declared.Extent.{Extent}
use Rattle.frame.specs.declared.Frame.{Frame}
use Rattle.frame.specs.declared.Ground.{Ground}
use Rattle.frame.specs.declared.Kind.{Kind}
use Rattle.frame.specs.declared.Kind.TheVariants as kinds
use Rattle.frame.specs.declared.Outcome.{Outcome}
use Rattle.frame.specs.declared.Outcome.TheVariants as outcomes
use Rattle.frame.specs.declared.Pen.{Pen}
use Rattle.frame.specs.declared.Progress.{Progress}
use Rattle.frame.specs.declared.Raster.{Raster}
use Rattle.frame.specs.declared.Refusal.{Refusal}
use Rattle.frame.specs.declared.Refusal.TheVariants as refusals
use Rattle.frame.specs.declared.VisibleArea.{VisibleArea}
use Rattle.std.specs.Prelude.{Result, Ok, Err}
use Rattle.frame.specs.Sizes.{raster_area}
use Rattle.frame.specs.Commands.{settled_as, unread_as, refused_as, with_repeat, repeat_ended, color_ended_by, raster_by, raster_grown, raster_ended_by, finished_of, Ended, ended_in, ended}
use Rattle.reference.specs.Step.{Reached, area_grown, data_step, settled_step, argument_step, step_in, step_of}
use Rattle.reference.specs.Feed.{then_data, byte_step, reached_as, go_on, feed_from}
use Rattle.meaning.proofs.AreaLaws.{cond-case}
use Rattle.payload.specs.declared.Finished.{Finished}
use Rattle.payload.specs.declared.Report.{Report}
use Rattle.payload.specs.declared.Session.{Session}
use Rattle.payload.specs.Session.{reported_as, reached_by, then_ended, closed_by, carried_out_in, carried_out, turned_away, pictured, finished_in, finished_live}
use Rattle.frame.specs.contracts.Kind as KindType
use Rattle.frame.specs.contracts.Outcome as OutcomeType

-- ---- ending a command

-- a command that ends is settled, or it is refused and leaves the frame
data EndsAs (f : Frame) : Progress → Type 0 where
  settles : (p : Pen) (a : VisibleArea) (e : Extent) (r : Raster) (h : ℕ) → EndsAs f (settled_as p a e r h)
  declines : (n : Refusal) → EndsAs f (refused_as f n)

module _ (f : Frame) (g : Ground) where
  grown-ends : (r : Raster) (n : Result VisibleArea Refusal) → EndsAs f (raster_grown f r n)
  unfolding raster_grown
  grown-ends r (Ok a) = settles _ _ _ _ _
  grown-ends r (Err n) = declines n

  raster-ends : (r : Raster) → EndsAs f (raster_ended_by f g r)
  unfolding raster_ended_by
  raster-ends r =
      cond-case (EndsAs f) (eqb r.width 0 && eqb r.height 0)
      (λ _. settles f.pen f.area f.extent r f.held)
      (λ _. grown-ends r (raster_area f.area g (max 1 r.width) (max 1 r.height)))

  ends-in : (k : Kind) (p : Palette) → EndsAs f (ended_in k f g p).progress
  unfolding ended_in repeat_ended color_ended_by
  ends-in kinds.Data p = settles _ _ _ _ _
  ends-in kinds.Repeat p =
      cond-case (EndsAs f) (ltb g.limits.repeats f.command.number)
      (λ _. declines refusals.Repeat)
      (λ _. settles (with_repeat f.pen (max 1 f.command.number)) f.area f.extent f.raster f.held)
  ends-in kinds.Color p = settles _ _ _ _ _
  ends-in kinds.Raster p = raster-ends (raster_by f.raster (finished_of f))

  command-ends : (p : Palette) → EndsAs f (ended f g p).progress
  unfolding ended
  command-ends p = ends-in f.command.kind p

-- ---- by the byte 1B

module _ (f : Frame) (g : Ground) (p : Palette) (l : List ℕ) where
  -- where a step with that byte leads, as the only byte
  onward : Reached → Reached
  unfolding then_data go_on
  onward t =
      let u : Reached = then_data t.progress.outcome t g 0x1B 0 in
      go_on u.progress.outcome u 0 0 (λ n i f' p' l'. feed_from g 0 [] n i f' p' l')

  byte-closes : {x : Progress} (q : Palette) (c : List ℕ) → EndsAs f x → onward (reached_by x q c) ≡ closed_by (reached_by x q c)
  unfolding onward then_data data_step go_on reached_as closed_by then_ended settled_as unread_as refused_as sixel ends
  byte-closes q c (settles _ _ _ _ _) = refl
  byte-closes q c (declines n) = refl

  -- it ends any argument
  argument-closes : onward (argument_step f g 0x1B p l) ≡ closed_by (settled_step f g p l)
  unfolding argument_step settled_step digit skipped
  argument-closes = byte-closes _ _ (command-ends f g p)

  closes_in : (k : Kind) → OneOf (1 ∷ 2 ∷ 3 ∷ []) (tag_of KindType.the_type k) → onward (step_in k f g 0x1B 0 p l) ≡ carried_out_in k f g p l
  unfolding step_in carried_out_in
  closes_in kinds.Data h = absurd (miss (1 ∷ 2 ∷ 3 ∷ []) 0 tt h)
  closes_in kinds.Repeat h = argument-closes
  closes_in kinds.Color h = argument-closes
  closes_in kinds.Raster h = argument-closes

  -- a pending command is carried out by it
  pub carried-fed : {t : Reached} → OneOf (1 ∷ 2 ∷ 3 ∷ []) (tag_of KindType.the_type f.command.kind) → t ≡ feed_from g 0 (0x1B ∷ []) 0 0 f p l
      → t ≡ carried_out f g p l
  unfolding feed_from byte_step step_of onward carried_out
  carried-fed h e = e ∙ closes_in f.command.kind h

  -- where none is pending nothing is done
  pub carried_none : f.command.kind ≡ kinds.Data
      → reached_by (record { frame = f; consumed = 0; ink = 0; outcome = outcomes.Read }) p l ≡ carried_out f g p l
  unfolding carried_out carried_out_in unread_as
  carried_none e = ap (λ (k : Kind). carried_out_in k f g p l) (sym e)

-- where it is refused no register is defined: a colour command never is
refused-kept : (f : Frame) (g : Ground) (p : Palette) (l : List ℕ) (k : Kind) → f.command.kind ≡ k → {n : Refusal}
    → (carried_out_in k f g p l).progress.outcome ≡ outcomes.Refused n → (carried_out_in k f g p l).palette ≡ p
unfolding carried_out_in closed_by then_ended unread_as settled_step ended ended_in color_ended_by settled_as
refused-kept f g p l kinds.Data e h = refl
refused-kept f g p l kinds.Repeat e h = ap (λ (k : Kind). (ended_in k f g p).palette) e
refused-kept f g p l kinds.Color e {n} h =
    let ends : outcomes.Ended 0x1B ≡ outcomes.Refused n = sym (ap (λ (k : Kind). then_ended (ended_in k f g p).progress.outcome) e) ∙ h in
    cc
refused-kept f g p l kinds.Raster e h = ap (λ (k : Kind). (ended_in k f g p).palette) e

-- ---- what a finish makes of it

module _ (s : Session) (owner : Palette) where
  -- the report of the frame reached
  reported : Reached → Finished × List ℕ
  unfolding reported_as
  reported t =
      let report : Report = reported_as t.progress.frame s.settings (defined_count t.palette) in
      (record { answer = Ok report; palette = lasting t.palette }, t.canvas)

  -- or a refusal
  told_in : Outcome → Reached → Finished × List ℕ
  unfolding reported
  told_in outcomes.Read t = reported t
  told_in outcomes.Stopped t = reported t
  told_in (outcomes.Ended b) t = reported t
  told_in (outcomes.Refused n) t = (record { answer = Err n; palette = owner }, t.canvas)

  module _ (p : Palette) (l : List ℕ) where
    -- an area that stays as it is grows nothing
    stays : area_grown s.frame s.ground s.frame.area.width s.frame.area.height l ≡ l
    unfolding area_grown
    stays = grown-none s.ground.stride (area_of s.frame.area.width s.frame.area.height) s.ground.background l

    -- the finish with an ending known
    abbrev finish : Progress → Palette → Finished × List ℕ
    finish x q = finished_in x.outcome s owner x.frame q l

    closed-told : {x : Progress} (q : Palette) → EndsAs s.frame x
        → (let t : Reached = closed_by (reached_by x q (area_grown s.frame s.ground x.frame.area.width x.frame.area.height l)) in
        told_in t.progress.outcome t)
        ≡ finish x q
    unfolding closed_by then_ended settled_as unread_as refused_as told_in finished_in pictured turned_away
    closed-told q (settles _ _ _ _ _) = refl
    closed-told q (declines n) = ap (λ (c : List ℕ). (record { answer = Err n; palette = owner }, c)) stays

    told_in_lem : (k : Kind) → s.frame.command.kind ≡ k
        → (let t : Reached = carried_out_in k s.frame s.ground p l in told_in t.progress.outcome t)
        ≡ (let e : Ended = ended s.frame s.ground p in finish e.progress e.palette)
    unfolding carried_out_in settled_step ended ended_in settled_as unread_as told_in reported finished_in pictured
    told_in_lem kinds.Data e =
        ap (λ (c : List ℕ). (record { answer = Ok (reported_as s.frame s.settings (defined_count p)); palette = lasting p }, c)) (sym stays)
        ∙ ap (λ (k : Kind). finish (ended_in k s.frame s.ground p).progress (ended_in k s.frame s.ground p).palette) (sym e)
    told_in_lem kinds.Repeat e = closed-told _ (command-ends s.frame s.ground p)
    told_in_lem kinds.Color e = closed-told _ (command-ends s.frame s.ground p)
    told_in_lem kinds.Raster e = closed-told _ (command-ends s.frame s.ground p)

  -- an outcome that is no refusal comes to a report
  not-refused : (o : Outcome) (t : Reached) → OneOf (0 ∷ 1 ∷ 2 ∷ []) (tag_of OutcomeType.the_type o) → reported t ≡ told_in o t
  unfolding told_in
  not-refused outcomes.Read t h = refl
  not-refused outcomes.Stopped t h = refl
  not-refused (outcomes.Ended b) t h = refl
  not-refused (outcomes.Refused n) t h = absurd (miss (0 ∷ 1 ∷ 2 ∷ []) 3 tt h)

  module _ (canvas : List ℕ) {lent after : Palette} {r : Progress} {later : List ℕ}
      (e : reached_by r after later ≡ carried_out s.frame s.ground lent canvas) (t : lent ≡ s.palette) where
    finish-in : told_in r.outcome (reached_by r after later) ≡ finished_live s owner canvas
    unfolding carried_out finished_live
    finish-in =
        ap (λ (x : Reached). told_in x.progress.outcome x) (e ∙ ap (λ (q : Palette). carried_out s.frame s.ground q canvas) t)
        ∙ told_in_lem s.palette canvas s.frame.command.kind refl

    -- a refusal leaves the registers that were lent, and so the owner's, as they are
    pub finish-last : {n : Refusal} → owner ≡ lent → r.outcome ≡ outcomes.Refused n
        → ◌≡◌ {A = Finished × List ℕ} (record { answer = Err n; palette = after }, later) (finished_live s owner canvas)
    unfolding told_in carried_out
    finish-last {n} o h =
        let kept = refused-kept s.frame s.ground lent canvas s.frame.command.kind refl in
        ap (λ (q : Palette). (record { answer = Err n; palette = q }, later))
        (ap (λ (x : Reached). x.palette) e ∙ kept (ap (λ (x : Reached). x.progress.outcome) (sym e) ∙ h) ∙ sym o)
        ∙ ap (λ (o : Outcome). told_in o (reached_by r after later)) (sym h)
        ∙ finish-in

    pub finish-pictured : {told : Report} {q : Palette} {n : ℕ} → OneOf (0 ∷ 1 ∷ 2 ∷ []) (tag_of OutcomeType.the_type r.outcome)
        → told ≡ reported_as r.frame s.settings n → n ≡ defined_count after → q ≡ lasting after
        → ◌≡◌ {A = Finished × List ℕ} (record { answer = Ok told; palette = q }, later) (finished_live s owner canvas)
    unfolding reported
    finish-pictured h k n q =
        rw (k, n, q) refl ∙ not-refused r.outcome (reached_by r after later) h ∙ finish-in

pub ruleset carrying = (carried-fed, carried_none)
