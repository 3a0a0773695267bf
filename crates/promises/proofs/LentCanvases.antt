-- What a call answers does not hang on the canvas's bytes, but on its length alone; so whatever canvas is lent, the answer is the definition's.
use Rattle.std.specs.Prelude.{Ok, Err}
use Prim.Native.Nat.{ℕ, ◌+◌, ◌-◌}
use mathlib.Core.Bool.{Bool, true, false, cond, not, ◌&&◌, ◌||◌, true≢false}
use mathlib.Core.List.{List, [], ◌∷◌}
use mathlib.Core.Logic.{◌↔◌, inl}
use mathlib.Core.Option.{Option, none, some}
use mathlib.Core.Path.{◌≡◌, refl, sym, ap, ◌∙◌}
use borrow.Author.Tests.{eqb-true}
use lib.Dec.{leb, ltb, eqb}
use lib.ListN.{length, drop}
use Rattle.numbers.specs.Bytes.{skipped, digit, sixel, ends, semicolon}
use Rattle.colours.specs.declared.Palette.{Palette}
use Rattle.canvas.specs.Picture.{Area, fits, span}
use Rattle.canvas.specs.Paint.{painted}
use Rattle.canvas.proofs.Bytes.{length-painted}
use Rattle.frame.specs.declared.Frame.{Frame}
use Rattle.frame.specs.declared.Ground.{Ground}
use Rattle.frame.specs.declared.Kind.{Kind}
use Rattle.frame.specs.declared.Kind.TheVariants as kinds
use Rattle.frame.specs.declared.Limits.{Limits}
use Rattle.frame.specs.declared.Outcome.{Outcome}
use Rattle.frame.specs.declared.Outcome.TheVariants as outcomes
use Rattle.frame.specs.declared.Progress.{Progress}
use Rattle.frame.specs.declared.Refusal.{Refusal}
use Rattle.frame.specs.declared.Progress.{Progress}
use Rattle.frame.specs.declared.VisibleArea.{VisibleArea}
use Rattle.std.specs.Prelude.{Result, Ok, Err}
use Rattle.frame.specs.Sizes.{sixel_area}
use Rattle.frame.specs.Commands.{Ended, ended}
use Rattle.frame.specs.Numbers.{number_of}
use Rattle.reference.specs.Feed.{then_data, byte_step, reached_as, go_on, feed_from}
use Rattle.reference.specs.Step.{Reached, painted_on, drawn_in, drawn_by, data_step, settled_step, takes_semicolon, argument_step, step_in, step_of}
use Rattle.meaning.specs.Calls as calls
use Rattle.meaning.specs.Payload as meant
use Rattle.meaning.specs.Sessions.{Reading, payload_step, rested, finish_reading, End, Phase, dcs_step, dcs_rested, finish_dcs}
use Rattle.meaning.proofs.FeedingLaws.{fed-as, finished_as_lem}
use Rattle.payload.specs.Results.{Fed, Verdict}
use Rattle.payload.specs.declared.Finished.{Finished}
use Rattle.payload.specs.declared.Life.{Life}
use Rattle.payload.specs.declared.Life.TheVariants as lives
use Rattle.payload.specs.declared.Session as payload_session
use Rattle.payload.specs.declared.Settings.{Settings}
use Rattle.payload.specs.Deferred.{begun_by}
use Rattle.payload.specs.Refusals.{feed_judged, finish_judged}
use Rattle.payload.specs.Session as payload
use Rattle.payload.specs.History as payload_history
use Rattle.payload.specs.Meant as payload_meant
use Rattle.payload.specs.History.{Stands, Finishes, pictures, declines}
use Rattle.payload.proofs.Judgements.{judged_meant, misfit, feed-judged, finish-judged, stands-long, stands-fit}
use Rattle.payload.proofs.Feedings.{feed-stands}
use Rattle.payload.proofs.Finishings.{finish-stands}
use Rattle.dcs.specs.Results as dcs_fed
use Rattle.dcs.specs.declared.Phase as phase
use Rattle.dcs.specs.declared.Phase.TheVariants as phases
use Rattle.dcs.specs.declared.Session as dcs_session
use Rattle.header.specs.declared.Lead.{Lead}
use Rattle.header.specs.Results.{Led}
use Rattle.header.specs.declared.Led.TheVariants as leds
use Rattle.header.specs.Lead.{lead_from}
use Rattle.header.specs.Settings.{settings_from}
use Rattle.dcs.specs.Session as dcs
use Rattle.dcs.specs.History as dcs_history
use Rattle.dcs.specs.Meant as dcs_meant
use Rattle.dcs.proofs.Standing as standing
use Rattle.payload.specs.Meant.{finish_meant}
use Rattle.promises.proofs.Choices.{none-some}
use Rattle.promises.proofs.RefusedCalls.{Misfits, tells-misfits}
use Rattle.promises.proofs.RefusedDcs.{judged-meant, finish-meant}
use Rattle.promises.proofs.RefusedSessions.{payload_area, dcs_area}

-- ---- the bytes of a payload

-- all of a step but the canvas
unfoldable blind : Reached → Progress × Palette
blind t = (t.progress, t.palette)

-- two tests alike
both-cases : {A B : Type 0} (f : A → B) (t : Bool) {x y u v : A} → f x ≡ f u → f y ≡ f v → f (cond t x y) ≡ f (cond t u v)
both-cases f true e k = e
both-cases f false e k = k

module _ (g : Ground) (b left : ℕ) where
  module _ (f : Frame) (p : Palette) (l m : List ℕ) where
    drawn-alike : (n : Result VisibleArea Refusal) (bits : ℕ) → blind (drawn_in n f g bits left p l) ≡ blind (drawn_in n f g bits left p m)
    unfolding drawn_in painted_on blind
    drawn-alike (Ok a) bits = both-cases blind (ltb left _) refl refl
    drawn-alike (Err r) bits = refl

    data-alike : blind (data_step f g b left p l) ≡ blind (data_step f g b left p m)
    unfolding data_step drawn_by blind
    data-alike = both-cases blind (sixel b) (drawn-alike (sixel_area f.pen f.area g) (b - 63)) (both-cases blind (ends b) refl refl)

    argument-alike : blind (argument_step f g b p l) ≡ blind (argument_step f g b p m)
    unfolding argument_step settled_step blind
    argument-alike =
        both-cases blind (digit b) refl
        (both-cases blind (skipped b) refl (both-cases blind (eqb b semicolon && takes_semicolon f.command.kind) refl refl))

    step-alike : (k : Kind) → blind (step_in k f g b left p l) ≡ blind (step_in k f g b left p m)
    unfolding step_in
    step-alike kinds.Data = data-alike
    step-alike kinds.Repeat = argument-alike
    step-alike kinds.Color = argument-alike
    step-alike kinds.Raster = argument-alike

  then-alike : (o : Outcome) (t u : Reached) → blind t ≡ blind u → blind (then_data o t g b left) ≡ blind (then_data o u g b left)
  unfolding then_data blind
  then-alike outcomes.Read t u e =
      both-cases blind (eqb t.progress.consumed 0)
      (data-alike t.progress.frame t.palette t.canvas u.canvas
      ∙ ap (λ (x : Progress × Palette). blind (data_step x.0.frame g b left x.1 u.canvas)) e)
      e
      ∙ ap
      (λ (x : Progress × Palette).
      blind (cond (eqb x.0.consumed 0) (data_step u.progress.frame g b left u.palette u.canvas) u))
      e
  then-alike outcomes.Stopped t u e = e
  then-alike (outcomes.Ended z) t u e = e
  then-alike (outcomes.Refused r) t u e = e

  byte-alike : (f : Frame) (p : Palette) (l m : List ℕ) → blind (byte_step f g b left p l) ≡ blind (byte_step f g b left p m)
  unfolding byte_step step_of blind
  byte-alike f p l m =
      let e : blind (step_of f g b left p l) ≡ blind (step_of f g b left p m) = step-alike f p l m f.command.kind in
      then-alike (step_of f g b left p l).progress.outcome (step_of f g b left p l) (step_of f g b left p m) e
      ∙ ap (λ (x : Progress × Palette). blind (then_data x.0.outcome (step_of f g b left p m) g b left)) e

-- all that reading came to but the canvas
unfoldable pub seen : Reached → Progress × Palette
seen r = (r.progress, r.palette)

-- what follows does not look at the canvas
abbrev Unseeing : (ℕ → ℕ → Frame → Palette → List ℕ → Reached) → Type 0
Unseeing later = (n i : ℕ) (f : Frame) (p : Palette) (l m : List ℕ) → seen (later n i f p l) ≡ seen (later n i f p m)

on_alike : (o : Outcome) (t u : Reached) → blind t ≡ blind u → (n i : ℕ) (later : ℕ → ℕ → Frame → Palette → List ℕ → Reached) → Unseeing later
    → seen (go_on o t n i later) ≡ seen (go_on o u n i later)
unfolding go_on reached_as seen blind
on_alike outcomes.Read t u e n i later k =
    k (n + 1) (i + t.progress.ink) t.progress.frame t.palette t.canvas u.canvas
    ∙ ap (λ (x : Progress × Palette). seen (later (n + 1) (i + x.0.ink) x.0.frame x.1 u.canvas)) e
on_alike outcomes.Stopped t u e n i later k =
    ap (λ (x : Progress × Palette). seen (reached_as x.0.frame n i outcomes.Stopped x.1 [])) e
on_alike (outcomes.Ended z) t u e n i later k =
    ap (λ (x : Progress × Palette). seen (reached_as x.0.frame n i (outcomes.Ended z) x.1 [])) e
on_alike (outcomes.Refused r) t u e n i later k =
    ap (λ (x : Progress × Palette). seen (reached_as x.0.frame n i (outcomes.Refused r) x.1 [])) e

-- Reading some bytes comes to the same progress and the same palette on any two canvases.
pub read_alike : (g : Ground) (a : ℕ) (bs : List ℕ) → Unseeing (feed_from g a bs)
unfolding feed_from reached_as seen blind
read_alike g a [] n i f p l m = refl
read_alike g a (b ∷ bs) n i f p l m =
    let later : ℕ → ℕ → Frame → Palette → List ℕ → Reached = λ n' i' f' p' l'. feed_from g a bs n' i' f' p' l' in
    let t : Reached = byte_step f g b (a - i) p l in
    let u : Reached = byte_step f g b (a - i) p m in
    let e : blind t ≡ blind u = byte-alike g b (a - i) f p l m in
    on_alike t.progress.outcome t u e n i later (read_alike g a bs)
    ∙ ap (λ (x : Progress × Palette). seen (go_on x.0.outcome u n i later)) e

-- ---- payload sessions, on two canvases that are equally long

module _ (s : payload_session.Session) (bs : List ℕ) (a : ℕ) (l m : List ℕ) where
  live_alike : (payload.fed_live s l bs a).0 ≡ (payload.fed_live s m bs a).0
  unfolding payload.fed_live seen
  live_alike = ap (λ (x : Progress × Palette). payload.answered_by s x.0 x.1) (read_alike s.ground a bs 0 0 s.frame s.palette l m)

  life-alike : (x : Life) → (payload.fed_in x s l bs a).0 ≡ (payload.fed_in x s m bs a).0
  unfolding payload.fed_in
  life-alike lives.Live = live_alike
  life-alike (lives.Ended b) = refl
  life-alike lives.Failed = live_alike

  judged-alike : (j : Verdict) → (payload.fed_as j s l bs a).0 ≡ (payload.fed_as j s m bs a).0
  unfolding payload.fed_as
  judged-alike (Ok tt) = life-alike s.life
  judged-alike (Err n) = refl

  -- A feed has the same answer and leaves the same session.
  pub payload-fed-alike : length l ≡ length m → (payload.fed_by s l bs a).0 ≡ (payload.fed_by s m bs a).0
  unfolding payload.fed_by
  payload-fed-alike long =
      judged-alike (feed_judged s (length l) a) ∙ ap (λ (n : ℕ). (payload.fed_as (feed_judged s n a) s m bs a).0) long

module _ (s : payload_session.Session) (owner : Palette) (l m : List ℕ) where
  outcome-alike : (o : Outcome) (last : Frame) (p : Palette) → (payload.finished_in o s owner last p l).0 ≡ (payload.finished_in o s owner last p m).0
  unfolding payload.finished_in payload.pictured payload.turned_away
  outcome-alike outcomes.Read last p = refl
  outcome-alike outcomes.Stopped last p = refl
  outcome-alike (outcomes.Ended b) last p = refl
  outcome-alike (outcomes.Refused n) last p = refl

  end-alike : (j : Verdict) → (payload.finished_as j s owner l).0 ≡ (payload.finished_as j s owner m).0
  unfolding payload.finished_as payload.finished_live payload.turned_away
  end-alike (Ok tt) =
      let e : Ended = ended s.frame s.ground s.palette in outcome-alike e.progress.outcome e.progress.frame e.palette
  end-alike (Err n) = refl

  -- A finish has the same answer and palette.
  pub payload-finished-alike : length l ≡ length m → (payload.finished_by s owner l).0 ≡ (payload.finished_by s owner m).0
  unfolding payload.finished_by
  payload-finished-alike long =
      end-alike (finish_judged s (length l)) ∙ ap (λ (n : ℕ). (payload.finished_as (finish_judged s n) s owner m).0) long

-- ---- DCS sessions, the same

passed-alike : (s : dcs_session.Session) (bs : List ℕ) (n a : ℕ) (l m : List ℕ) → length l ≡ length m
    → (dcs.fed_payload s l bs n a).0 ≡ (dcs.fed_payload s m bs n a).0
unfolding dcs.fed_payload
passed-alike s bs n a l m long =
    ap (λ (x : Fed). dcs.passed_on x.answer (dcs.session_of x.session s.header phases.Within) bs n) (payload-fed-alike s.payload bs a l m long)

-- beginning a payload paints a pixel, and leaves the length
begun-long : (s : payload_session.Session) (o : Settings) (l : List ℕ) → length (begun_by s o l).1 ≡ length l
unfolding begun_by
begun-long s o l = go (leb 4 (length l))
  where
    go : (t : Bool) → length (cond t (painted (span 0 1) (payload.background_for s.palette o.p2) l) l) ≡ length l
    go true = length-painted _ _ l
    go false = refl

module _ (s : dcs_session.Session) (bs : List ℕ) (a : ℕ) (l m : List ℕ) (long : length l ≡ length m) where
  led-alike : (x : Led) (y : Lead) → (dcs.led_to x y s l bs a).0 ≡ (dcs.led_to x y s m bs a).0
  unfolding dcs.led_to begun_by
  led-alike (Ok leds.On) y = refl
  led-alike (Ok leds.Begins) y =
      let o : Settings = settings_from y.header in
      passed-alike (dcs.session_of (begun_by s.payload o l).0 y.header phases.Within) (drop y.consumed bs) y.consumed a
      (begun_by s.payload o l).1 (begun_by s.payload o m).1 (begun-long s.payload o l ∙ long ∙ sym (begun-long s.payload o m))
  led-alike (Err r) y = refl

  phase-alike : (t : phase.Phase) → (dcs.fed_in t s l bs a).0 ≡ (dcs.fed_in t s m bs a).0
  unfolding dcs.fed_in dcs.fed_lead
  phase-alike (phases.Before t) = let y : Lead = lead_from bs 0 t s.header in led-alike y.led y
  phase-alike phases.Within = passed-alike s bs 0 a l m long
  phase-alike phases.Escaped = refl
  phase-alike (phases.Over e) = refl

  dcs-judged-alike : (j : Verdict) → (dcs.fed_as j s l bs a).0 ≡ (dcs.fed_as j s m bs a).0
  unfolding dcs.fed_as
  dcs-judged-alike (Ok tt) = phase-alike s.phase
  dcs-judged-alike (Err n) = refl

  -- A feed has the same answer and leaves the same session.
  pub dcs-fed-alike : (dcs.fed_by s l bs a).0 ≡ (dcs.fed_by s m bs a).0
  unfolding dcs.fed_by
  dcs-fed-alike =
      dcs-judged-alike (feed_judged s.payload (length l) a) ∙ ap (λ (n : ℕ). (dcs.fed_as (feed_judged s.payload n a) s m bs a).0) long

module _ (s : dcs_session.Session) (owner : Palette) (l m : List ℕ) (long : length l ≡ length m) where
  ending-alike : (t : phase.Phase) → (dcs.finished_in t s owner l).0 ≡ (dcs.finished_in t s owner m).0
  unfolding dcs.finished_in payload.turned_away
  ending-alike (phases.Before t) = refl
  ending-alike phases.Within = refl
  ending-alike phases.Escaped = refl
  ending-alike (phases.Over e) = payload-finished-alike s.payload owner l m long

  dcs-end-alike : (j : Verdict) → (dcs.finished_as j s owner l).0 ≡ (dcs.finished_as j s owner m).0
  unfolding dcs.finished_as payload.turned_away
  dcs-end-alike (Ok tt) = ending-alike s.phase
  dcs-end-alike (Err n) = refl

  -- A finish has the same answer and palette.
  pub dcs-finished-alike : (dcs.finished_by s owner l).0 ≡ (dcs.finished_by s owner m).0
  unfolding dcs.finished_by
  dcs-finished-alike =
      dcs-end-alike (finish_judged s.payload (length l)) ∙ ap (λ (n : ℕ). (dcs.finished_as (finish_judged s.payload n) s owner m).0) long

-- ---- whatever canvas is lent, the answers are the definition's

-- the picture fits the canvas of the opening: then another misfits exactly when its length differs
pub misfits-exactly : {S : Type 0} (area_of : S → Area) (m : calls.Session S) {size : ℕ} → m.length ≡ size → calls.misfits area_of m size ≡ false → (n : ℕ)
    → Misfits area_of m n ↔ (¬ (n ≡ size))
misfits-exactly area_of m {size} long fit n = (
  λ h e. true≢false (sym ((tells-misfits area_of m n).1 h) ∙ ap (calls.misfits area_of m) e ∙ fit),
  λ differ. inl (λ e. differ (e ∙ long)),
)

-- a call that passes 9 and 12 has the opening's length
fits-long : {S : Type 0} (area_of : S → Area) (m : calls.Session S) {size n : ℕ} → m.length ≡ size → calls.misfits area_of m n ≡ false → n ≡ size
unfolding calls.misfits
fits-long area_of m {size} {n} long fit = go (eqb n m.length) refl fit
  where
    go : (t : Bool) → eqb n m.length ≡ t → (not t || not (fits m.setting.stride n (area_of m.state))) ≡ false → n ≡ size
    go true e f = eqb-true n m.length e ∙ long
    go false e f = absurd (true≢false f)

-- what passes 9 and 12 is none of them
passes-twelve : (t u : Bool) (o : Option ℕ) → cond t (some 9) (cond u (some 12) o) ≡ none → u ≡ false
passes-twelve true u o e = none-some (sym e)
passes-twelve false true o e = none-some (sym e)
passes-twelve false false o e = refl

-- by the judgement before the bytes: a refusal, or none
by-judged : {A : Type 0} (j : Verdict) (x : Verdict → A) {z : A} → ((r : Refusal) → judged_meant j ≡ some (number_of r) → x (Err r) ≡ z)
    → (judged_meant j ≡ none → x j ≡ z) → x j ≡ z
unfolding judged_meant
by-judged (Ok tt) x refused fine = fine refl
by-judged (Err r) x refused fine = refused r refl

-- what a finish answers, in the definition's terms
abbrev pub answer_of : Finished → meant.Finished
answer_of x = finish_meant x.answer x.palette

-- a finish that is the definition's has its answer
pub finishes-meant : {picture l : List ℕ} {owner : Palette} {y : Finished × List ℕ} {z : meant.Finished} → Finishes picture owner l y z
    → answer_of y.0 ≡ z
unfolding finish_meant
finishes-meant pictures = refl
finishes-meant (declines n) = refl

module _ {opening : List ℕ} {s : payload_session.Session} {l : List ℕ} {m : calls.Session Reading} (k : Stands opening s l m)
    (long : m.length ≡ length opening) (lent : List ℕ) where
  -- it misfits exactly when its length is not the opening's
  pub payload-misfits : Misfits payload_area m (length lent) ↔ (¬ (length lent ≡ length opening))
  payload-misfits = misfits-exactly payload_area m long (ap (calls.misfits payload_area m) (sym long) ∙ stands-fit k) (length lent)

  -- one that fits is as long as the session's own
  fits-own : calls.misfits payload_area m (length lent) ≡ false → length lent ≡ length l
  fits-own fit = fits-long payload_area m long fit ∙ sym (stands-long k)

  -- A feed's answer is the definition's.
  pub payload-lent-answers : (bs : List ℕ) (a : ℕ)
      → payload_meant.answer_meant (payload.fed_by s lent bs a).0.answer ≡ (calls.feed_payload m (length lent) a bs).answer
  unfolding payload.fed_by payload.fed_as payload_meant.answer_meant calls.feed_payload calls.feed_refusal calls.first_of
  payload-lent-answers bs a =
      by-judged (feed_judged s (length lent) a) (λ j. payload_meant.answer_meant (payload.fed_as j s lent bs a).0.answer)
      (λ r e. sym (ap (λ (x : calls.Fed Reading ℕ). x.answer) (fed-as payload_area payload_step rested (λ x. x.over) m (length lent) a bs (sym same ∙ e))))
      (λ e.
      let fit : length lent ≡ length l = fits-own (passes-twelve m.failed (calls.misfits payload_area m (length lent)) _ (sym same ∙ e)) in
      ap (λ (x : Fed). payload_meant.answer_meant x.answer) (payload-fed-alike s bs a lent l fit)
      ∙ (feed-stands k bs a).answer
      ∙ ap (λ (n : ℕ). (calls.feed_payload m n a bs).answer) (sym fit))
    where
      same : judged_meant (feed_judged s (length lent) a) ≡ calls.feed_refusal payload_area m (length lent) a
      same = feed-judged k (length lent) a

  -- A refusal that comes before the bytes leaves the session and that canvas as they were.
  pub payload-lent-keeps : (bs : List ℕ) (a n : ℕ) → calls.feed_refusal payload_area m (length lent) a ≡ some n
      → (payload_history.feed_with payload.fed_by (s, lent) bs a).0 ≡ (s, lent)
  unfolding payload.fed_by payload.fed_as
  payload-lent-keeps bs a n first =
      by-judged (feed_judged s (length lent) a)
      (λ j. let x : Fed × List ℕ = payload.fed_as j s lent bs a in let h : payload_history.Held = (x.0.session, x.1) in h)
      (λ r e. refl) (λ e. none-some (sym e ∙ feed-judged k (length lent) a ∙ first))

  -- A finish's answer is the definition's.
  pub payload-lent-finishes : (owner : Palette) → answer_of (payload.finished_by s owner lent).0 ≡ calls.finish_payload m (length lent)
  unfolding payload.finished_by payload.finished_as payload.turned_away finish_meant calls.finish_payload calls.first_of misfit
  payload-lent-finishes owner =
      by-judged (finish_judged s (length lent)) (λ j. answer_of (payload.finished_as j s owner lent).0)
      (λ r e. sym (finished_as_lem payload_area finish_reading m (length lent) (sym same ∙ e)))
      (λ e.
      let fit : length lent ≡ length l = fits-own (passes-twelve m.failed (calls.misfits payload_area m (length lent)) none (sym same ∙ e)) in
      ap answer_of (payload-finished-alike s owner lent l fit)
      ∙ finishes-meant (finish-stands k owner)
      ∙ ap (calls.finish_payload m) (sym fit))
    where
      same : judged_meant (finish_judged s (length lent))
          ≡ calls.first_of (record { holds = m.failed; number = 9 } ∷ record { holds = calls.misfits payload_area m (length lent); number = 12 } ∷ [])
      same = finish-judged k (length lent)

-- the definition's session of a DCS session has the length of the opening
dcs-long : (l : Limits) (stride : ℕ) (p : Palette) (opening : List ℕ) {s : dcs_session.Session} {c : List ℕ} {m : calls.Session Phase}
    → dcs_history.Stands l stride p opening s c m → m.length ≡ length opening
dcs-long l stride p opening (dcs_history.before opens same) = refl
dcs-long l stride p opening (dcs_history.refused same) = refl
dcs-long l stride p opening (dcs_history.inside k over) = refl
dcs-long l stride p opening (dcs_history.escaped k) = refl
dcs-long l stride p opening (dcs_history.ended k) = refl

module _ (l : Limits) (stride : ℕ) (p : Palette) (opening : List ℕ) {s : dcs_session.Session} {c : List ℕ} {m : calls.Session Phase}
    (k : dcs_history.Stands l stride p opening s c m) (lent : List ℕ) where
  -- it misfits exactly when its length is not the opening's
  pub dcs-misfits : Misfits dcs_area m (length lent) ↔ (¬ (length lent ≡ length opening))
  dcs-misfits = misfits-exactly dcs_area m (dcs-long l stride p opening k) (standing.stands-fit l stride p opening k) (length lent)

  -- one that fits is as long as the session's own
  dcs-fits-own : calls.misfits dcs_area m (length lent) ≡ false → length lent ≡ length c
  dcs-fits-own fit = fits-long dcs_area m (dcs-long l stride p opening k) fit ∙ sym (standing.stands-long l stride p opening k)

  -- A feed's answer is the definition's.
  pub dcs-lent-answers : (bs : List ℕ) (a : ℕ) → dcs_meant.answer_meant (dcs.fed_by s lent bs a).0.answer ≡ (calls.feed_dcs p m (length lent) a bs).answer
  unfolding dcs.fed_by dcs.fed_as dcs_meant.answer_meant calls.feed_dcs calls.feed_refusal calls.first_of
  dcs-lent-answers bs a =
      by-judged (feed_judged s.payload (length lent) a) (λ j. dcs_meant.answer_meant (dcs.fed_as j s lent bs a).0.answer)
      (λ r e. sym (ap (λ (x : calls.Fed Phase End). x.answer) (fed-as dcs_area (λ t. dcs_step t p) dcs_rested calls.dcs_end m (length lent) a bs (sym same ∙ e))))
      (λ e.
      let fit : length lent ≡ length c = dcs-fits-own (passes-twelve m.failed (calls.misfits dcs_area m (length lent)) _ (sym same ∙ e)) in
      ap (λ (x : dcs_fed.Fed). dcs_meant.answer_meant x.answer) (dcs-fed-alike s bs a lent c fit)
      ∙ (standing.feed-stands l stride p opening k bs a).answer
      ∙ ap (λ (n : ℕ). (calls.feed_dcs p m n a bs).answer) (sym fit))
    where
      same : judged_meant (feed_judged s.payload (length lent) a) ≡ calls.feed_refusal dcs_area m (length lent) a
      same = judged-meant l stride p opening k (length lent) a

  -- A refusal that comes before the bytes leaves the session and that canvas as they were.
  pub dcs-lent-keeps : (bs : List ℕ) (a n : ℕ) → calls.feed_refusal dcs_area m (length lent) a ≡ some n → (dcs_history.feed_held (s, lent) bs a).0 ≡ (s, lent)
  unfolding dcs.fed_by dcs.fed_as
  dcs-lent-keeps bs a n first =
      by-judged (feed_judged s.payload (length lent) a)
      (λ j. let x : dcs_fed.Fed × List ℕ = dcs.fed_as j s lent bs a in let h : dcs_history.Held = (x.0.session, x.1) in h)
      (λ r e. refl) (λ e. none-some (sym e ∙ judged-meant l stride p opening k (length lent) a ∙ first))

  -- A finish's answer is the definition's.
  pub dcs-lent-finishes : (owner : Palette) → answer_of (dcs.finished_by s owner lent).0 ≡ calls.finish_dcs_session m (length lent)
  unfolding dcs.finished_by dcs.finished_as payload.turned_away finish_meant calls.finish_dcs_session calls.first_of
  dcs-lent-finishes owner =
      by-judged (finish_judged s.payload (length lent)) (λ j. answer_of (dcs.finished_as j s owner lent).0)
      (λ r e. sym (finished_as_lem dcs_area finish_dcs m (length lent) (sym same ∙ e)))
      (λ e.
      let fit : length lent ≡ length c = dcs-fits-own (passes-twelve m.failed (calls.misfits dcs_area m (length lent)) none (sym same ∙ e)) in
      ap answer_of (dcs-finished-alike s owner lent c fit)
      ∙ finishes-meant (standing.finish-stands l stride p opening owner k)
      ∙ ap (calls.finish_dcs_session m) (sym fit))
    where
      same : judged_meant (finish_judged s.payload (length lent))
          ≡ calls.first_of (record { holds = m.failed; number = 9 } ∷ record { holds = calls.misfits dcs_area m (length lent); number = 12 } ∷ [])
      same = finish-meant l stride p opening k (length lent)
