-- Of any session, whatever it holds: the number that is told of a call is the number that the call answers.
use Rattle.std.specs.Prelude.{◌≡◌, ℕ, ◌+◌, true, ◌||◌, eqb, leb, List, [], ◌∷◌, length, drop, Ok, Err}
use native.Mathlib.Nat.{sub-zero}
use mathlib.Core.Option.{Option, none}
use mathlib.Core.Path.{refl, sym, ap, ◌∙◌}
use Rattle.colours.specs.declared.Palette.{Palette}
use Rattle.canvas.specs.Picture.{span}
use Rattle.canvas.proofs.Bytes.{length-painted}
use Rattle.canvas.proofs.Covers.{by-test}
use Rattle.numbers.specs.Bytes.{skipped, digit, sixel, ends}
use Rattle.frame.specs.declared.Frame.{Frame}
use Rattle.frame.specs.declared.Ground.{Ground}
use Rattle.frame.specs.declared.Kind.{Kind}
use Rattle.frame.specs.declared.Kind.TheVariants as kinds
use Rattle.frame.specs.declared.Outcome.{Outcome}
use Rattle.frame.specs.declared.Outcome.TheVariants as outcomes
use Rattle.frame.specs.Commands.{unread_as, settled_as, Ended, ended_in, ended}
use Rattle.reference.specs.Step.{Reached}
use Rattle.reference.specs.Feed.{feed_from}
use Rattle.meaning.specs.Tellings.{number_told, answer_number, finish_number}
use Rattle.payload.specs.Results as payload_answer
use Rattle.payload.specs.declared.Answer.TheVariants as payload_answers
use Rattle.payload.specs.declared.Life.{Life}
use Rattle.payload.specs.declared.Life.TheVariants as lives
use Rattle.payload.specs.declared.Session as payload_session
use Rattle.payload.specs.declared.Settings.{Settings}
use Rattle.payload.specs.Results.{Verdict}
use Rattle.payload.specs.Deferred.{begun_session, begun_by}
use Rattle.payload.specs.Meant as payload_meant
use Rattle.payload.specs.Refusals.{feed_judged, finish_judged}
use Rattle.payload.specs.Session as payload
use Rattle.header.specs.declared.Lead.{Lead}
use Rattle.header.specs.Results.{Led}
use Rattle.header.specs.declared.Led.TheVariants as leds
use Rattle.header.specs.Lead.{lead_from}
use Rattle.header.specs.Settings.{settings_from}
use Rattle.dcs.specs.declared.Ending.{Ending}
use Rattle.dcs.specs.declared.Phase.{Phase}
use Rattle.dcs.specs.declared.Phase.TheVariants as phases
use Rattle.dcs.specs.declared.Session as dcs_session
use Rattle.dcs.specs.Meant as dcs_meant
use Rattle.dcs.specs.Session as dcs
use Rattle.explain.specs.Explained.{Explained}
use Rattle.explain.specs.declared.dry.Led as dry_led
use Rattle.explain.specs.Dry.{data_dry, argument_dry, step_dry_in, step_dry, then_dry, byte_dry, led_as, dry_from}
use Rattle.explain.specs.Explained.{placeless_for, told_for, explained_in, part_explained, pending_explained, unless_judged, fed_explained_in, fed_explained}
use Rattle.explain.specs.Explained.{payload_feed_explained, payload_finish_explained, led_explained, lead_explained, dcs_feed_in, dcs_feed_explained}
use Rattle.explain.specs.Explained.{dcs_finish_in, dcs_finish_explained}
use Rattle.explain.specs.Meant.{telling_meant, explained_meant}
use Rattle.explain.proofs.DryMeant.{feed-dry}
use Rattle.explain.proofs.SessionTells.{pending-dry}

-- the number of what is told
abbrev pub explained_number : Explained → Option ℕ
explained_number x = number_told (explained_meant x)

-- ---- a payload session

outcome-number : (o : Outcome) (f : Frame) (g : Ground) (at n i : ℕ)
    → explained_number (explained_in o f g at) ≡ answer_number (payload_meant.answer_meant (payload.answer_of o n i))
unfolding number_told explained_meant explained_in told_for telling_meant answer_number payload_meant.answer_meant payload.answer_of
outcome-number outcomes.Read f g at n i = refl
outcome-number outcomes.Stopped f g at n i = refl
outcome-number (outcomes.Ended b) f g at n i = refl
outcome-number (outcomes.Refused r) f g at n i = refl

-- bytes that are read
live-number : (s : payload_session.Session) (l bs : List ℕ) (from a : ℕ)
    → explained_number (part_explained (dry_from true s.ground bs 0 a s.frame s.palette) s.ground from)
    ≡ answer_number (payload_meant.answer_meant (payload.fed_live s l bs a).0.answer)
unfolding part_explained payload.fed_live payload.answered_by payload.answered_in led_as
live-number s l bs from a =
    let t : Reached = feed_from s.ground a bs 0 0 s.frame s.palette l in
    ap (λ (x : dry_led.Led). explained_number (explained_in x.outcome x.frame s.ground (from + x.consumed)))
    (ap (λ (k : ℕ). dry_from true s.ground bs 0 k s.frame s.palette) (sym (sub-zero a))
    ∙ sym (feed-dry s.ground a bs 0 0 s.frame s.palette l))
    ∙ outcome-number t.progress.outcome t.progress.frame s.ground (from + t.progress.consumed) t.progress.consumed t.progress.ink

passed-number : (x : Life) (s : payload_session.Session) (l bs : List ℕ) (from a : ℕ)
    → explained_number (fed_explained_in x s bs from a) ≡ answer_number (payload_meant.answer_meant (payload.fed_in x s l bs a).0.answer)
unfolding fed_explained_in payload.fed_in number_told explained_meant answer_number payload_meant.answer_meant
passed-number lives.Live s l bs from a = live-number s l bs from a
passed-number (lives.Ended b) s l bs from a = refl
passed-number lives.Failed s l bs from a = live-number s l bs from a

fed-number : (s : payload_session.Session) (l bs : List ℕ) (from a : ℕ)
    → explained_number (fed_explained s (length l) bs from a) ≡ answer_number (payload_meant.answer_meant (payload.fed_by s l bs a).0.answer)
unfolding fed_explained payload.fed_by payload.fed_as unless_judged placeless_for number_told explained_meant telling_meant answer_number payload_meant.answer_meant
fed-number s l bs from a = go (feed_judged s (length l) a)
  where
    go : (v : Verdict)
        → explained_number (unless_judged v (fed_explained_in s.life s bs from a)) ≡ answer_number (payload_meant.answer_meant (payload.fed_as v s l bs a).0.answer)
    go (Ok tt) = passed-number s.life s l bs from a
    go (Err r) = refl

-- A feed's telling has the feed's number.
pub payload-feed-same : (s : payload_session.Session) (l bs : List ℕ) (a : ℕ)
    → explained_number (payload_feed_explained s (length l) bs a) ≡ answer_number (payload_meant.answer_meant (payload.fed_by s l bs a).0.answer)
unfolding payload_feed_explained
payload-feed-same s l bs a = fed-number s l bs 0 a

-- ---- its finish

-- what a finish makes of the pending command's end
finish-as : (o : Outcome) (f : Frame) (g : Ground) (at : ℕ) (s : payload_session.Session) (owner q : Palette) (last : Frame) (after : Palette) (l : List ℕ)
    → explained_number (explained_in o f g at) ≡ finish_number (payload_meant.finish_meant (payload.finished_in o s owner last after l).0.answer q)
unfolding number_told explained_meant explained_in told_for telling_meant finish_number payload_meant.finish_meant payload.finished_in payload.turned_away payload.pictured
finish-as outcomes.Read f g at s owner q last after l = refl
finish-as outcomes.Stopped f g at s owner q last after l = refl
finish-as (outcomes.Ended b) f g at s owner q last after l = refl
finish-as (outcomes.Refused r) f g at s owner q last after l = refl

-- a byte that ends the payload ends the pending command, and is refused where that is
module _ (g : Ground) (at : ℕ) where
  told_in : Outcome → Frame → Option ℕ
  told_in o f = explained_number (explained_in o f g at)

  told : Ended → Option ℕ
  told x = told_in x.progress.outcome x.progress.frame

  then_same : (x : Ended) → told (then_dry x.progress.outcome x g 0x1B 0) ≡ told x
  unfolding told told_in then_dry data_dry sixel ends unread_as number_told explained_meant explained_in
  then_same x = go x.progress.outcome refl
    where
      go : (o : Outcome) → x.progress.outcome ≡ o → told (then_dry o x g 0x1B 0) ≡ told x
      go outcomes.Read e = by-test (eqb x.progress.consumed 0) (λ t. rw t (ap (λ (o : Outcome). told_in o x.progress.frame) (sym e))) (λ t. rw t)
      go outcomes.Stopped e = refl
      go (outcomes.Ended b) e = refl
      go (outcomes.Refused r) e = refl

  step_same : (f : Frame) (p : Palette) (k : Kind) → f.command.kind ≡ k → told (step_dry_in k f g 0x1B 0 p) ≡ told (ended f g p)
  unfolding told told_in step_dry_in argument_dry digit skipped ended ended_in data_dry sixel ends unread_as settled_as number_told explained_meant explained_in
  step_same f p kinds.Data e = ap (λ (k : Kind). told (ended_in k f g p)) (sym e)
  step_same f p kinds.Repeat e = refl
  step_same f p kinds.Color e = refl
  step_same f p kinds.Raster e = refl

  pub pending-number : (s : payload_session.Session) (owner q : Palette) (l : List ℕ) → s.ground ≡ g
      → explained_number (pending_explained s.frame g s.palette at) ≡ finish_number (payload_meant.finish_meant (payload.finished_live s owner l).0.answer q)
  unfolding byte_dry step_dry told told_in payload.finished_live
  pending-number s owner q l is =
      let e : Ended = ended s.frame g s.palette in
      ap explained_number (pending-dry s.frame g s.palette at)
      ∙ then_same (step_dry s.frame g 0x1B 0 s.palette)
      ∙ step_same s.frame s.palette s.frame.command.kind refl
      ∙ finish-as e.progress.outcome e.progress.frame g at s owner q e.progress.frame e.palette l
      ∙ ap
      (λ (h : Ground).
      let e : Ended = ended s.frame h s.palette in
      finish_number (payload_meant.finish_meant (payload.finished_in e.progress.outcome s owner e.progress.frame e.palette l).0.answer q))
      (sym is)

-- A finish's telling has the finish's number.
pub payload-finish-same : (s : payload_session.Session) (owner q : Palette) (l : List ℕ)
    → explained_number (payload_finish_explained s (length l)) ≡ finish_number (payload_meant.finish_meant (payload.finished_by s owner l).0.answer q)
unfolding payload_finish_explained payload.finished_by payload.finished_as unless_judged placeless_for number_told explained_meant telling_meant finish_number payload_meant.finish_meant
    payload.turned_away
payload-finish-same s owner q l = go (finish_judged s (length l))
  where
    go : (v : Verdict) → explained_number (unless_judged v (pending_explained s.frame s.ground s.palette 0))
        ≡ finish_number (payload_meant.finish_meant (payload.finished_as v s owner l).0.answer q)
    go (Ok tt) = pending-number s.ground 0 s owner q l refl
    go (Err r) = refl

-- ---- a DCS session

-- the end of a payload refuses nothing
over-number : (s : dcs_session.Session) (n i : ℕ) (e : Ending) → none ≡ answer_number (dcs_meant.answer_meant (dcs.over_as s n i e).answer)
unfolding dcs.over_as dcs_meant.answer_meant answer_number
over-number s n i e = refl

escaped-number : (s : dcs_session.Session) (bs : List ℕ) (n i : ℕ) → none ≡ answer_number (dcs_meant.answer_meant (dcs.escaped_by s bs n i).answer)
unfolding dcs.escaped_by dcs.over_as dcs_meant.answer_meant answer_number
escaped-number s [] n i = refl
escaped-number s (b ∷ bs) n i = by-test (eqb b 0x5C) (λ t. rw t) (λ t. rw t)

closed-number : (s : dcs_session.Session) (bs : List ℕ) (n i : ℕ) → none ≡ answer_number (dcs_meant.answer_meant (dcs.closed_by s bs n i).answer)
unfolding dcs.closed_by dcs.over_as dcs_meant.answer_meant answer_number
closed-number s [] n i = refl
closed-number s (b ∷ bs) n i =
    by-test (eqb b 0x1B) (λ t. rw t (escaped-number s bs (n + 1) i))
    (λ t. by-test (eqb b 0x9C) (λ u. rw (t, u)) (λ u. by-test (eqb b 0x18 || eqb b 0x1A) (λ v. rw (t, u, v)) (λ v. rw (t, u, v))))

-- the payload's answer, passed on
passed-on-number : (x : payload_answer.Answer) (s : dcs_session.Session) (bs : List ℕ) (n : ℕ)
    → answer_number (payload_meant.answer_meant x) ≡ answer_number (dcs_meant.answer_meant (dcs.passed_on x s bs n).answer)
unfolding dcs.passed_on payload_meant.answer_meant dcs_meant.answer_meant answer_number
passed-on-number (Ok (payload_answers.More c i)) s bs n = refl
passed-on-number (Ok (payload_answers.Stopped c i)) s bs n = refl
passed-on-number (Ok (payload_answers.Ended c i b)) s bs n = closed-number s (drop c bs) (n + c) i
passed-on-number (Err r) s bs n = refl

-- where introducer and header led to
begun-long : (s : payload_session.Session) (o : Settings) (l : List ℕ) → length (begun_by s o l).1 ≡ length l
unfolding begun_by
begun-long s o l = by-test (leb 4 (length l)) (λ t. rw t (length-painted (span 0 1) (payload.background_for s.palette o.p2) l)) (λ t. rw t)

led-number : (w : Led) (x : Lead) (s : dcs_session.Session) (l bs : List ℕ) (a : ℕ)
    → explained_number (led_explained w x s.payload (length l) bs a) ≡ answer_number (dcs_meant.answer_meant (dcs.led_to w x s l bs a).0.answer)
unfolding led_explained dcs.led_to dcs.fed_payload begun_by told_for number_told explained_meant telling_meant answer_number dcs_meant.answer_meant
led-number (Ok leds.On) x s l bs a = refl
led-number (Ok leds.Begins) x s l bs a =
    let o : Settings = settings_from x.header in
    let us : List ℕ = drop x.consumed bs in
    ap (λ (k : ℕ). explained_number (fed_explained (begun_session s.payload o) k us x.consumed a)) (sym (begun-long s.payload o l))
    ∙ fed-number (begun_session s.payload o) (begun_by s.payload o l).1 us x.consumed a
    ∙ passed-on-number (payload.fed_by (begun_session s.payload o) (begun_by s.payload o l).1 us a).0.answer _ us x.consumed
led-number (Err r) x s l bs a = refl

phase-number : (t : Phase) (s : dcs_session.Session) (l bs : List ℕ) (a : ℕ) → feed_judged s.payload (length l) a ≡ Ok tt
    → explained_number (dcs_feed_in t s (length l) bs a) ≡ answer_number (dcs_meant.answer_meant (dcs.fed_in t s l bs a).0.answer)
unfolding dcs_feed_in lead_explained dcs.fed_in dcs.fed_lead dcs.fed_payload payload.fed_by number_told explained_meant
phase-number (phases.Before t) s l bs a fine =
    let x : Lead = lead_from bs 0 t s.header in
    led-number x.led x s l bs a
phase-number phases.Within s l bs a fine =
    passed-number s.payload.life s.payload l bs 0 a
    ∙ ap (λ (v : Verdict). answer_number (payload_meant.answer_meant (payload.fed_as v s.payload l bs a).0.answer)) (sym fine)
    ∙ passed-on-number (payload.fed_by s.payload l bs a).0.answer _ bs 0
phase-number phases.Escaped s l bs a fine = escaped-number s bs 0 0
phase-number (phases.Over e) s l bs a fine = over-number s 0 0 e

-- A feed's telling has the feed's number.
pub dcs-feed-same : (s : dcs_session.Session) (l bs : List ℕ) (a : ℕ)
    → explained_number (dcs_feed_explained s (length l) bs a) ≡ answer_number (dcs_meant.answer_meant (dcs.fed_by s l bs a).0.answer)
unfolding dcs_feed_explained dcs.fed_by dcs.fed_as unless_judged placeless_for number_told explained_meant telling_meant answer_number dcs_meant.answer_meant
dcs-feed-same s l bs a = go (feed_judged s.payload (length l) a) refl
  where
    go : (v : Verdict) → feed_judged s.payload (length l) a ≡ v
        → explained_number (unless_judged v (dcs_feed_in s.phase s (length l) bs a)) ≡ answer_number (dcs_meant.answer_meant (dcs.fed_as v s l bs a).0.answer)
    go (Ok tt) e = phase-number s.phase s l bs a e
    go (Err r) e = refl

ending-number : (t : Phase) (s : dcs_session.Session) (owner q : Palette) (l : List ℕ) → finish_judged s.payload (length l) ≡ Ok tt
    → explained_number (dcs_finish_in t s.payload) ≡ finish_number (payload_meant.finish_meant (dcs.finished_in t s owner l).0.answer q)
unfolding dcs_finish_in dcs.finished_in told_for number_told explained_meant telling_meant finish_number payload_meant.finish_meant payload.turned_away payload.finished_by
    payload.finished_as
ending-number (phases.Before t) s owner q l fine = refl
ending-number phases.Within s owner q l fine = refl
ending-number phases.Escaped s owner q l fine = refl
ending-number (phases.Over e) s owner q l fine =
    pending-number s.payload.ground 0 s.payload owner q l refl
    ∙ ap (λ (v : Verdict). finish_number (payload_meant.finish_meant (payload.finished_as v s.payload owner l).0.answer q)) (sym fine)

-- A finish's telling has the finish's number.
pub dcs-finish-same : (s : dcs_session.Session) (owner q : Palette) (l : List ℕ)
    → explained_number (dcs_finish_explained s (length l)) ≡ finish_number (payload_meant.finish_meant (dcs.finished_by s owner l).0.answer q)
unfolding dcs_finish_explained dcs.finished_by dcs.finished_as unless_judged placeless_for number_told explained_meant telling_meant finish_number payload_meant.finish_meant
    payload.turned_away
dcs-finish-same s owner q l = go (finish_judged s.payload (length l)) refl
  where
    go : (v : Verdict) → finish_judged s.payload (length l) ≡ v
        → explained_number (unless_judged v (dcs_finish_in s.phase s.payload))
        ≡ finish_number (payload_meant.finish_meant (dcs.finished_as v s owner l).0.answer q)
    go (Ok tt) e = ending-number s.phase s owner q l e
    go (Err r) e = refl
