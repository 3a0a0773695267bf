-- Laws of what is told of a call: one for each path through a function, with what its callees return as variables.
use Rattle.std.specs.Prelude.{◌≡◌, ℕ, suc, ◌+◌, ◌-◌, ◌≤◌, Bool, true, false, leb, List, [], ◌∷◌, length, take, drop, Ok, Err, Some, None}
use mathlib.Core.Path.{refl, sym, ap, ap₂, ◌∙◌}
use native.Mathlib.Omega.{arith}
use denote.Enum.Declared.{tag_of}
use lib.ListN.{length-drop, drop_of_length-le}
use borrow.Author.Tests.{leb-true, leb-false}
use types.Run.{OneOf, miss}
use Rattle.numbers.specs.declared.Parameters.{Parameters}
use Rattle.numbers.specs.Step as numbers
use Rattle.numbers.proofs.Laws.{cond_yes, cond_no}
use Rattle.colours.specs.declared.Palette.{Palette}
use Rattle.colours.specs.Marks.{lasting}
use Rattle.canvas.proofs.Covers.{by-test}
use Rattle.frame.specs.declared.Frame.{Frame}
use Rattle.frame.specs.declared.Ground.{Ground}
use Rattle.frame.specs.declared.Limits.{Limits}
use Rattle.frame.specs.declared.Outcome.{Outcome}
use Rattle.frame.specs.declared.Outcome.TheVariants as outcomes
use Rattle.frame.specs.declared.Refusal.{Refusal}
use Rattle.frame.specs.declared.Refusal.TheVariants as refusals
use Rattle.frame.specs.Commands.{Ended}
use Rattle.frame.specs.contracts.Outcome as OutcomeType
use Rattle.payload.specs.declared.Life.{Life}
use Rattle.payload.specs.declared.Life.TheVariants as lives
use Rattle.payload.specs.Results as whole
use Rattle.payload.specs.declared.Session as payload_session
use Rattle.payload.specs.declared.Settings.{Settings}
use Rattle.payload.specs.declared.kernel.Setup.{Setup}
use Rattle.payload.specs.declared.kernel.opening.Opened.{Opened}
use Rattle.payload.specs.Results.{Verdict}
use Rattle.payload.specs.Core.{over, opened_over, begun_over}
use Rattle.payload.specs.Deferred.{no_settings, reserved_by, begun_session, begun_by}
use Rattle.payload.specs.Refusals.{openable, feed_judged, finish_judged}
use Rattle.payload.specs.Session.{blank_frame}
use Rattle.payload.specs.contracts.Life as LifeType
use Rattle.header.specs.declared.Lead.{Lead}
use Rattle.header.specs.Results as header
use Rattle.header.specs.declared.Led.TheVariants as leds
use Rattle.header.specs.declared.Place.{Place}
use Rattle.header.specs.declared.Place.TheVariants as lead_places
use Rattle.header.specs.Lead.{lead_from}
use Rattle.header.specs.Settings.{settings_from}
use Rattle.header.proofs.Bounds.{lead-bound}
use Rattle.dcs.specs.declared.Phase.{Phase}
use Rattle.dcs.specs.declared.Phase.TheVariants as phases
use Rattle.dcs.specs.declared.Session as dcs_session
use Rattle.dcs.specs.Session.{session_of}
use Rattle.dcs.proofs.SessionLaws.{part-drop}
use Rattle.dcs.specs.contracts.Phase as PhaseType
use Rattle.oneshot.specs.Search.{Start, start_from}
use Rattle.explain.specs.Explained.{Explained}
use Rattle.explain.specs.declared.dry.Led.{Led}
use Rattle.explain.specs.Dry.{byte_dry, cost_of, led_as, go_on_dry, dry_from}
use Rattle.explain.specs.Need.{Need, largest, need_of}
use Rattle.explain.specs.Explained.{placeless_for, told_for, explained_in, part_explained, pending_explained, unless_judged, fed_explained_in, fed_explained}
use Rattle.explain.specs.Explained.{payload_feed_explained, payload_finish_explained, led_explained, lead_explained, dcs_feed_in, dcs_feed_explained}
use Rattle.explain.specs.Explained.{dcs_finish_in, dcs_finish_explained, whole_in, whole_explained, started_explained, headed_in, headed_from, found_explained}
use Rattle.explain.specs.Explained.{input_explained, read_explained_on, read_explained}

-- ---- what is told

pub placeless-as : (r : Refusal) → Err (record { refusal = r; place = None; need = None }) ≡ placeless_for r
unfolding placeless_for
placeless-as r = refl

pub told-as : (at : ℕ) (r : Refusal) (need : Need) → Err (record { refusal = r; place = Some at; need = need }) ≡ told_for at r need
unfolding told_for
told-as at r need = refl

pub outcome-refused : {o : Outcome} {r : Refusal} {n : Need} {x : Explained} (f : Frame) (g : Ground) (at : ℕ) → o ≡ outcomes.Refused r
    → n ≡ need_of f g → x ≡ told_for at r n → x ≡ explained_in o f g at
unfolding explained_in
outcome-refused {r = r} f g at o n e = e ∙ ap (told_for at r) n ∙ ap (λ (y : Outcome). explained_in y f g at) (sym o)

pub outcome-fine : (o : Outcome) (f : Frame) (g : Ground) (at : ℕ) → OneOf (0 ∷ 1 ∷ 2 ∷ []) (tag_of OutcomeType.the_type o) → Ok tt ≡ explained_in o f g at
unfolding explained_in
outcome-fine outcomes.Read f g at h = refl
outcome-fine outcomes.Stopped f g at h = refl
outcome-fine (outcomes.Ended b) f g at h = refl
outcome-fine (outcomes.Refused r) f g at h = absurd (miss (0 ∷ 1 ∷ 2 ∷ []) 3 tt h)

-- no more bytes are counted than there are
on-bound : (o : Outcome) (t : Ended) (n m : ℕ) (later : Frame → Palette → ℕ → Led)
    → ((f : Frame) (p : Palette) (i : ℕ) → (later f p i).consumed ≤ n + 1 + m) → (go_on_dry o t n later).consumed ≤ n + suc m
unfolding go_on_dry led_as
on-bound outcomes.Read t n m later k = omega (arith, k t.progress.frame t.palette t.progress.ink)
on-bound outcomes.Stopped t n m later k = omega arith
on-bound (outcomes.Ended b) t n m later k = omega arith
on-bound (outcomes.Refused r) t n m later k = omega arith

pub dry-bound : (m : Bool) (g : Ground) (bs : List ℕ) (n left : ℕ) (f : Frame) (p : Palette) → (dry_from m g bs n left f p).consumed ≤ n + length bs
unfolding dry_from led_as
dry-bound m g [] n left f p = omega arith
dry-bound m g (b ∷ bs) n left f p =
    let t : Ended = byte_dry f g b left p in
    on-bound t.progress.outcome t n (length bs) _ (λ f' p' i. dry-bound m g bs (n + 1) (left - cost_of m i) f' p')

-- a part of the bytes, read
module _ (m : Bool) (g : Ground) (bytes : List ℕ) (from left : ℕ) (f : Frame) (p : Palette) {l : Led}
    (read : l ≡ dry_from m g (take (length bytes - from) (drop from bytes)) 0 left f p) where
  part-read : l ≡ dry_from m g (drop from bytes) 0 left f p
  part-read = read ∙ ap (λ (bs : List ℕ). dry_from m g bs 0 left f p) (part-drop bytes from)

  pub part-within : from ≤ length bytes → from + l.consumed ≤ length bytes
  part-within h =
      omega (arith, dry-bound m g (drop from bytes) 0 left f p, ap (λ (x : Led). x.consumed) part-read, length-drop from bytes)

  pub part-told : {x : Explained} → x ≡ explained_in l.outcome l.frame g (from + l.consumed)
      → x ≡ part_explained (dry_from m g (drop from bytes) 0 left f p) g from
  unfolding part_explained
  part-told e = e ∙ ap (λ (y : Led). explained_in y.outcome y.frame g (from + y.consumed)) part-read

  -- of all of a payload
  pub whole-read : {x : Explained} → m ≡ false → left ≡ largest → l.outcome ≡ outcomes.Read → x ≡ pending_explained l.frame g p (length bytes)
      → x ≡ whole_explained f g p (drop from bytes) from (length bytes)
  unfolding whole_explained whole_in
  whole-read unmetered most o e =
      e ∙ ap (λ (y : Outcome). whole_in y l g p from (length bytes)) (sym o) ∙ ap (λ (y : Led). whole_in y.outcome y g p from (length bytes)) full
    where
      full : l ≡ dry_from false g (drop from bytes) 0 largest f p
      full = part-read ∙ ap₂ (λ (x : Bool) (k : ℕ). dry_from x g (drop from bytes) 0 k f p) unmetered most

  other : (o : Outcome) → OneOf (1 ∷ 2 ∷ 3 ∷ []) (tag_of OutcomeType.the_type o) → part_explained l g from ≡ whole_in o l g p from (length bytes)
  unfolding whole_in
  other outcomes.Read h = absurd (miss (1 ∷ 2 ∷ 3 ∷ []) 0 tt h)
  other outcomes.Stopped h = refl
  other (outcomes.Ended b) h = refl
  other (outcomes.Refused r) h = refl

  pub whole-left : {x : Explained} → m ≡ false → left ≡ largest → OneOf (1 ∷ 2 ∷ 3 ∷ []) (tag_of OutcomeType.the_type l.outcome)
      → x ≡ explained_in l.outcome l.frame g (from + l.consumed) → x ≡ whole_explained f g p (drop from bytes) from (length bytes)
  unfolding whole_explained part_explained
  whole-left unmetered most h e =
      e ∙ other l.outcome h ∙ ap (λ (y : Led). whole_in y.outcome y g p from (length bytes)) full
    where
      full : l ≡ dry_from false g (drop from bytes) 0 largest f p
      full = part-read ∙ ap₂ (λ (x : Bool) (k : ℕ). dry_from x g (drop from bytes) 0 k f p) unmetered most

pub pending-told : {l : Led} {x : Explained} (f : Frame) (g : Ground) (p : Palette) (at : ℕ) → l ≡ dry_from true g (0x1B ∷ []) 0 0 f p
    → x ≡ explained_in l.outcome l.frame g at → x ≡ pending_explained f g p at
unfolding pending_explained
pending-told f g p at k e = e ∙ ap (λ (y : Led). explained_in y.outcome y.frame g at) k

-- ---- a payload session

judged : {v : Verdict} {r : Refusal} {x : Explained} (w : Verdict) (later : Explained) → v ≡ w → v ≡ Err r → x ≡ placeless_for r
    → x ≡ unless_judged w later
unfolding unless_judged
judged w later j k e = e ∙ ap (λ (y : Verdict). unless_judged y later) (sym k ∙ j)

unjudged : {v : Verdict} {x : Explained} (w : Verdict) (later : Explained) → v ≡ w → v ≡ Ok tt → x ≡ later → x ≡ unless_judged w later
unfolding unless_judged
unjudged w later j k e = e ∙ ap (λ (y : Verdict). unless_judged y later) (sym k ∙ j)

module _ (s : payload_session.Session) (bs : List ℕ) (from a : ℕ) where
  pub passed-ended : {life : Life} {b : ℕ} → life ≡ lives.Ended b → Ok tt ≡ fed_explained_in life s bs from a
  unfolding fed_explained_in
  passed-ended e = ap (λ (y : Life). fed_explained_in y s bs from a) (sym e)

  live-passed : (life : Life) → OneOf (0 ∷ 2 ∷ []) (tag_of LifeType.the_type life)
      → part_explained (dry_from true s.ground bs 0 a s.frame s.palette) s.ground from ≡ fed_explained_in life s bs from a
  unfolding fed_explained_in
  live-passed lives.Live h = refl
  live-passed (lives.Ended b) h = absurd (miss (0 ∷ 2 ∷ []) 1 tt h)
  live-passed lives.Failed h = refl

  pub passed-live : {x : Explained} (life : Life) → OneOf (0 ∷ 2 ∷ []) (tag_of LifeType.the_type life)
      → x ≡ part_explained (dry_from true s.ground bs 0 a s.frame s.palette) s.ground from → x ≡ fed_explained_in life s bs from a
  passed-live life h e = e ∙ live-passed life h

module _ (s : payload_session.Session) (size : ℕ) (bs : List ℕ) (from a : ℕ) {v : Verdict} (verdict : v ≡ feed_judged s size a) where
  pub fed-refused : {r : Refusal} {x : Explained} → v ≡ Err r → x ≡ placeless_for r → x ≡ fed_explained s size bs from a
  unfolding fed_explained
  fed-refused k e = judged (feed_judged s size a) (fed_explained_in s.life s bs from a) verdict k e

  pub fed-passed : {x : Explained} → v ≡ Ok tt → x ≡ fed_explained_in s.life s bs from a → x ≡ fed_explained s size bs from a
  unfolding fed_explained
  fed-passed k e = unjudged (feed_judged s size a) (fed_explained_in s.life s bs from a) verdict k e

pub fed-all : {x : Explained} (s : payload_session.Session) (size : ℕ) (bs : List ℕ) (a : ℕ) → x ≡ fed_explained s size (drop 0 bs) 0 a
    → x ≡ payload_feed_explained s size bs a
unfolding payload_feed_explained
fed-all s size bs a e = e

module _ (s : payload_session.Session) (size : ℕ) {v : Verdict} (verdict : v ≡ finish_judged s size) where
  pub finish-refused : {r : Refusal} {x : Explained} → v ≡ Err r → x ≡ placeless_for r → x ≡ payload_finish_explained s size
  unfolding payload_finish_explained
  finish-refused k e = judged (finish_judged s size) (pending_explained s.frame s.ground s.palette 0) verdict k e

  pub finish-passed : {x : Explained} → v ≡ Ok tt → x ≡ pending_explained s.frame s.ground s.palette 0
      → x ≡ payload_finish_explained s size
  unfolding payload_finish_explained
  finish-passed k e = unjudged (finish_judged s size) (pending_explained s.frame s.ground s.palette 0) verdict k e

-- ---- a DCS session

-- the session at `q`
pub begun-as : {v : Setup} {after : List ℕ} (u : Setup) (life : Life) (f : Frame) (o : Settings) (p : Palette) (canvas : List ℕ)
    → begun_over v life p after ≡ begun_by (over u life f p) o canvas → over v life (blank_frame p) p ≡ begun_session (over u life f p) o
unfolding begun_by
begun-as u life f o p canvas e = ap (λ (x : payload_session.Session × List ℕ). x.0) e

pub begun-told : {v : Setup} {b : Frame} {after : List ℕ} {x : Explained} (u : Setup) (life : Life) (f : Frame) (o : Settings) (p : Palette)
    (canvas : List ℕ) (size : ℕ) (bs : List ℕ) (from a : ℕ) → begun_over v life p after ≡ begun_by (over u life f p) o canvas → b ≡ blank_frame p
    → x ≡ fed_explained (over v life b p) size bs from a → x ≡ fed_explained (begun_session (over u life f p) o) size bs from a
begun-told {v} u life f o p canvas size bs from a e k q =
    q
    ∙ ap (λ (y : Frame). fed_explained (over v life y p) size bs from a) k
    ∙ ap (λ (y : payload_session.Session). fed_explained y size bs from a) (begun-as u life f o p canvas e)

module _ (t : Place) (s : payload_session.Session) (h : Parameters) (size : ℕ) (bs : List ℕ) (a : ℕ) {l : Lead}
    (lead : l ≡ lead_from (drop 0 bs) 0 t h) where
  led-known : {x : header.Led} → l.led ≡ x
      → led_explained x l s size bs a ≡ lead_explained t (session_of s h (phases.Before t)) size bs a
  unfolding lead_explained
  led-known e =
      ap (λ (y : header.Led). led_explained y l s size bs a) (sym e)
      ∙ ap (λ (y : Lead). led_explained y.led y s size bs a) lead

  pub lead-on : l.led ≡ Ok leds.On → Ok tt ≡ lead_explained t (session_of s h (phases.Before t)) size bs a
  unfolding led_explained
  lead-on e = led-known e

  pub lead-begins : {o : Settings} {x : Explained} → l.led ≡ Ok leds.Begins → o ≡ settings_from l.header
      → x ≡ fed_explained (begun_session s o) size (drop l.consumed bs) l.consumed a
      → x ≡ lead_explained t (session_of s h (phases.Before t)) size bs a
  unfolding led_explained
  lead-begins e o k =
      k ∙ ap (λ (y : Settings). fed_explained (begun_session s y) size (drop l.consumed bs) l.consumed a) o ∙ led-known e

  pub lead-refused : {r : Refusal} {x : Explained} → l.led ≡ Err r → x ≡ told_for l.consumed r None
      → x ≡ lead_explained t (session_of s h (phases.Before t)) size bs a
  unfolding led_explained
  lead-refused e k = k ∙ led-known e

module _ (s : dcs_session.Session) (size : ℕ) (bs : List ℕ) (a : ℕ) {v : Verdict} (verdict : v ≡ feed_judged s.payload size a) where
  pub dcs-refused : {r : Refusal} {x : Explained} → v ≡ Err r → x ≡ placeless_for r → x ≡ dcs_feed_explained s size bs a
  unfolding dcs_feed_explained
  dcs-refused k e = judged (feed_judged s.payload size a) (dcs_feed_in s.phase s size bs a) verdict k e

  module _ (fine : v ≡ Ok tt) where
    dcs-passed : {t : Phase} {x : Explained} → s.phase ≡ t → x ≡ dcs_feed_in t s size bs a → x ≡ dcs_feed_explained s size bs a
    unfolding dcs_feed_explained
    dcs-passed k e =
        unjudged (feed_judged s.payload size a) (dcs_feed_in s.phase s size bs a) verdict fine
        (e ∙ ap (λ (y : Phase). dcs_feed_in y s size bs a) (sym k))

    pub dcs-before : {t : Place} {x : Explained} → s.phase ≡ phases.Before t
        → x ≡ lead_explained t (session_of s.payload s.header (phases.Before t)) size bs a → x ≡ dcs_feed_explained s size bs a
    unfolding dcs_feed_in
    dcs-before {t} k e =
        dcs-passed k (e ∙ ap (λ (y : Phase). lead_explained t (session_of s.payload s.header y) size bs a) (sym k))

    pub dcs-within : {x : Explained} → s.phase ≡ phases.Within → x ≡ fed_explained_in s.payload.life s.payload (drop 0 bs) 0 a
        → x ≡ dcs_feed_explained s size bs a
    unfolding dcs_feed_in
    dcs-within k e = dcs-passed k e

    pub dcs-escaped : s.phase ≡ phases.Escaped → Ok tt ≡ dcs_feed_explained s size bs a
    unfolding dcs_feed_in
    dcs-escaped k = dcs-passed k refl

    pub dcs-over : OneOf (3 ∷ []) (tag_of PhaseType.the_type s.phase) → Ok tt ≡ dcs_feed_explained s size bs a
    unfolding dcs_feed_in
    dcs-over h = go s.phase refl h
      where
        go : (t : Phase) → s.phase ≡ t → OneOf (3 ∷ []) (tag_of PhaseType.the_type t) → Ok tt ≡ dcs_feed_explained s size bs a
        go (phases.Before p) k h = absurd (miss (3 ∷ []) 0 tt h)
        go phases.Within k h = absurd (miss (3 ∷ []) 1 tt h)
        go phases.Escaped k h = absurd (miss (3 ∷ []) 2 tt h)
        go (phases.Over e) k h = dcs-passed k refl

module _ (s : dcs_session.Session) (size : ℕ) {v : Verdict} (verdict : v ≡ finish_judged s.payload size) where
  pub ending-refused : {r : Refusal} {x : Explained} → v ≡ Err r → x ≡ placeless_for r → x ≡ dcs_finish_explained s size
  unfolding dcs_finish_explained
  ending-refused k e = judged (finish_judged s.payload size) (dcs_finish_in s.phase s.payload) verdict k e

  module _ (fine : v ≡ Ok tt) where
    ending-in : {x : Explained} → x ≡ dcs_finish_in s.phase s.payload → x ≡ dcs_finish_explained s size
    unfolding dcs_finish_explained
    ending-in e = unjudged (finish_judged s.payload size) (dcs_finish_in s.phase s.payload) verdict fine e

    over-in : (t : Phase) → OneOf (3 ∷ []) (tag_of PhaseType.the_type t)
        → pending_explained s.payload.frame s.payload.ground s.payload.palette 0 ≡ dcs_finish_in t s.payload
    unfolding dcs_finish_in
    over-in (phases.Before p) h = absurd (miss (3 ∷ []) 0 tt h)
    over-in phases.Within h = absurd (miss (3 ∷ []) 1 tt h)
    over-in phases.Escaped h = absurd (miss (3 ∷ []) 2 tt h)
    over-in (phases.Over e) h = refl

    early-in : (t : Phase) → OneOf (0 ∷ 1 ∷ 2 ∷ []) (tag_of PhaseType.the_type t) → told_for 0 refusals.Unfinished None ≡ dcs_finish_in t s.payload
    unfolding dcs_finish_in
    early-in (phases.Before p) h = refl
    early-in phases.Within h = refl
    early-in phases.Escaped h = refl
    early-in (phases.Over e) h = absurd (miss (0 ∷ 1 ∷ 2 ∷ []) 3 tt h)

    pub ending-over : {x : Explained} → OneOf (3 ∷ []) (tag_of PhaseType.the_type s.phase)
        → x ≡ pending_explained s.payload.frame s.payload.ground s.payload.palette 0 → x ≡ dcs_finish_explained s size
    ending-over h e = ending-in (e ∙ over-in s.phase h)

    pub ending-early : {x : Explained} → OneOf (0 ∷ 1 ∷ 2 ∷ []) (tag_of PhaseType.the_type s.phase) → x ≡ told_for 0 refusals.Unfinished None
        → x ≡ dcs_finish_explained s size
    ending-early h e = ending-in (e ∙ early-in s.phase h)

-- ---- reading all at once

pub started-told : {v : Setup} {b : Frame} {after : List ℕ} {x : Explained} (u : Setup) (life : Life) (f : Frame) (o : Settings) (p : Palette)
    (canvas bs : List ℕ) (from : ℕ) → begun_over v life p after ≡ begun_by (over u life f p) o canvas → b ≡ blank_frame p
    → x ≡ whole_explained b v.ground p (drop from bs) from (length bs) → x ≡ started_explained (over u life f p) o bs from
unfolding started_explained
started-told {v} u life f o p canvas bs from e k q =
    q
    ∙ ap (λ (y : Frame). whole_explained y v.ground p (drop from bs) from (length bs)) k
    ∙ ap
    (λ (y : payload_session.Session). whole_explained y.frame y.ground y.palette (drop from bs) from (length bs))
    (begun-as u life f o p canvas e)

-- what stands before a payload ends within the bytes
pub headed-within : {l : Lead} (at : ℕ) (bs : List ℕ) (h : Parameters) → l ≡ lead_from (drop at bs) at lead_places.Header h → l.led ≡ Ok leds.Begins
    → l.consumed ≤ length bs
unfolding lead_from
headed-within {l} at bs h lead e =
    by-test (leb at (length bs))
    (λ t. omega
    (arith, leb-true at (length bs) t, lead-bound (drop at bs) at lead_places.Header h, ap (λ (x : Lead). x.consumed) lead, length-drop at bs))
    (λ t. absurd (never (ap (λ (x : Lead). x.led) lead ∙ ap (λ (ys : List ℕ). (lead_from ys at lead_places.Header h).led) (past t))))
  where
    past : leb at (length bs) ≡ false → drop at bs ≡ []
    past t =
        let h : length bs ≤ at = omega (arith, leb-false at (length bs) t) in
        drop_of_length-le bs h

    never : l.led ≡ Ok leds.On → ⊥
    never k = let z : ◌≡◌ {A = ℕ} 0 1 = cc in omega arith

module _ (at : ℕ) (s : payload_session.Session) (bs : List ℕ) {h : Parameters} {l : Lead} (opened : h ≡ numbers.opened 3)
    (lead : l ≡ lead_from (drop at bs) at lead_places.Header h) where
  headed-known : {x : header.Led} → l.led ≡ x → headed_in x l s bs ≡ headed_from at s bs
  unfolding headed_from
  headed-known e =
      ap (λ (y : header.Led). headed_in y l s bs) (sym e)
      ∙ ap (λ (y : Lead). headed_in y.led y s bs) (lead ∙ ap (lead_from (drop at bs) at lead_places.Header) opened)

  pub headed-on : {x : Explained} → l.led ≡ Ok leds.On → x ≡ told_for l.consumed refusals.Unfinished None → x ≡ headed_from at s bs
  unfolding headed_in
  headed-on e k = k ∙ headed-known e

  pub headed-begins : {o : Settings} {x : Explained} → l.led ≡ Ok leds.Begins → o ≡ settings_from l.header → x ≡ started_explained s o bs l.consumed
      → x ≡ headed_from at s bs
  unfolding headed_in
  headed-begins e o k = k ∙ ap (λ (y : Settings). started_explained s y bs l.consumed) o ∙ headed-known e

  pub headed-refused : {r : Refusal} {x : Explained} → l.led ≡ Err r → x ≡ told_for l.consumed r None → x ≡ headed_from at s bs
  unfolding headed_in
  headed-refused e k = k ∙ headed-known e

module _ (s : payload_session.Session) (bs : List ℕ) {t : Start} (found : t ≡ start_from 0 bs) where
  found-known : {y : Start} → t ≡ y → found_explained y s bs ≡ input_explained s bs
  unfolding input_explained
  found-known e = ap (λ (y : Start). found_explained y s bs) (sym e ∙ found)

  pub input-headed : {at : ℕ} {x : Explained} → t ≡ Some at → x ≡ headed_from at s bs → x ≡ input_explained s bs
  unfolding found_explained
  input-headed e k = k ∙ found-known e

  pub input-bare : {o : Settings} {x : Explained} → t ≡ None → o ≡ no_settings → x ≡ started_explained s o bs 0 → x ≡ input_explained s bs
  unfolding found_explained
  input-bare e o k = k ∙ ap (λ (y : Settings). started_explained s y bs 0) o ∙ found-known e

module _ (l : Limits) (stride size : ℕ) (p : Palette) (bs : List ℕ) {t : Bool} (may : t ≡ openable l stride size) where
  pub read_opened : {u : Opened} {x : Explained} → t ≡ true → opened_over u p ≡ reserved_by l stride p size
      → x ≡ input_explained (over u.setup u.life u.frame p) bs → x ≡ read_explained_on l stride size p bs
  unfolding read_explained_on reserved_by
  read_opened {u} k e q =
      q
      ∙ ap (λ (y : payload_session.Session). input_explained y bs)
      (ap (λ (y : whole.Opened). y.session) e ∙ ap (λ (y : whole.Opened). y.session) (cond_yes _ _ (sym may ∙ k)))
      ∙ sym (cond_yes _ _ (sym may ∙ k))

  pub read-unopened : {x : Explained} → t ≡ false → x ≡ placeless_for refusals.Opening → x ≡ read_explained_on l stride size p bs
  unfolding read_explained_on
  read-unopened k e = e ∙ sym (cond_no _ _ (sym may ∙ k))

pub read_owned : {q : Palette} {x : Explained} (l : Limits) (stride size : ℕ) (owner : Palette) (bs : List ℕ) → q ≡ lasting owner
    → x ≡ read_explained_on l stride size q bs → x ≡ read_explained l stride size owner bs
unfolding read_explained
read_owned l stride size owner bs e k = k ∙ ap (λ (y : Palette). read_explained_on l stride size y bs) e

pub ruleset telling = (placeless-as, told-as, outcome-refused, outcome-fine, part-told, pending-told)

pub ruleset payloads = (passed-ended, passed-live, fed-refused, fed-passed, fed-all, finish-refused, finish-passed)

pub ruleset sequences =
    (lead-on, lead-begins, lead-refused, dcs-refused, dcs-before, dcs-within, dcs-escaped, dcs-over, ending-refused, ending-over, ending-early)

pub ruleset wholes =
    (whole-read, whole-left, headed-within, headed-on, headed-begins, headed-refused, input-headed, input-bare, read_opened, read-unopened, read_owned)
