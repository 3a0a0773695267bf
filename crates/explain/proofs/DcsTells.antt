-- What is told of a DCS session's feed and finish is what the definition tells.
use Rattle.std.specs.Prelude.{None}
use Rattle.std.specs.Prelude.{◌≡◌, ℕ, ◌*◌, Bool, true, false, cond, eqb, ltb, List, [], ◌∷◌, length, drop, Ok, Err}
use mathlib.Core.Option.{Option, none, some}
use mathlib.Core.Path.{refl, sym, ap, ap₂, ◌∙◌, subst}
use Rattle.numbers.specs.declared.Parameters.{Parameters}
use Rattle.colours.specs.declared.Palette.{Palette}
use Rattle.colours.specs.Marks.{lasting}
use Rattle.frame.specs.declared.Limits.{Limits}
use Rattle.frame.specs.declared.Refusal.TheVariants as refusals
use Rattle.frame.specs.Numbers.{number_of}
use Rattle.meaning.specs.Calls as calls
use Rattle.meaning.specs.Drawing.{Setting}
use Rattle.meaning.specs.Sessions as sessions
use Rattle.meaning.specs.Sessions.{Reading, Phase, header, within, after_escape, over}
use Rattle.meaning.specs.Sessions.{dcs_step, dcs_rested}
use Rattle.meaning.specs.Tellings.{Telling, told_at, placeless, call_telling, feed_telling}
use Rattle.meaning.specs.Tellings.{finish_telling, dcs_shortage, dcs_feed_telling, dcs_end_telling, dcs_finish_telling}
use Rattle.payload.specs.Meant as payload_meant
use Rattle.header.specs.declared.Lead.{Lead}
use Rattle.header.specs.Results.{Led}
use Rattle.header.specs.declared.Place.{Place}
use Rattle.header.specs.Lead.{lead_from}
use Rattle.header.specs.Settings.{settings_from}
use Rattle.canvas.specs.Picture.{Area}
use Rattle.canvas.proofs.Covers.{by-test}
use borrow.Author.Tests.{eqb-true}
use Rattle.dcs.specs.History.{SamePlace, at_start, at_introduced, in_header}
use Rattle.dcs.specs.History.{held_at, Stands, before, refused, inside, escaped, ended}
use Rattle.dcs.specs.Session.{session_of}
use Rattle.dcs.specs.declared.Session.{Session}
use Rattle.dcs.specs.declared.Phase.TheVariants as phases
use Rattle.dcs.specs.Meant.{end_meant}
use Rattle.dcs.proofs.Before.{waiting}
use Rattle.dcs.proofs.Standing.{before-judged, before-ends}
use Rattle.payload.specs.declared.Life.TheVariants as lives
use Rattle.payload.specs.declared.Session as payload_session
use Rattle.payload.specs.declared.Settings.{Settings}
use Rattle.payload.specs.Deferred.{with_background, begun_session}
use Rattle.payload.specs.History as payload
use Rattle.payload.specs.Session as coded
use Rattle.payload.proofs.Judgements.{judged_meant, misfit, feed-judged, finish-judged}
use Rattle.payload.proofs.Openings as openings
use Rattle.payload.specs.Results.{Verdict}
use Rattle.payload.specs.Refusals.{openable, is_failed, misfitting, fitting, feed_judged, finish_judged}
use Rattle.explain.specs.Explained.{placeless_for, told_for, unless_judged, pending_explained, led_explained, lead_explained, fed_explained, fed_explained_in}
use Rattle.explain.specs.Explained.{dcs_feed_in, dcs_feed_explained, dcs_finish_in, dcs_finish_explained}
use Rattle.explain.specs.Meant.{place_meant, need_meant, telling_meant, explained_meant}
use Rattle.explain.proofs.PayloadTells.{call_of, first_of, told_if}
use Rattle.explain.proofs.SessionTells.{judged-told, passed-told, pending-told}
use Rattle.explain.proofs.PhaseTells.{dcs_call, dcs_first, over-refused, escape-refused, within_first, within-refused, LeadTells, waits, turns, begins, lead-tells}

module _ (l : Limits) (stride : ℕ) (p : Palette) (opening : List ℕ) where
  abbrev setting : Setting
  setting = payload_meant.setting_meant l stride (length opening)

  abbrev size : ℕ
  size = length opening

  -- the payload session at `q`
  abbrev begun_with : Settings → payload_session.Session
  begun_with o = coded.session_for l stride size o (lasting p) lives.Live

  -- it is fed what follows
  begun-told : openable l stride size ≡ true → (o : Settings) (a from : ℕ) (us : List ℕ) → feed_judged (waiting l stride p opening) size a ≡ Ok tt
      → explained_meant (fed_explained (begun_session (waiting l stride p opening) o) size us from a)
      ≡ told_if (call_of setting a (sessions.opened (payload_meant.parameters_meant o) p) us).how
      (first_of setting from (sessions.opened (payload_meant.parameters_meant o) p) us)
  unfolding begun_session with_background coded.session_for coded.ground_for coded.blank_frame feed_judged misfitting fitting fed_explained unless_judged
  begun-told opens o a from us fine =
      ap (λ (v : Verdict). explained_meant (unless_judged v (fed_explained_in lives.Live (begun_with o) us from a))) fine
      ∙ passed-told (openings.ready-stands l stride o p opening opens) a from size us fine

  -- what stands before a payload, told
  lead-told : {q : Place} {h : Parameters} {x : Phase} → openable l stride size ≡ true → SamePlace q h x → (a : ℕ) (bs : List ℕ)
      → feed_judged (waiting l stride p opening) size a ≡ Ok tt
      → explained_meant (lead_explained q (session_of (waiting l stride p opening) h (phases.Before q)) size bs a)
      ≡ told_if (dcs_call setting p a x bs).how (dcs_first setting p 0 x bs)
  unfolding lead_explained led_explained explained_meant told_for telling_meant place_meant need_meant told_at
  lead-told {q} {h} {x} opens same a bs fine = go (lead-tells setting p bs a bs q h x same 0 refl)
    where
      lead : Lead
      lead = lead_from bs 0 q h

      led-as : {w : Led} → lead.led ≡ w → explained_meant (led_explained lead.led lead (waiting l stride p opening) size bs a)
          ≡ explained_meant (led_explained w lead (waiting l stride p opening) size bs a)
      led-as e = ap (λ (w : Led). explained_meant (led_explained w lead (waiting l stride p opening) size bs a)) e

      go : {o : Option Telling} {u : Bool} → LeadTells setting p bs a lead o u
          → explained_meant (led_explained lead.led lead (waiting l stride p opening) size bs a) ≡ cond u o none
      go (waits e) = led-as e
      go (turns why e) = led-as e
      go (begins e) = led-as e ∙ begun-told opens (settings_from lead.header) a lead.consumed (drop lead.consumed bs) fine

  -- in the payload what is told is the payload's
  inside-told : {s : payload_session.Session} {c : List ℕ} {r : Reading} {failed : Bool}
      (k : payload.Stands opening s c (held_at l stride size r failed)) (a n : ℕ)
      (bs : List ℕ) → feed_judged s n a ≡ Ok tt
      → explained_meant (fed_explained_in s.life s bs 0 a) ≡ told_if (dcs_call setting p a (within r) bs).how (dcs_first setting p 0 (within r) bs)
  inside-told {r = r} k a n bs fine =
      passed-told k a 0 n bs fine
      ∙ ap₂ (λ (u : Bool) (t : Option Telling). cond u t none) (sym (within-refused setting p a r bs)) (sym (within_first setting p bs 0 r))

  -- a canvas of another length is refused with 12 before a byte is looked at
  abbrev area_seen : Phase → Area
  area_seen t = calls.visible_area (calls.drawing_of t)

  module _ (n : ℕ) (differs : eqb n size ≡ false) where
    other-misfits : (x : Phase) → calls.misfits area_seen (held_at l stride size x false) n ≡ true
    unfolding calls.misfits
    other-misfits x = rw differs refl

    other-refusal : (x : Phase) (a : ℕ) → calls.feed_refusal area_seen (held_at l stride size x false) n a ≡ some 12
    unfolding calls.feed_refusal calls.first_of
    other-refusal x a =
        ap
        (λ (u : Bool).
        calls.first_of
        (record { holds = false; number = 9 }
        ∷ record { holds = u; number = 12 }
        ∷ record { holds = ltb a (6 * setting.limits.width); number = 13 }
        ∷ []))
        (other-misfits x)

    other-judged : (a : ℕ) → feed_judged (waiting l stride p opening) n a ≡ Err refusals.Canvas
    unfolding feed_judged misfitting fitting is_failed coded.session_for
    other-judged a = rw differs refl

    other-ended : finish_judged (waiting l stride p opening) n ≡ Err refusals.Canvas
    unfolding finish_judged misfitting fitting is_failed coded.session_for
    other-ended = rw differs refl

    other-feed : (q : Place) (h : Parameters) (x : Phase) (a : ℕ) (bs : List ℕ)
        → explained_meant (dcs_feed_explained (session_of (waiting l stride p opening) h (phases.Before q)) n bs a)
        ≡ dcs_feed_telling p (held_at l stride size x false) n a bs
    unfolding dcs_feed_explained dcs_feed_telling feed_telling explained_meant unless_judged placeless_for telling_meant place_meant need_meant placeless number_of
    other-feed q h x a bs =
        ap (λ (v : Verdict). explained_meant (unless_judged v (dcs_feed_in (phases.Before q) (session_of (waiting l stride p opening) h (phases.Before q)) n bs a)))
        (other-judged a)
        ∙ sym (ap
        (λ (o : Option ℕ).
        elim o as (λ _. Option Telling) [
          | none ↦ call_telling (dcs_step setting p) (dcs_shortage setting) (dcs_rested setting) a x bs
          | some n ↦ some (placeless n)
        ])
        (other-refusal x a))

    other-finish : (q : Place) (h : Parameters) (x : Phase)
        → explained_meant (dcs_finish_explained (session_of (waiting l stride p opening) h (phases.Before q)) n)
        ≡ dcs_finish_telling (held_at l stride size x false) n
    unfolding dcs_finish_explained dcs_finish_telling finish_telling explained_meant unless_judged placeless_for placeless telling_meant place_meant need_meant number_of
        calls.first_of
    other-finish q h x =
        ap (λ (v : Verdict). explained_meant (unless_judged v (dcs_finish_in (phases.Before q) (waiting l stride p opening))))
        other-ended
        ∙ sym (ap
        (λ (u : Bool).
        elim (calls.first_of (record { holds = false; number = 9 } ∷ record { holds = u; number = 12 } ∷ [])) as (λ _. Option Telling) [
          | none ↦ dcs_end_telling setting x
          | some n ↦ some (placeless n)
        ])
        (other-misfits x))

  -- What is told of a feed is what the definition tells, on a canvas of any length.
  pub dcs-feed-told : {s : Session} {c : List ℕ} {m : calls.Session Phase} → Stands l stride p opening s c m → (n a : ℕ) (bs : List ℕ)
      → explained_meant (dcs_feed_explained s n bs a) ≡ dcs_feed_telling p m n a bs
  unfolding dcs_feed_explained dcs_feed_in dcs_feed_telling feed_telling call_telling explained_meant unless_judged placeless_for telling_meant place_meant need_meant
      placeless judged_meant feed_judged is_failed coded.session_for number_of
      calls.feed_refusal calls.first_of calls.misfits calls.visible_area calls.drawing_of
  dcs-feed-told (before {t} {h} {x} opens same) n a bs =
      by-test (eqb n size)
      (λ yes.
      subst
      (λ (k : ℕ).
      explained_meant (dcs_feed_explained (session_of (waiting l stride p opening) h (phases.Before t)) k bs a)
      ≡ dcs_feed_telling p (held_at l stride size x false) k a bs)
      (sym (eqb-true n size yes))
      (judged-told (feed_judged (waiting l stride p opening) size a)
      (lead_explained t (session_of (waiting l stride p opening) h (phases.Before t)) size bs a) _ _
      (before-judged l stride p opening opens same a) (lead-told opens same a bs)))
      (λ differs. other-feed n differs t h x a bs)
  dcs-feed-told (refused same) n a bs = refl
  dcs-feed-told (inside {s} {h} {c} k going) n a bs =
      judged-told (feed_judged s n a) (fed_explained_in s.life s bs 0 a) _ _ (feed-judged k n a) (inside-told k a n bs)
  dcs-feed-told (escaped {s} {h} {c} {r} k) n a bs =
      judged-told (feed_judged s n a) (Ok tt) _ _ (feed-judged k n a)
      (λ fine. ap (λ (u : Bool). cond u (dcs_first setting p 0 (after_escape r) bs) none) (sym (escape-refused setting p r bs a)))
  dcs-feed-told (ended {s} {h} {c} {r} {e} k) n a bs =
      judged-told (feed_judged s n a) (Ok tt) _ _ (feed-judged k n a)
      (λ fine. ap (λ (u : Bool). cond u (dcs_first setting p 0 (over (end_meant e) r) bs) none) (sym (over-refused setting p (end_meant e) r bs a)))

  -- before the end it is 8
  place-early : {t : Place} {h : Parameters} {x : Phase} → SamePlace t h x → dcs_end_telling setting x ≡ some (told_at 0 8 none)
  unfolding dcs_end_telling
  place-early (at_start r) = refl
  place-early (at_introduced r) = refl
  place-early (in_header r) = refl

  -- What is told of a finish is what the definition tells, on a canvas of any length.
  pub dcs-finish-told : {s : Session} {c : List ℕ} {m : calls.Session Phase} → Stands l stride p opening s c m → (n : ℕ)
      → explained_meant (dcs_finish_explained s n) ≡ dcs_finish_telling m n
  unfolding dcs_finish_explained dcs_finish_in dcs_finish_telling finish_telling dcs_end_telling explained_meant unless_judged placeless_for placeless told_for telling_meant place_meant need_meant told_at judged_meant
      misfit finish_judged is_failed coded.session_for number_of calls.first_of calls.misfits calls.visible_area calls.drawing_of
  dcs-finish-told (before {t} {h} {x} opens same) n =
      by-test (eqb n size)
      (λ yes.
      subst
      (λ (k : ℕ).
      explained_meant (dcs_finish_explained (session_of (waiting l stride p opening) h (phases.Before t)) k)
      ≡ dcs_finish_telling (held_at l stride size x false) k)
      (sym (eqb-true n size yes))
      (judged-told (finish_judged (waiting l stride p opening) size) (told_for 0 refusals.Unfinished None) _ _
      (before-ends l stride p opening opens same) (λ fine. sym (place-early same))))
      (λ differs. other-finish n differs t h x)
  dcs-finish-told (refused same) n = refl
  dcs-finish-told (inside {s} {h} {c} k going) n =
      judged-told (finish_judged s n) (told_for 0 refusals.Unfinished None) _ _ (finish-judged k n) (λ fine. refl)
  dcs-finish-told (escaped {s} {h} {c} k) n =
      judged-told (finish_judged s n) (told_for 0 refusals.Unfinished None) _ _ (finish-judged k n) (λ fine. refl)
  dcs-finish-told (ended {s} {h} {c} {r} {e} k) n =
      judged-told (finish_judged s n) (pending_explained s.frame s.ground s.palette 0) _ _ (finish-judged k n) (pending-told k n 0)
