-- A DCS session of the code and its canvas stand for a session of the definition: from the opening on, after every feed, and at the finish.
-- Every split of a stream then leaves the same session: `read-append` and the laws of `Demand3` say it of the definition.
use Rattle.std.specs.Prelude.{◌≡◌, ℕ, ◌*◌, Bool, true, false, ltb, List, [], ◌∷◌, length, Ok, Err}
use native.Mathlib.Omega.{arith}
use mathlib.Core.Option.{Option, none, some}
use mathlib.Core.Path.{refl, sym, ap, subst, ◌∙◌}
use borrow.Author.Tests.{eq-eqb, le-leb}
use Rattle.numbers.specs.declared.Parameters.{Parameters}
use Rattle.numbers.specs.Step as numbers
use Rattle.numbers.proofs.Reading.{read_none}
use Rattle.colours.specs.declared.Palette.{Palette}
use Rattle.colours.specs.Marks.{lasting}
use Rattle.canvas.specs.Picture.{rows_of, fits, span}
use Rattle.canvas.specs.Paint.{painted}
use Rattle.frame.specs.declared.Limits.{Limits}
use Rattle.frame.specs.declared.Refusal.TheVariants as refusals
use Rattle.frame.specs.Numbers.{number_of}
use Rattle.meaning.specs.Calls as calls
use Rattle.meaning.specs.Drawing.{Setting}
use Rattle.meaning.specs.Reader.{after, call}
use Rattle.meaning.specs.Sessions as sessions
use Rattle.meaning.proofs.FeedingLaws.{fed-as, finished_as_lem}
use Rattle.meaning.proofs.RunLaws.{after-zero}
use Rattle.payload.specs.declared.Session as payload_session
use Rattle.payload.specs.Results.{Verdict}
use Rattle.payload.specs.Deferred.{no_settings, reserved_by}
use Rattle.payload.specs.Results as payload_opened
use Rattle.payload.specs.Refusals.{in_range, limits_fit, openable, is_failed, feed_judged, finish_judged}
use Rattle.payload.specs.Session as coded
use Rattle.payload.specs.History as payload
use Rattle.payload.specs.Meant as payload_meant
use Rattle.payload.proofs.Openings as openings
use Rattle.payload.proofs.Judgements as judgements
use Rattle.payload.proofs.Finishings as finishings
use Rattle.header.proofs.Cases.{both}
use Rattle.dcs.specs.Results.{Fed}
use Rattle.dcs.specs.declared.Phase.TheVariants as phases
use Rattle.dcs.specs.declared.Session.{Session}
use Rattle.header.specs.declared.Place.{Place}
use Rattle.header.specs.declared.Place.TheVariants as places
use Rattle.dcs.specs.Session.{session_of, opened_by, fed_lead, fed_in, fed_as, fed_by, finished_in, finished_as, finished_by}
use Rattle.dcs.specs.History.{SamePlace, at_start, at_introduced, in_header, held_at, Stands, before, refused, inside, escaped, ended, Opens, is_ready, is_refused, Feeds}
use Rattle.dcs.specs.Meant.{end_meant, answer_meant}
use Rattle.dcs.proofs.Within.{area_of, here, dcs_call, FeedsTo, over-feeds, escaped-feeds, payload-feeds}
use Rattle.dcs.proofs.Before.{waiting, place-area, place-unfinished, lead-feeds}

module _ (l : Limits) (stride : ℕ) (p : Palette) (opening : List ℕ) where
  abbrev setting : Setting
  setting = payload_meant.setting_meant l stride (length opening)

  -- session and canvas of the code stand for a session of the definition
  abbrev StandsFor : Session → List ℕ → calls.Session sessions.Phase → Type 0
  StandsFor = Stands l stride p opening

  -- what a feed gives is what the definition's gives
  abbrev FedAlike : Fed × List ℕ → calls.Fed sessions.Phase sessions.End → Type 0
  FedAlike = Feeds l stride p opening

  -- the refusal of a finish: 9 of a session that was refused, 12 where the canvas does not fit
  abbrev refusal_at_finish : Bool → Bool → Option ℕ
  refusal_at_finish failed misfit = calls.first_of (record { holds = failed; number = 9 } ∷ record { holds = misfit; number = 12 } ∷ [])

  -- ---- feeding

  -- a call with no byte read before it
  from_start : (x : sessions.Phase) (y : Fed × List ℕ) (a : ℕ) (bs : List ℕ)
      → FeedsTo l stride p opening x y (after 0 0 (dcs_call l stride p opening a x bs))
      → FeedsTo l stride p opening x y (dcs_call l stride p opening a x bs)
  from_start x y a bs f = subst (FeedsTo l stride p opening x y) (after-zero (dcs_call l stride p opening a x bs)) f

  -- 9, 12 and 13 are the definition's, and leave all as it is; else the bytes are read
  by-judged : {s : Session} {c : List ℕ} {m : calls.Session sessions.Phase} → StandsFor s c m → (bs : List ℕ) (a : ℕ)
      → judgements.judged_meant (feed_judged s.payload (length c) a) ≡ calls.feed_refusal area_of m (length c) a
      → (feed_judged s.payload (length c) a ≡ Ok tt → FedAlike (fed_in s.phase s c bs a)
      (calls.answered calls.dcs_end m (call (sessions.dcs_step m.setting p) (sessions.dcs_rested m.setting) a m.state bs)))
      → FedAlike (fed_by s c bs a) (calls.feed_dcs p m (length c) a bs)
  unfolding fed_by fed_as judgements.judged_meant answer_meant calls.feed_dcs
  by-judged {s} {c} {m} k bs a same read = go (feed_judged s.payload (length c) a) refl
    where
      go : (j : Verdict) → feed_judged s.payload (length c) a ≡ j → FedAlike (fed_as j s c bs a) (calls.feed_dcs p m (length c) a bs)
      go (Ok tt) e =
          subst (FedAlike (fed_in s.phase s c bs a))
          (sym (fed-as area_of (λ t. sessions.dcs_step t p) sessions.dcs_rested calls.dcs_end m (length c) a bs
          (sym same ∙ ap judgements.judged_meant e))) (read e)
      go (Err n) e =
          subst (FedAlike (record { answer = Err n; session = s }, c))
          (sym (fed-as area_of (λ t. sessions.dcs_step t p) sessions.dcs_rested calls.dcs_end m (length c) a bs
          (sym same ∙ ap judgements.judged_meant e))) (record { answer = refl; session = k })

  -- before the payload the canvas of the opening fits
  place-fits : {t : Place} {h : Parameters} {x : sessions.Phase} → SamePlace t h x
      → calls.misfits area_of (here l stride p opening x) (length opening) ≡ false
  unfolding calls.misfits fits
  place-fits same =
      rw (
        place-area l stride p opening same,
        eq-eqb (length opening) (length opening) refl,
        le-leb 0 setting.stride (omega arith),
        le-leb 0 (rows_of (length opening) setting.stride) (omega arith),
      )
      refl

  module _ (opens : openable l stride (length opening) ≡ true) {t : Place} {h : Parameters} {x : sessions.Phase}
      (same : SamePlace t h x) where
    -- the payload session before `q`, and the definition's session
    abbrev early : payload_session.Session
    early = waiting l stride p opening

    abbrev there : calls.Session sessions.Phase
    there = here l stride p opening x

    -- the waiting session, as one that has begun
    waits : payload.Stands opening early (painted (span 0 1) (coded.background_for (lasting p) no_settings.p2) opening)
        (held_at l stride (length opening) (sessions.opened (payload_meant.parameters_meant no_settings) p) false)
    waits = openings.ready-stands l stride no_settings p opening opens

    -- so a feed and a finish are judged as the definition judges them
    pub before-judged : (a : ℕ)
        → judgements.judged_meant (feed_judged early (length opening) a) ≡ calls.feed_refusal area_of there (length opening) a
    unfolding calls.feed_refusal
    before-judged a =
        judgements.feed-judged waits (length opening) a
        ∙ ap
        (λ (u : Bool).
        calls.first_of
        (record { holds = false; number = 9 }
        ∷ record { holds = u; number = 12 }
        ∷ record { holds = ltb a (6 * setting.limits.width); number = 13 }
        ∷ []))
        (judgements.stands-fit waits ∙ sym (place-fits same))

    pub before-ends : judgements.judged_meant (finish_judged early (length opening))
        ≡ refusal_at_finish false (calls.misfits area_of there (length opening))
    unfolding judgements.misfit
    before-ends =
        judgements.finish-judged waits (length opening)
        ∙ ap (refusal_at_finish false) (judgements.stands-fit waits ∙ sym (place-fits same))

    before-feeds : (bs : List ℕ) (a : ℕ)
        → FedAlike (fed_by (session_of early h (phases.Before t)) opening bs a) (calls.feed_dcs p there (length opening) a bs)
    unfolding fed_in fed_lead
    before-feeds bs a =
        by-judged (before opens same) bs a (before-judged a)
        (λ fine.
        from_start x _ a bs
        (lead-feeds l stride p opening opens h (phases.Before t) x bs a fine bs t h x same 0 refl))

  -- in the payload: a session that was refused is refused again (9), and else the payload session is fed
  inside-feeds : {s : payload_session.Session} {c : List ℕ} {r : sessions.Reading} (h : Parameters) (failed : Bool)
      (k : payload.Stands opening s c (held_at l stride (length opening) r failed))
      → (failed ≡ false → r.over ≡ none) → (bs : List ℕ) (a : ℕ)
      → FedAlike (fed_by (session_of s h phases.Within) c bs a)
      (calls.feed_dcs p (held_at l stride (length opening) (sessions.within r) failed) (length c) a bs)
  unfolding fed_in judgements.judged_meant calls.feed_refusal calls.first_of calls.misfits calls.visible_area calls.drawing_of
  inside-feeds {s} {c} h true k over bs a =
      by-judged (inside k over) bs a (judgements.feed-judged k (length c) a)
      (λ fine.
      let e : none ≡ some 9 = ap judgements.judged_meant (sym fine) ∙ judgements.feed-judged k (length c) a in
      let never : ◌≡◌ {A = ℕ} 0 1 = cc in absurd (omega arith))
  inside-feeds {s} {c} {r} h false k over bs a =
      by-judged (inside k over) bs a (judgements.feed-judged k (length c) a)
      (λ fine.
      from_start (sessions.within r) _ a bs
      (payload-feeds l stride p opening k (over refl) h (sessions.within r) 0 a bs fine))

  -- a feed of the code is the definition's
  pub feed-stands : {s : Session} {c : List ℕ} {m : calls.Session sessions.Phase} → Stands l stride p opening s c m → (bs : List ℕ) (a : ℕ)
      → Feeds l stride p opening (fed_by s c bs a) (calls.feed_dcs p m (length c) a bs)
  unfolding fed_in judgements.judged_meant feed_judged is_failed coded.session_for number_of
      calls.feed_refusal calls.first_of calls.misfits calls.visible_area calls.drawing_of
  feed-stands (before opens same) bs a = before-feeds opens same bs a
  feed-stands (refused same) bs a =
      by-judged (refused same) bs a refl (λ fine. let never : ◌≡◌ {A = ℕ} 0 1 = cc in absurd (omega arith))
  feed-stands (inside {h = h} {failed = failed} k over) bs a = inside-feeds h failed k over bs a
  feed-stands (escaped {s} {h} {c} {r} k) bs a =
      by-judged (escaped k) bs a (judgements.feed-judged k (length c) a)
      (λ fine.
      from_start (sessions.after_escape r) _ a bs
      (escaped-feeds l stride p opening k h phases.Escaped (sessions.after_escape r) 0 0 a bs))
  feed-stands (ended {s} {h} {c} {r} {e} k) bs a =
      by-judged (ended k) bs a (judgements.feed-judged k (length c) a)
      (λ fine.
      from_start (sessions.over (end_meant e) r) _ a bs
      (over-feeds l stride p opening k h (phases.Over e) (sessions.over (end_meant e) r) 0 0 a bs e))

  -- ---- opening

  -- an opening of the code is the definition's
  pub open-stands : Opens l stride p opening (opened_by l stride p (length opening))
      (calls.open_dcs (payload_meant.limits_meant l) stride (length opening))
  unfolding opened_by reserved_by openable limits_fit in_range number_of payload_meant.setting_meant payload_meant.limits_meant
      calls.open_dcs calls.open_with calls.setting_for calls.opens calls.limits_hold calls.ranges
  open-stands =
      both goal (openable l stride (length opening)) _ _ _ _
      (λ e. is_ready (before e (at_start (read_none 3)))) (λ _. is_refused refusals.Opening)
    where
      goal : payload_opened.Opened → calls.Opened sessions.Phase → Type 0
      goal o y =
          Opens l stride p opening
          (record { answer = o.answer; session = session_of o.session (numbers.opened 3) (phases.Before places.Start) }) y

  -- ---- finishing

  module _ (owner : Palette) where
    -- 9 and 12 are the definition's
    by-finish : {s : Session} {c : List ℕ} {m : calls.Session sessions.Phase} → StandsFor s c m → (picture : List ℕ)
        → judgements.judged_meant (finish_judged s.payload (length c)) ≡ refusal_at_finish m.failed (calls.misfits area_of m (length c))
        → (finish_judged s.payload (length c) ≡ Ok tt
        → payload.Finishes picture owner c (finished_in s.phase s owner c) (sessions.finish_dcs m.setting m.state))
        → payload.Finishes picture owner c (finished_by s owner c) (calls.finish_dcs_session m (length c))
    unfolding finished_by finished_as judgements.judged_meant coded.turned_away calls.finish_dcs_session
    by-finish {s} {c} {m} k picture same read = go (finish_judged s.payload (length c)) refl
      where
        go : (j : Verdict) → finish_judged s.payload (length c) ≡ j
            → payload.Finishes picture owner c (finished_as j s owner c) (calls.finish_dcs_session m (length c))
        go (Ok tt) e =
            subst (payload.Finishes picture owner c (finished_in s.phase s owner c))
            (sym (finished_as_lem area_of sessions.finish_dcs m (length c) (sym same ∙ ap judgements.judged_meant e))) (read e)
        go (Err n) e =
            subst (payload.Finishes picture owner c (record { answer = Err n; palette = owner }, c))
            (sym (finished_as_lem area_of sessions.finish_dcs m (length c) (sym same ∙ ap judgements.judged_meant e))) (payload.declines n)

    -- a finish of the code is the definition's
    pub finish-stands : {s : Session} {c : List ℕ} {m : calls.Session sessions.Phase} → Stands l stride p opening s c m
        → payload.Finishes (calls.dcs_shown_at_finish m opening) owner c (finished_by s owner c) (calls.finish_dcs_session m (length c))
    unfolding finished_in coded.turned_away judgements.judged_meant judgements.misfit finish_judged is_failed coded.session_for number_of
        sessions.finish_dcs calls.first_of calls.misfits calls.visible_area calls.drawing_of
        calls.dcs_shown_at_finish calls.drawing_at_finish calls.payload_shown_at_finish calls.finish_payload
    finish-stands (before opens same) =
        by-finish (before opens same) _ (before-ends opens same)
        (λ _.
        subst (payload.Finishes _ owner opening (record { answer = Err refusals.Unfinished; palette = owner }, opening))
        (sym (place-unfinished l stride p opening same)) (payload.declines refusals.Unfinished))
    finish-stands (refused same) =
        by-finish (refused same) _ refl (λ fine. let never : ◌≡◌ {A = ℕ} 0 1 = cc in absurd (omega arith))
    finish-stands (inside {c = c} k over) =
        by-finish (inside k over) _ (judgements.finish-judged k (length c)) (λ _. payload.declines refusals.Unfinished)
    finish-stands (escaped {c = c} k) =
        by-finish (escaped k) _ (judgements.finish-judged k (length c)) (λ _. payload.declines refusals.Unfinished)
    finish-stands (ended {s} {h} {c} {r} {e} k) =
        by-finish (ended k) _ (judgements.finish-judged k (length c))
        (λ fine.
        let m : calls.Session sessions.Reading = held_at l stride (length opening) r false in
        subst (payload.Finishes (calls.payload_shown_at_finish m opening) owner c (coded.finished_by s owner c))
        (finished_as_lem (λ (r : sessions.Reading). r.drawing.area) sessions.finish_reading m (length c)
        (sym (judgements.finish-judged k (length c)) ∙ ap judgements.judged_meant fine))
        (finishings.finish-stands k owner))

  -- ---- the canvas

  -- before `q` it is the opening's, and from then on it shows the drawing of the session's state
  pub stands-shows : {s : Session} {c : List ℕ} {m : calls.Session sessions.Phase} → Stands l stride p opening s c m
      → c ≡ calls.dcs_shown m opening
  unfolding calls.dcs_shown calls.drawing_of calls.shown calls.payload_shown
  stands-shows (before opens (at_start r)) = refl
  stands-shows (before opens (at_introduced r)) = refl
  stands-shows (before opens (in_header r)) = refl
  stands-shows (refused (at_start r)) = refl
  stands-shows (refused (at_introduced r)) = refl
  stands-shows (refused (in_header r)) = refl
  stands-shows (inside k over) = judgements.stands-shows k
  stands-shows (escaped k) = judgements.stands-shows k
  stands-shows (ended k) = judgements.stands-shows k

  -- it is as long as at the opening
  pub stands-long : {s : Session} {c : List ℕ} {m : calls.Session sessions.Phase} → Stands l stride p opening s c m
      → length c ≡ length opening
  stands-long (before opens same) = refl
  stands-long (refused same) = refl
  stands-long (inside k over) = judgements.stands-long k
  stands-long (escaped k) = judgements.stands-long k
  stands-long (ended k) = judgements.stands-long k

  -- and the picture fits it
  pub stands-fit : {s : Session} {c : List ℕ} {m : calls.Session sessions.Phase} → Stands l stride p opening s c m
      → calls.misfits area_of m (length opening) ≡ false
  unfolding calls.misfits calls.visible_area calls.drawing_of
  stands-fit (before opens same) = place-fits same
  stands-fit (refused same) = place-fits same
  stands-fit (inside k over) = judgements.stands-fit k
  stands-fit (escaped k) = judgements.stands-fit k
  stands-fit (ended k) = judgements.stands-fit k
