-- The refusals of the code's DCS sessions are the definition's, and leave what rules 5.6 and 5.7 say.
use Rattle.std.specs.Prelude.{Ok, Err}
use Prim.Native.Nat.{ℕ, ◌*◌, ◌≤◌}
use mathlib.Core.Bool.{Bool, true, false}
use mathlib.Core.List.{List, [], ◌∷◌}
use mathlib.Core.Logic.Iff
use mathlib.Core.Logic.{◌↔◌}
use mathlib.Core.Option.{some}
use mathlib.Core.Path.{◌≡◌, refl, sym, ap, ◌∙◌}
use native.Mathlib.Omega.{arith}
use borrow.Author.Tests.{eqb-true}
use lib.Dec.{ltb, eqb}
use lib.ListN.{length}
use Rattle.numbers.specs.declared.Parameters.{Parameters}
use Rattle.colours.specs.declared.Palette.{Palette}
use Rattle.canvas.proofs.Covers.{by-test}
use Rattle.frame.specs.Numbers.{number_of}
use Rattle.frame.specs.declared.Limits.{Limits}
use Rattle.frame.specs.declared.Refusal.{Refusal}
use Rattle.frame.specs.declared.Refusal.TheVariants.{Failed, Opening, Canvas}
use Rattle.meaning.specs.Calls as calls
use Rattle.meaning.specs.Payload as meant
use Rattle.meaning.specs.Sessions.{Reading, opened, Phase, dcs_step}
use Rattle.payload.specs.Results.{Verdict}
use Rattle.payload.specs.Deferred.{no_settings}
use Rattle.payload.specs.Refusals.{openable, is_failed, feed_judged, finish_judged}
use Rattle.payload.specs.Session as coded
use Rattle.payload.specs.History as payload
use Rattle.payload.specs.Meant as payload_meant
use Rattle.payload.proofs.Openings.{ready-stands}
use Rattle.payload.proofs.Judgements as judgements
use Rattle.dcs.specs.Results.{Answer}
use Rattle.payload.specs.declared.Answer.TheVariants as answers
use Rattle.dcs.specs.declared.Phase as phase
use Rattle.dcs.specs.declared.Phase.TheVariants as phases
use Rattle.dcs.specs.declared.Session.{Session}
use Rattle.header.specs.declared.Place.{Place}
use Rattle.dcs.specs.Session.{opened_by, fed_as, fed_by, finished_in, finished_as, finished_by}
use Rattle.dcs.specs.History.{SamePlace, held_at, Stands, before, refused, inside, escaped, ended}
use Rattle.dcs.specs.Meant.{answer_meant}
use Rattle.dcs.proofs.Standing.{feed-stands, finish-stands, stands-shows, stands-fit}
use Rattle.dcs.proofs.Openings.{open-refused}
use Rattle.promises.proofs.Choices.{tells-itself, tells-fails}
use Rattle.promises.proofs.Meanings.{refusal-known}
use Rattle.promises.proofs.RefusedCalls as any
use Rattle.promises.proofs.RefusedPayload.{judged-known, finishes-exactly, Untouched, payload-finish-keeps, tells-openable}
use Rattle.promises.proofs.RefusedRuns.{RunRefused}
use Rattle.promises.proofs.RefusedSessions.{payload_area, dcs_area, Openable, dcs_ran, dcs-nine, dcs-twelve, dcs-first, dcs-bytes, dcs-fails}

answer-known : (y : Answer) (x : Refusal) → answer_meant y ≡ calls.refused (number_of x) → y ≡ Err x
unfolding answer_meant
answer-known (Ok (answers.More n i)) x e = let never : ◌≡◌ {A = ℕ} 0 1 = cc in absurd (omega arith)
answer-known (Ok (answers.Stopped n i)) x e = let never : ◌≡◌ {A = ℕ} 0 1 = cc in absurd (omega arith)
answer-known (Ok (answers.Ended n i b)) x e = let never : ◌≡◌ {A = ℕ} 0 1 = cc in absurd (omega arith)
answer-known (Err y) x e = ap Err (refusal-known (cc))

module _ (l : Limits) (stride : ℕ) (p : Palette) (opening : List ℕ) where
  -- before the payload the picture fits every canvas of the opening's length, begun or not
  waits-alike : openable l stride (length opening) ≡ true → {t : Place} {h : Parameters} {x : Phase} → SamePlace t h x → (size : ℕ)
      → calls.misfits payload_area (held_at l stride (length opening) (opened (payload_meant.parameters_meant no_settings) p) false) size
      ≡ calls.misfits dcs_area (held_at l stride (length opening) x false) size
  unfolding calls.misfits
  waits-alike opens {t} {h} {x} same size =
      by-test (eqb size (length opening))
      (λ e.
      let same_size : size ≡ length opening = eqb-true size (length opening) e in
      ap (calls.misfits payload_area begun) same_size
      ∙ judgements.stands-fit (ready-stands l stride no_settings p opening opens)
      ∙ sym (ap (calls.misfits dcs_area (held_at l stride (length opening) x false)) same_size ∙ stands-fit l stride p opening (before opens same)))
      (λ e. rw e refl)
    where
      begun : calls.Session Reading
      begun = held_at l stride (length opening) (opened (payload_meant.parameters_meant no_settings) p) false

  pub judged-meant : {s : Session} {c : List ℕ} {m : calls.Session Phase} → Stands l stride p opening s c m → (size a : ℕ)
      → judgements.judged_meant (feed_judged s.payload size a) ≡ calls.feed_refusal dcs_area m size a
  unfolding judgements.judged_meant feed_judged is_failed coded.session_for number_of calls.feed_refusal calls.first_of calls.misfits calls.visible_area
      calls.drawing_of payload_meant.setting_meant payload_meant.limits_meant calls.setting_for
  judged-meant (before opens same) size a =
      judgements.feed-judged (ready-stands l stride no_settings p opening opens) size a
      ∙ ap
      (λ (u : Bool).
      calls.first_of
      (record { holds = false; number = 9 }
      ∷ record { holds = u; number = 12 }
      ∷ record { holds = ltb a (6 * l.width); number = 13 }
      ∷ []))
      (waits-alike opens same size)
  judged-meant (refused same) size a = refl
  judged-meant (inside k over) size a = judgements.feed-judged k size a
  judged-meant (escaped k) size a = judgements.feed-judged k size a
  judged-meant (ended k) size a = judgements.feed-judged k size a

  module _ {s : Session} {c : List ℕ} {m : calls.Session Phase} (k : Stands l stride p opening s c m) (bs : List ℕ) (a : ℕ) where
    -- ---- feed

    -- The code's feed is refused with a number exactly when the definition's is.
    pub dcs-feed-exactly : (x : Refusal)
        → ((fed_by s c bs a).0.answer ≡ Err x) ↔ ((calls.feed_dcs p m (length c) a bs).answer ≡ calls.refused (number_of x))
    unfolding answer_meant
    dcs-feed-exactly x = (
      λ e. sym (feed-stands l stride p opening k bs a).answer ∙ ap answer_meant e,
      λ e. answer-known (fed_by s c bs a).0.answer x ((feed-stands l stride p opening k bs a).answer ∙ e),
    )

    -- refused before a byte is read, whichever canvas is lent
    refused-before : (lent : List ℕ) (x : Refusal) → calls.feed_refusal dcs_area m (length lent) a ≡ some (number_of x)
        → fed_by s lent bs a ≡ (record { answer = Err x; session = s }, lent)
    unfolding fed_by fed_as
    refused-before lent x e =
        ap (λ (j : Verdict). fed_as j s lent bs a) (judged-known (feed_judged s.payload (length lent) a) x (judged-meant k (length lent) a ∙ e))

    -- 9, 12 and 13 leave the session and every byte of the canvas as they were.
    pub dcs-feed-keeps : (x : Refusal) → 8 ≤ number_of x → (fed_by s c bs a).0.answer ≡ Err x
        → fed_by s c bs a ≡ (record { answer = Err x; session = s }, c)
    dcs-feed-keeps x high e = refused-before c x (dcs-first p m (length c) a bs (number_of x) high ((dcs-feed-exactly x).0 e))

    -- A failed session is 9, whichever canvas is lent, and all stays as it was.
    pub dcs-nine-keeps : (lent : List ℕ) → m.failed ≡ true → fed_by s lent bs a ≡ (record { answer = Err Failed; session = s }, lent)
    unfolding number_of
    dcs-nine-keeps lent h = refused-before lent Failed (dcs-first p m (length lent) a bs 9 (omega arith) ((dcs-nine p m (length lent) a bs).1 h))

    -- Another is 12 on a canvas that does not fit, and all stays as it was.
    pub dcs-twelve-keeps : (lent : List ℕ) → ¬ (m.failed ≡ true) → any.Misfits dcs_area m (length lent)
        → fed_by s lent bs a ≡ (record { answer = Err Canvas; session = s }, lent)
    unfolding number_of
    dcs-twelve-keeps lent h misfit =
        refused-before lent Canvas (dcs-first p m (length lent) a bs 12 (omega arith) ((dcs-twelve p m (length lent) a bs).1 (h, misfit)))

    -- 1 to 7 leave the canvas showing what came before the refused byte or command; before `q` nothing is written.
    pub dcs-feed-shows : (x : Refusal) → number_of x ≤ 7 → (fed_by s c bs a).0.answer ≡ Err x
        → RunRefused (dcs_step m.setting p) a m.state bs (dcs_ran p m (length c) a bs).state (number_of x)
        × ((fed_by s c bs a).1 ≡ calls.shown m.setting.stride (calls.drawing_of (dcs_ran p m (length c) a bs).state) opening)
    unfolding calls.dcs_shown calls.session_after
    dcs-feed-shows x low e =
        let d = (dcs-feed-exactly x).0 e in (
          ((dcs-bytes p m (length c) a bs (number_of x) low).0 d).1.1.1,
          stands-shows l stride p opening (feed-stands l stride p opening k bs a).session
              ∙ ap (λ (t : calls.Session Phase). calls.dcs_shown t opening) (dcs-fails p m (length c) a bs (number_of x) low d),
        )

  -- ---- finish

  -- The code's finish is refused with a number exactly when the definition's is.
  pub dcs-finish-exactly : {s : Session} {c : List ℕ} {m : calls.Session Phase} → Stands l stride p opening s c m → (owner : Palette) (x : Refusal)
      → ((finished_by s owner c).0.answer ≡ Err x) ↔ (calls.finish_dcs_session m (length c) ≡ meant.turned_down (number_of x))
  dcs-finish-exactly k owner = finishes-exactly (finish-stands l stride p opening owner k)

  pub finish-meant : {s : Session} {c : List ℕ} {m : calls.Session Phase} → Stands l stride p opening s c m → (size : ℕ)
      → judgements.judged_meant (finish_judged s.payload size)
      ≡ calls.first_of (record { holds = m.failed; number = 9 } ∷ record { holds = calls.misfits dcs_area m size; number = 12 } ∷ [])
  unfolding judgements.judged_meant judgements.misfit finish_judged is_failed coded.session_for number_of calls.first_of
      calls.misfits calls.visible_area calls.drawing_of
  finish-meant (before opens same) size =
      judgements.finish-judged (ready-stands l stride no_settings p opening opens) size
      ∙ ap (λ (u : Bool). calls.first_of (record { holds = false; number = 9 } ∷ record { holds = u; number = 12 } ∷ [])) (waits-alike opens same size)
  finish-meant (refused same) size = refl
  finish-meant (inside k over) size = judgements.finish-judged k size
  finish-meant (escaped k) size = judgements.finish-judged k size
  finish-meant (ended k) size = judgements.finish-judged k size

  module _ {s : Session} {c : List ℕ} {m : calls.Session Phase} (k : Stands l stride p opening s c m) (owner : Palette) (lent : List ℕ) where
    -- refused before the end is asked for, whichever canvas is lent
    ended-before : (x : Refusal)
        → calls.first_of (record { holds = m.failed; number = 9 } ∷ record { holds = calls.misfits dcs_area m (length lent); number = 12 } ∷ [])
        ≡ some (number_of x)
        → finished_by s owner lent ≡ (record { answer = Err x; palette = owner }, lent)
    unfolding finished_by finished_as coded.turned_away
    ended-before x e =
        ap (λ (j : Verdict). finished_as j s owner lent) (judged-known (finish_judged s.payload (length lent)) x (finish-meant k (length lent) ∙ e))

    -- A finish of a failed session is 9, whichever canvas is lent.
    pub dcs-finish-nine-keeps : m.failed ≡ true → finished_by s owner lent ≡ (record { answer = Err Failed; palette = owner }, lent)
    unfolding number_of calls.first_of
    dcs-finish-nine-keeps h = ended-before Failed (rw h refl)

    -- One of another is 12 on a canvas that does not fit.
    pub dcs-finish-twelve-keeps : ¬ (m.failed ≡ true) → any.Misfits dcs_area m (length lent)
        → finished_by s owner lent ≡ (record { answer = Err Canvas; palette = owner }, lent)
    unfolding number_of calls.first_of calls.misfits
    dcs-finish-twelve-keeps live misfits =
        ended-before Canvas (rw ((tells-fails tells-itself).1 live, (any.tells-misfits dcs_area m (length lent)).1 misfits) refl)

  -- ---- opening

  -- The code's opening is 11 exactly when a number is out of its range or there is no whole row; it is lent no canvas, and writes nothing.
  pub dcs-open-exactly : ((opened_by l stride p (length opening)).answer ≡ Err Opening)
      ↔ (¬ Openable (payload_meant.limits_meant l) stride (length opening))
  dcs-open-exactly = Iff.trans (open-refused l stride p (length opening)) (tells-fails (tells-openable l stride (length opening)))

module _ (s : Session) (owner : Palette) (canvas : List ℕ) where
  phase-keeps : (t : phase.Phase) → Untouched owner canvas (finished_in t s owner canvas)
  unfolding finished_in coded.turned_away
  phase-keeps (phases.Before t) = λ x e. (refl, refl)
  phase-keeps phases.Within = λ x e. (refl, refl)
  phase-keeps phases.Escaped = λ x e. (refl, refl)
  phase-keeps (phases.Over e) = payload-finish-keeps s.payload owner canvas

  finish-keeps : (j : Verdict) → Untouched owner canvas (finished_as j s owner canvas)
  unfolding finished_as coded.turned_away
  finish-keeps (Ok tt) = phase-keeps s.phase
  finish-keeps (Err n) = λ x e. (refl, refl)

  -- Every refused finish, of whichever session and canvas, hands back the owner's palette and writes nothing.
  pub dcs-finish-keeps : Untouched owner canvas (finished_by s owner canvas)
  unfolding finished_by
  dcs-finish-keeps = finish-keeps (finish_judged s.payload (length canvas))
