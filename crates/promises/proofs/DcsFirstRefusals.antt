-- The refusals that come first, after any calls and on any canvas, of the DCS session's code (rules 5.2, 5.3).
use Prim.Native.Nat.{ℕ}
use mathlib.Core.Bool.{true, false}
use mathlib.Core.List.{List}
use mathlib.Core.Logic.Iff
use mathlib.Core.Logic.{◌↔◌}
use mathlib.Core.Option.{none}
use mathlib.Core.Path.{◌≡◌, refl, sym, ap, ◌∙◌}
use lib.ListN.{length}
use Rattle.colours.specs.declared.Palette.{Palette}
use Rattle.frame.specs.Numbers.{number_of}
use Rattle.frame.specs.declared.Limits.{Limits}
use Rattle.meaning.specs.Calls as calls
use Rattle.meaning.specs.Callers.{fed_all, Ask}
use Rattle.meaning.specs.Demands.{have_failed, have_ended, FeedRefusals, FinishRefusals, FinishedEarly}
use Rattle.meaning.specs.Drawing.{Setting}
use Rattle.meaning.specs.Payload as meant
use Rattle.payload.specs.Deferred.{reserved_by}
use Rattle.payload.specs.Refusals.{is_failed, feed_judged, finish_judged}
use Rattle.payload.specs.Session.{session_for, turned_away}
use Rattle.payload.specs.Meant.{limits_meant, setting_meant, finish_meant}
use Rattle.dcs.specs.Session.{opened_by, fed_as, fed_by, finished_as, finished_by}
use Rattle.dcs.specs.History.{Stands, Held, feed_held, PastMeant, fed_all_meant}
use Rattle.dcs.specs.Meant.{answer_meant}
use Rattle.payload.proofs.Openings.{opens-meant}
use Rattle.dcs.proofs.Openings.{opened-stands}
use Rattle.dcs.proofs.History as history
use Rattle.promises.specs.Readers.{concluded_by, dcs_feed, dcs_finish, dcs_lend}
use Rattle.promises.proofs.Concluding.{concluded-keeps}
use Rattle.promises.proofs.DcsDemands.{held, opened_meant}
use Rattle.promises.proofs.FailedHistories.{has_ended, ended-exactly, dcs-failed, dcs-ended, dcs-kept-setting}
use Rattle.promises.proofs.FirstRefusals.{feed-order, finish-order, early-order}
use Rattle.promises.proofs.LentCanvases.{dcs-misfits, dcs-lent-answers, dcs-lent-keeps, dcs-lent-finishes}
use Rattle.promises.proofs.RefusedDcs.{dcs-finish-keeps}
use Rattle.promises.proofs.Opened.{may-open}
use Rattle.promises.proofs.RefusedFinishes.{dcs-finish-nine, dcs-finish-twelve, dcs-finish-eight}
use Rattle.promises.proofs.RefusedSessions.{dcs_area, dcs-nine, dcs-twelve, dcs-thirteen, dcs-first}
use Rattle.promises.proofs.ToldPasts.{told-answers, told-stands}

module _ (l : Limits) (stride : ℕ) (p : Palette) (opening : List ℕ)
    (opens : calls.opens (limits_meant l) stride (length opening) ≡ true) (cs : List Ask) (lent : List ℕ) where
  -- what the opening hands back, with the canvas, and what the definition's session has come to
  abbrev first : Held
  first = held l stride p opening

  abbrev past : PastMeant
  past = fed_all_meant p (opened_meant l stride p opening) (length opening) cs

  passed : history.Passes l stride p opening (fed_all feed_held first cs) past
  passed = history.history-stands l stride p opening (opened-stands l stride p opening (may-open l stride (length opening) opens)) cs

  stands : Stands l stride p opening (fed_all dcs_feed first cs).state.0 (fed_all dcs_feed first cs).state.1 past.state
  stands = told-stands feed_held answer_meant first cs passed

  answered : past.answers ≡ (fed_all dcs_feed first cs).answers
  answered = sym (told-answers feed_held answer_meant first cs passed)

  has-failed : past.state.failed ≡ have_failed (fed_all dcs_feed first cs).answers
  has-failed = dcs-failed p (length opening) (opened_meant l stride p opening) cs ∙ ap have_failed answered

  -- no end has come exactly when no answer has told one
  no_end : (calls.dcs_end past.state.state ≡ none) ↔ (have_ended (fed_all dcs_feed first cs).answers ≡ false)
  unfolding has_ended calls.dcs_end
  no_end =
      let e : has_ended (calls.dcs_end past.state.state) ≡ have_ended (fed_all dcs_feed first cs).answers =
      dcs-ended p (length opening) (opened_meant l stride p opening) cs ∙ ap have_ended answered in
      Iff.trans (ended-exactly (calls.dcs_end past.state.state)) (λ q. sym e ∙ q, λ q. e ∙ q)

  width : past.state.setting.limits.width ≡ l.width
  unfolding setting_meant limits_meant calls.setting_for
  width = ap (λ (s : Setting). s.limits.width) (dcs-kept-setting p (length opening) (opened_meant l stride p opening) cs)

  -- Feed 9, 12, 13, in this order, whatever the calls before and the canvas lent.
  pub dcs-feed-first : (bs : List ℕ) (a : ℕ) → FeedRefusals dcs_feed dcs_lend (length opening) first cs lent l.width bs a
  dcs-feed-first bs a =
      let n : ℕ = length lent in
      feed-order dcs_feed dcs_lend (length opening) first cs lent dcs_area past.state has-failed (dcs-misfits l stride p opening stands lent) width bs a
      (calls.feed_dcs p past.state n a bs).answer (dcs-lent-answers l stride p opening stands lent bs a)
      (dcs-nine p past.state n a bs) (dcs-twelve p past.state n a bs) (dcs-thirteen p past.state n a bs)
      (λ k high q. dcs-lent-keeps l stride p opening stands lent bs a k (dcs-first p past.state n a bs k high q))

  -- Finish 9, 12, the same,
  pub dcs-finish-first : (owner : Palette) → FinishRefusals dcs_feed dcs_lend (length opening) first cs lent dcs_finish owner
  unfolding concluded_by
  dcs-finish-first owner =
      let n : ℕ = length lent in
      finish-order dcs_feed dcs_lend (length opening) first cs lent dcs_area past.state has-failed (dcs-misfits l stride p opening stands lent)
      dcs_finish owner (calls.finish_dcs_session past.state n) (dcs-lent-finishes l stride p opening stands lent owner)
      (dcs-finish-nine past.state n) (dcs-finish-twelve past.state n)
      (concluded-keeps (finished_by (fed_all dcs_feed first cs).state.0 owner lent) (dcs-finish-keeps (fed_all dcs_feed first cs).state.0 owner lent))

  -- and then 8, exactly when no answer has told an end.
  pub dcs-finish-early : (owner : Palette) → FinishedEarly dcs_feed dcs_lend (length opening) first cs lent dcs_finish owner
  unfolding concluded_by
  dcs-finish-early owner =
      let n : ℕ = length lent in
      early-order dcs_feed dcs_lend (length opening) first cs lent dcs_area past.state has-failed (dcs-misfits l stride p opening stands lent)
      dcs_finish owner (calls.finish_dcs_session past.state n) (dcs-lent-finishes l stride p opening stands lent owner)
      no_end (dcs-finish-eight past.state n)

-- ---- after a refused opening

module _ (l : Limits) (stride : ℕ) (p : Palette) (size : ℕ) (refuses : calls.opens (limits_meant l) stride size ≡ false) (canvas : List ℕ) where
  -- A feed of what it hands back is 9 on any canvas, and leaves all as it was.
  pub dcs-refused-opening-feed : (bs : List ℕ) (a : ℕ) → let h : Held = ((opened_by l stride p size).session, canvas) in dcs_feed h bs a ≡ (h, calls.refused 9)
  unfolding opened_by reserved_by session_for fed_by fed_as feed_judged is_failed answer_meant number_of
  dcs-refused-opening-feed bs a = rw (opens-meant l stride size ∙ refuses) refl

  -- A finish is 9, with the owner's palette and the canvas as they were.
  pub dcs-refused-opening-finish : (owner : Palette)
      → dcs_finish ((opened_by l stride p size).session, canvas) owner ≡ record { answer = meant.turned_down 9; palette = owner; canvas = canvas }
  unfolding opened_by reserved_by session_for finished_by finished_as finish_judged is_failed turned_away concluded_by finish_meant number_of
  dcs-refused-opening-finish owner = rw (opens-meant l stride size ∙ refuses) refl
