-- The refusals that come first, after any calls and on any canvas: of any reader, and of the payload session's code (rules 5.2, 5.3).
use Prim.Native.Nat.{ℕ, ◌*◌, ◌≤◌, ◌<◌}
use mathlib.Core.Bool.{Bool, true, false}
use mathlib.Core.List.{List}
use mathlib.Core.Logic.Iff
use mathlib.Core.Logic.{◌↔◌}
use mathlib.Core.Path.{◌≡◌, refl, sym, ap, ◌∙◌, subst}
use borrow.Author.Tests.{eqb-true}
use lib.Dec.{eqb}
use lib.ListN.{length}
use Rattle.colours.specs.declared.Palette.{Palette}
use Rattle.canvas.specs.Picture.{Area}
use Rattle.frame.specs.Numbers.{number_of}
use Rattle.frame.specs.declared.Limits.{Limits}
use Rattle.meaning.specs.Calls as calls
use Rattle.meaning.specs.Callers.{Feed, fed_all, Ask}
use Rattle.meaning.specs.Demands.{Concluded, have_failed, have_ended, FeedRefusals, FinishRefusals, FinishedEarly}
use Rattle.meaning.specs.Drawing.{Setting}
use Rattle.meaning.specs.Payload as meant
use Rattle.payload.specs.declared.Session.{Session}
use Rattle.payload.specs.declared.Settings.{Settings}
use Rattle.payload.specs.Refusals.{is_failed, feed_judged, finish_judged}
use Rattle.payload.specs.Session.{session_for, opened_by, fed_as, fed_by, turned_away, finished_as, finished_by}
use Rattle.payload.specs.History.{Stands, Held, feed_with, PastMeant, fed_all_meant}
use Rattle.payload.specs.Meant.{limits_meant, setting_meant, answer_meant, finish_meant}
use Rattle.payload.proofs.Openings.{opens-meant, opened-stands}
use Rattle.payload.proofs.History as history
use Rattle.promises.specs.Readers.{concluded_by, payload_feed, payload_finish, payload_lend}
use Rattle.promises.proofs.Choices.{tells-itself, tells-fails, tells-equal}
use Rattle.promises.proofs.Concluding.{concluded-keeps}
use Rattle.promises.proofs.Demands.{held, opened_meant}
use Rattle.promises.proofs.FailedHistories.{payload-failed, payload-kept-setting, payload-kept-length}
use Rattle.promises.proofs.LentCanvases.{payload-misfits, payload-lent-answers, payload-lent-keeps, payload-lent-finishes}
use Rattle.promises.proofs.RefusedCalls.{Misfits}
use Rattle.promises.proofs.Opened.{may-open}
use Rattle.promises.proofs.RefusedFinishes.{payload-finish-nine, payload-finish-twelve}
use Rattle.promises.proofs.RefusedPayload.{payload-finish-keeps}
use Rattle.promises.proofs.RefusedSessions.{payload_area, payload-nine, payload-twelve, payload-thirteen, payload-first}
use Rattle.promises.proofs.ToldPasts.{told-answers, told-stands}

-- ---- any reader whose answers are the definition's

module _ {H E : Type 0} (feed : Feed H (calls.Answer E)) (lend : H → List ℕ → H) (size : ℕ) (h : H) (cs : List Ask) (lent : List ℕ)
    {S : Type 0} (area_of : S → Area) (m : calls.Session S) (failed : m.failed ≡ have_failed (fed_all feed h cs).answers)
    (misfit : Misfits area_of m (length lent) ↔ (¬ (length lent ≡ size))) where
  abbrev answers : List (calls.Answer E)
  answers = (fed_all feed h cs).answers

  abbrev lent_to : H
  lent_to = lend (fed_all feed h cs).state lent

  has-failed : (m.failed ≡ true) ↔ (have_failed answers ≡ true)
  has-failed = (λ e. sym failed ∙ e, λ e. failed ∙ e)

  has-not : (¬ (m.failed ≡ true)) ↔ (have_failed answers ≡ false)
  has-not = (λ never. sym failed ∙ (tells-fails tells-itself).1 never, λ e. (tells-fails tells-itself).0 (failed ∙ e))

  fitting : (¬ Misfits area_of m (length lent)) ↔ (length lent ≡ size)
  fitting = (λ never. go (eqb (length lent) size) refl never, λ e h. misfit.0 h e)
    where
      go : (t : Bool) → eqb (length lent) size ≡ t → ¬ Misfits area_of m (length lent) → length lent ≡ size
      go true e never = eqb-true (length lent) size e
      go false e never = absurd (never (misfit.1 ((tells-fails (tells-equal (length lent) size)).0 e)))

  -- a live session and a canvas of another length
  twelve : {X : Type 0} → X ↔ ((¬ (m.failed ≡ true)) × Misfits area_of m (length lent)) → X ↔ ((have_failed answers ≡ false) × (¬ (length lent ≡ size)))
  twelve k = Iff.trans k (λ h. (has-not.0 h.0, misfit.0 h.1), λ h. (has-not.1 h.0, misfit.1 h.1))

  -- a live session and a canvas of its length, and this besides
  later : {X Y Z : Type 0} → Y ↔ Z → X ↔ ((¬ (m.failed ≡ true)) × ((¬ Misfits area_of m (length lent)) × Y))
      → X ↔ ((have_failed answers ≡ false) × (length lent ≡ size) × Z)
  later f k =
      Iff.trans k
      (λ h. (has-not.0 h.0, fitting.0 h.1.0, f.0 h.1.1), λ h. (has-not.1 h.0, (fitting.1 h.1, f.1 h.2)))

  -- A feed that answers as the definition's does is refused first by 9, 12 and 13, each exactly when rule 5.1 says.
  pub feed-order : {W : ℕ} → m.setting.limits.width ≡ W → (bs : List ℕ) (a : ℕ) (x : calls.Answer E) → (feed lent_to bs a).1 ≡ x
      → (x ≡ calls.refused 9) ↔ (m.failed ≡ true)
      → (x ≡ calls.refused 12) ↔ ((¬ (m.failed ≡ true)) × Misfits area_of m (length lent))
      → (x ≡ calls.refused 13) ↔ ((¬ (m.failed ≡ true)) × ((¬ Misfits area_of m (length lent)) × (a < 6 * m.setting.limits.width)))
      → ((n : ℕ) → 8 ≤ n → x ≡ calls.refused n → (feed lent_to bs a).0 ≡ lent_to)
      → FeedRefusals feed lend size h cs lent W bs a
  feed-order wide bs a x e k₉ k₁₂ k₁₃ keeps =
      record {
        nine = Iff.trans (same 9) (Iff.trans k₉ has-failed);
        twelve = Iff.trans (same 12) (twelve k₁₂);
        thirteen = Iff.trans (same 13) (later (λ q. subst (λ (w : ℕ). a < 6 * w) wide q, λ q. subst (λ (w : ℕ). a < 6 * w) (sym wide) q) k₁₃);
        keeps = λ n high q. keeps n high (sym e ∙ q);
      }
    where
      same : (n : ℕ) → ((feed lent_to bs a).1 ≡ calls.refused n) ↔ (x ≡ calls.refused n)
      same n = (λ q. sym e ∙ q, λ q. e ∙ q)

  module _ (finish : H → Palette → Concluded) (owner : Palette) (x : meant.Finished) (e : (finish lent_to owner).answer ≡ x) where
    down : (n : ℕ) → ((finish lent_to owner).answer ≡ meant.turned_down n) ↔ (x ≡ meant.turned_down n)
    down n = (λ q. sym e ∙ q, λ q. e ∙ q)

    -- A finish that answers as the definition's does is refused first by 9 and 12,
    pub finish-order : (x ≡ meant.turned_down 9) ↔ (m.failed ≡ true)
        → (x ≡ meant.turned_down 12) ↔ ((¬ (m.failed ≡ true)) × Misfits area_of m (length lent))
        → ((n : ℕ) → (finish lent_to owner).answer ≡ meant.turned_down n → ((finish lent_to owner).palette ≡ owner) × ((finish lent_to owner).canvas ≡ lent))
        → FinishRefusals feed lend size h cs lent finish owner
    finish-order k₉ k₁₂ keeps =
        record {
          nine = Iff.trans (down 9) (Iff.trans k₉ has-failed);
          twelve = Iff.trans (down 12) (twelve k₁₂);
          keeps = keeps;
        }

    -- and then by 8, where no answer has told an end.
    pub early-order : {X : Type 0} → X ↔ (have_ended answers ≡ false)
        → (x ≡ meant.turned_down 8) ↔ ((¬ (m.failed ≡ true)) × ((¬ Misfits area_of m (length lent)) × X))
        → FinishedEarly feed lend size h cs lent finish owner
    early-order f k₈ = Iff.trans (down 8) (later f k₈)

-- ---- the payload session's code

module _ (l : Limits) (stride : ℕ) (o : Settings) (p : Palette) (opening : List ℕ)
    (opens : calls.opens (limits_meant l) stride (length opening) ≡ true) (cs : List Ask) (lent : List ℕ) where
  -- what the opening hands back, and what the definition's session has come to
  abbrev first : Held
  first = held l stride o p opening

  abbrev past : PastMeant
  past = fed_all_meant (opened_meant l stride o p opening) (length opening) cs

  passed : history.Passes opening (fed_all (feed_with fed_by) first cs) past
  passed = history.history-stands (opened-stands l stride o p opening (may-open l stride (length opening) opens)) cs

  stands : Stands opening (fed_all payload_feed first cs).state.0 (fed_all payload_feed first cs).state.1 past.state
  stands = told-stands (feed_with fed_by) answer_meant first cs passed

  failed-so : past.state.failed ≡ have_failed (fed_all payload_feed first cs).answers
  failed-so =
      payload-failed (length opening) (opened_meant l stride o p opening) cs ∙ ap have_failed (sym (told-answers (feed_with fed_by) answer_meant first cs passed))

  long : past.state.length ≡ length opening
  long = payload-kept-length (length opening) (opened_meant l stride o p opening) cs

  width : past.state.setting.limits.width ≡ l.width
  unfolding setting_meant limits_meant calls.setting_for
  width = ap (λ (s : Setting). s.limits.width) (payload-kept-setting (length opening) (opened_meant l stride o p opening) cs)

  -- Feed 9, 12, 13, in this order, whatever the calls before and the canvas lent.
  pub feed-first : (bs : List ℕ) (a : ℕ) → FeedRefusals payload_feed payload_lend (length opening) first cs lent l.width bs a
  feed-first bs a =
      let n : ℕ = length lent in
      let e = payload-lent-answers stands long lent bs a in
      feed-order payload_feed payload_lend (length opening) first cs lent payload_area past.state failed-so (payload-misfits stands long lent) width bs a
      (calls.feed_payload past.state n a bs).answer e
      (payload-nine past.state n a bs) (payload-twelve past.state n a bs) (payload-thirteen past.state n a bs)
      (λ k high q. payload-lent-keeps stands long lent bs a k (payload-first past.state n a bs k high q))

  -- Finish 9, 12, the same.
  pub finish-first : (owner : Palette) → FinishRefusals payload_feed payload_lend (length opening) first cs lent payload_finish owner
  unfolding concluded_by
  finish-first owner =
      let n : ℕ = length lent in
      finish-order payload_feed payload_lend (length opening) first cs lent payload_area past.state failed-so (payload-misfits stands long lent)
      payload_finish owner (calls.finish_payload past.state n) (payload-lent-finishes stands long lent owner)
      (payload-finish-nine past.state n) (payload-finish-twelve past.state n)
      (concluded-keeps (finished_by (fed_all payload_feed first cs).state.0 owner lent)
      (payload-finish-keeps (fed_all payload_feed first cs).state.0 owner lent))

-- ---- after a refused opening

module _ (l : Limits) (stride : ℕ) (o : Settings) (p : Palette) (opening : List ℕ)
    (refuses : calls.opens (limits_meant l) stride (length opening) ≡ false) (canvas : List ℕ) where
  -- rule 5.8: A feed of what it hands back is 9 on any canvas, and leaves all as it was.
  pub refused-opening-feed : (bs : List ℕ) (a : ℕ)
      → let h : Held = ((opened_by l stride o p opening).0.session, canvas) in payload_feed h bs a ≡ (h, calls.refused 9)
  unfolding opened_by session_for fed_by fed_as feed_judged is_failed answer_meant number_of
  refused-opening-feed bs a = rw (opens-meant l stride (length opening) ∙ refuses) refl

  -- rule 5.8: A finish is 9, with the owner's palette and the canvas as they were.
  pub refused-opening-finish : (owner : Palette)
      → payload_finish ((opened_by l stride o p opening).0.session, canvas) owner ≡ record { answer = meant.turned_down 9; palette = owner; canvas = canvas }
  unfolding opened_by session_for finished_by finished_as finish_judged is_failed turned_away concluded_by finish_meant number_of
  refused-opening-finish owner = rw (opens-meant l stride (length opening) ∙ refuses) refl
