-- Laws of any session's feed and finish, by the refusals that come before the bytes (rules 5.2, 5.3).
use Prim.Native.Nat.{ℕ, ◌*◌, ◌≤◌}
use mathlib.Core.Bool.{false}
use mathlib.Core.Option.{Option, none, some}
use mathlib.Core.List.{List, [], ◌∷◌}
use mathlib.Core.Path.{◌≡◌, ap, ◌∙◌}
use borrow.Author.Tests.{le-ltb}
use Rattle.canvas.specs.Picture.{Area}
use Rattle.meaning.specs.Calls.{refused, Session, Fed, answered, first_of, misfits, feed_refusal, finish_session, feed}
use Rattle.meaning.specs.Drawing.{Setting}
use Rattle.meaning.specs.Payload.{Finished, turned_down}
use Rattle.meaning.specs.Reader.{Step, call}
use Rattle.meaning.proofs.Cases.{cond_no}

module _ {S E : Type 0} (area_of : S → Area) (step : Setting → S → ℕ → Step S) (rest : Setting → S → S) (end : S → Option E)
    (m : Session S) (size a : ℕ) where
  -- a feed by its refusal: refused, or read
  pub fed-as : (bs : List ℕ) {o : Option ℕ} → feed_refusal area_of m size a ≡ o
      → feed area_of step rest end m size a bs
      ≡ elim o as (λ _. Fed S E) [
        | none ↦ answered end m (call (step m.setting) (rest m.setting) a m.state bs)
        | some n ↦ record { answer = refused n; session = m }
      ]
  unfolding feed
  fed-as bs e =
      ap
      (λ (o : Option ℕ).
      elim o as (λ _. Fed S E) [
        | none ↦ answered end m (call (step m.setting) (rest m.setting) a m.state bs)
        | some n ↦ record { answer = refused n; session = m }
      ])
      e

  -- one that is refused neither 9, 12 nor 13 reads
  pub feed-answers : m.failed ≡ false → misfits area_of m size ≡ false → 6 * m.setting.limits.width ≤ a → (bs : List ℕ)
      → feed area_of step rest end m size a bs ≡ answered end m (call (step m.setting) (rest m.setting) a m.state bs)
  unfolding feed_refusal first_of
  feed-answers live fits enough bs =
      fed-as bs {o = none} (cond_no _ _ _ live ∙ cond_no _ _ _ fits ∙ cond_no _ _ _ (le-ltb a (6 * m.setting.limits.width) enough))

module _ {S : Type 0} (area_of : S → Area) (finish_state : Setting → S → Finished) (m : Session S) (size : ℕ) where
  -- a finish by its refusal: refused, or as the state is
  pub finished_as_lem : {o : Option ℕ}
      → first_of (record { holds = m.failed; number = 9 } ∷ record { holds = misfits area_of m size; number = 12 } ∷ []) ≡ o
      → finish_session area_of finish_state m size
      ≡ elim o as (λ _. Finished) [ none ↦ finish_state m.setting m.state | some n ↦ turned_down n ]
  unfolding finish_session
  finished_as_lem e = ap (λ (o : Option ℕ). elim o as (λ _. Finished) [ none ↦ finish_state m.setting m.state | some n ↦ turned_down n ]) e

  -- one that is refused neither 9 nor 12 is as the state is
  pub finish-answers : m.failed ≡ false → misfits area_of m size ≡ false
      → finish_session area_of finish_state m size ≡ finish_state m.setting m.state
  unfolding first_of
  finish-answers live fits = finished_as_lem {o = none} (cond_no _ _ _ live ∙ cond_no _ _ _ fits)
