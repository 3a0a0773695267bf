-- Invariants: what every step of a session's state keeps, and every stop, the session keeps in any calls, refused or not.
use Prim.Native.Nat.{ℕ}
use mathlib.Core.Bool.{true}
use mathlib.Core.Option.{Option, none, some}
use mathlib.Core.List.{List, [], ◌∷◌}
use mathlib.Core.Path.{◌≡◌, subst, sym}
use Rattle.canvas.specs.Picture.{Area}
use Rattle.meaning.specs.Drawing.{Setting}
use Rattle.meaning.specs.Reader.{How, read_all, stopped, halted, refused_by, Step, Run, call}
use Rattle.meaning.specs.Calls.{Session, Fed, Answer, refused, stopped_for_ink, at_end, tells, session_after, answered, feed_refusal, feed}
use Rattle.meaning.specs.Callers.{Ask, fed_all}
use Rattle.meaning.proofs.StepLaws.{Leaves, call-keeps}

-- what the state keeps in every step and in every stop, a session keeps in any calls, with its setting
module _ {S E : Type 0} (area_of : S → Area) (step : Setting → S → ℕ → Step S) (rest : Setting → S → S) (end : S → Option E)
    (s : Setting) (P : S → Type 0)
    (keep : (t : S) (b : ℕ) → P t → Leaves P (step s t b)) (stop : (t : S) → P t → P (rest s t)) where
  abbrev pub Kept : Session S → Type 0
  Kept m = (m.setting ≡ s) × P m.state

  answered-kept : (m : Session S) (r : Run S) → m.setting ≡ s → P r.state → Kept (answered end m r).session
  unfolding answered tells session_after
  answered-kept m r e h = go r.how
    where
      go : (x : How) → Kept (elim x as (λ _. Fed S E) [
        | read_all ↦ tells m r (at_end (end r.state))
        | stopped ↦ tells m r stopped_for_ink
        | halted ↦ tells m r (at_end (end r.state))
        | refused_by n ↦ record { answer = refused n; session = session_after m r.state true }
      ]).session
      go read_all = (e, h)
      go stopped = (e, h)
      go halted = (e, h)
      go (refused_by n) = (e, h)

  pub feed-kept : (m : Session S) (size a : ℕ) (bs : List ℕ) → Kept m → Kept (feed area_of step rest end m size a bs).session
  unfolding feed
  feed-kept m size a bs h = go (feed_refusal area_of m size a)
    where
      r : Run S
      r = call (step m.setting) (rest m.setting) a m.state bs

      read : P r.state
      read =
          subst (λ (x : Setting). P (call (step x) (rest x) a m.state bs).state) (sym h.0)
          (call-keeps P (step s) (rest s) keep stop a m.state bs h.1)

      go : (o : Option ℕ)
          → Kept (elim o as (λ _. Fed S E) [ none ↦ answered end m r | some n ↦ record { answer = refused n; session = m } ]).session
      go none = answered-kept m r h.0 read
      go (some n) = h

  -- and in any calls, on a canvas of so many bytes
  abbrev pub fed_on : ℕ → Session S → List ℕ → ℕ → Session S × Answer E
  fed_on size m bs a = let x : Fed S E = feed area_of step rest end m size a bs in (x.session, x.answer)

  pub calls-kept : (size : ℕ) (m : Session S) (cs : List Ask) → Kept m → Kept (fed_all (fed_on size) m cs).state
  unfolding fed_all
  calls-kept size m [] h = h
  calls-kept size m (c ∷ cs) h =
      calls-kept size (fed_on size m c.bytes c.allowance).0 cs (feed-kept m size c.allowance c.bytes h)
