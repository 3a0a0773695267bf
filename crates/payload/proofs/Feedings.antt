-- A feed of the code is the definition's.
use Rattle.std.specs.Prelude.{◌≡◌, ℕ, ◌-◌, Bool, true, false, cond, leb, List, [], ◌∷◌, length, Ok, Err}
use Prim.Native.Nat.{zero-le}
use native.Mathlib.Nat.{zero-add, sub-zero}
use mathlib.Core.Bool.{true≢false}
use mathlib.Core.Option.{Option, none, some}
use mathlib.Core.Path.{refl, sym, ap, ap₂, ◌∙◌, subst}
use Rattle.colours.specs.declared.Palette.{Palette}
use Rattle.frame.specs.declared.Frame.{Frame}
use Rattle.frame.specs.declared.Outcome.{Outcome}
use Rattle.frame.specs.declared.Outcome.TheVariants as outcomes
use Rattle.frame.specs.declared.Refusal.TheVariants as refusals
use Rattle.reference.specs.Step.{Reached}
use Rattle.reference.specs.Feed.{feed_from}
use Rattle.meaning.specs.Calls as calls
use Rattle.meaning.specs.Drawing as drawing
use Rattle.meaning.specs.Reader.{Step, next, halt, refuse, How, read_all, stopped, halted, refused_by, Run, still, after, follow, read_from, call}
use Rattle.meaning.specs.Sessions.{Reading, rested, read_byte, payload_step}
use Rattle.agreement.specs.Same as same
use Rattle.meaning.proofs.AreaLaws.{Leaves, leaves_map, call-keeps}
use Rattle.meaning.proofs.FeedingLaws.{fed-as}
use Rattle.meaning.proofs.PayloadLaws.{reading-parameters}
use Rattle.agreement.proofs.Feed.{EndsAlike, all_read, stopped_early, at_end, turned_down, FeedAgrees, feed-agrees}
use Rattle.payload.specs.declared.Answer.TheVariants as answers
use Rattle.payload.specs.Results.{Fed, Verdict}
use Rattle.payload.specs.declared.Life.{Life}
use Rattle.payload.specs.declared.Life.TheVariants as lives
use Rattle.payload.specs.declared.Session.{Session}
use Rattle.payload.specs.Refusals.{is_failed, feed_judged}
use Rattle.payload.specs.Session.{session_with, answered_in, answered_by, fed_live, fed_in, fed_as, fed_by}
use Rattle.payload.proofs.RefusalLaws.{passes}
use Rattle.payload.specs.History.{SameLife, Stands, Feeds}
use Rattle.payload.specs.Meant.{answer_meant}
use Rattle.payload.proofs.Judgements.{judged_meant, feed-judged}

-- the parameters stay
step-parameters : (s : drawing.Setting) (r : Reading) (b : ℕ) → Leaves (λ (t : Reading). t.parameters ≡ r.parameters) (payload_step s r b)
unfolding read_from still after follow
step-parameters s r b = go (payload_step s r b) (reading-parameters s r (b ∷ []))
  where
    go : (x : Step Reading) → (follow x (λ (t : Reading) (i : ℕ). after 1 i (still t read_all))).state.parameters ≡ r.parameters
        → Leaves (λ (t : Reading). t.parameters ≡ r.parameters) x
    go (next t i) e = e
    go (halt t) e = e
    go (refuse t n) e = e

-- so a call leaves them
pub call-parameters : (s : drawing.Setting) (a : ℕ) (r : Reading) (bs : List ℕ) → (call (payload_step s) (rested s) a r bs).state.parameters ≡ r.parameters
unfolding rested
call-parameters s a r bs =
    call-keeps (λ (t : Reading). t.parameters ≡ r.parameters) (payload_step s) (rested s)
    (λ t b h. leaves_map (λ u e. e ∙ h) (payload_step s t b) (step-parameters s t b)) (λ t h. h) a r bs refl

-- an ended payload reads no more
over-halts : (s : drawing.Setting) (r : Reading) (x : ℕ) {b : ℕ} → r.over ≡ some b → payload_step s r x ≡ halt r
unfolding payload_step
over-halts s r x e = ap (λ (o : Option ℕ). elim o as (λ _. Step Reading) [ none ↦ read_byte s r x | some n ↦ halt r ]) e

module _ {opening : List ℕ} {s : Session} {l : List ℕ} {m : calls.Session Reading} (k : Stands opening s l m) where
  -- the session after a call
  after-stands : {f : Frame} {p : Palette} {l₁ : List ℕ} (life : Life) (u : Reading) (failed : Bool)
      → u.parameters ≡ m.state.parameters → SameLife life failed u.over
      → same.SameDrawing m.setting opening u.drawing s.ground f p l₁ → (failed ≡ false → same.SameBegun u.begun f.command)
      → Stands opening (session_with s life f p) l₁ (calls.session_after m u failed)
  unfolding session_with calls.session_after
  after-stands life u failed e h d b =
      record { setting = k.setting; long = k.long; parameters = e ∙ k.parameters; life = h; drawing = d; begun = b }

  module _ (q : Run Reading) (t : Reached) (kept : q.state.parameters ≡ m.state.parameters)
      (consumed : t.progress.consumed ≡ q.consumed) (ink : t.progress.ink ≡ q.ink) where
    -- the code's answer with an outcome, the definition's with a way that the call came to its end
    coded : Outcome → Fed × List ℕ
    coded o = (answered_in o s t.progress t.palette, t.canvas)

    defined : How → Option ℕ → calls.Fed Reading ℕ
    defined how over =
        calls.answered (λ (_ : Reading). over) m (record { state = q.state; consumed = q.consumed; ink = q.ink; how = how })

    counted : (x : calls.Status ℕ) → calls.told t.progress.consumed t.progress.ink x ≡ calls.told q.consumed q.ink x
    counted x = ap₂ (λ (n i : ℕ). calls.told n i x) consumed ink

    ends-feed : (how : How) → EndsAlike m.setting opening s.ground how q.state t
        → Feeds opening (coded t.progress.outcome) (defined how q.state.over)
    unfolding coded defined answered_in answer_meant calls.answered calls.tells calls.at_end
    ends-feed read_all (all_read over o d) =
        subst (λ (x : Outcome). Feeds opening (coded x) (defined read_all q.state.over)) (sym o)
        (subst (λ (y : Option ℕ). Feeds opening (coded outcomes.Read) (defined read_all y)) (sym over)
        (record { answer = counted calls.needs_more; session = after-stands lives.Live q.state false kept (refl, over) d.drawing (λ _. d.begun) }))
    ends-feed stopped (stopped_early over o d) =
        subst (λ (x : Outcome). Feeds opening (coded x) (defined stopped q.state.over)) (sym o)
        (record { answer = counted calls.stopped_for_ink; session = after-stands lives.Live q.state false kept (refl, over) d.drawing (λ _. d.begun) })
    ends-feed halted (at_end b over o d) =
        subst (λ (x : Outcome). Feeds opening (coded x) (defined halted q.state.over)) (sym o)
        (subst (λ (y : Option ℕ). Feeds opening (coded (outcomes.Ended b)) (defined halted y)) (sym over)
        (record { answer = counted (calls.ended b); session = after-stands (lives.Ended b) q.state false kept (refl, over) d.drawing (λ _. d.begun) }))
    ends-feed (refused_by n) (turned_down why e o d) =
        subst (λ (x : Outcome). Feeds opening (coded x) (defined (refused_by n) q.state.over)) (sym o)
        (record { answer = ap calls.refused e; session = after-stands lives.Failed q.state true kept refl d (λ h. absurd (true≢false h)) })

  -- bytes read by a live session
  pub live-agrees : (a : ℕ) (bs : List ℕ) → m.failed ≡ false → m.state.over ≡ none
      → FeedAgrees m.setting opening s.ground 0 0 (call (payload_step m.setting) (rested m.setting) a m.state bs)
      (feed_from s.ground a bs 0 0 s.frame s.palette l)
  live-agrees a bs h over =
      subst
      (λ (n : ℕ).
      FeedAgrees m.setting opening s.ground 0 0 (call (payload_step m.setting) (rested m.setting) n m.state bs)
      (feed_from s.ground a bs 0 0 s.frame s.palette l))
      (sub-zero a)
      (feed-agrees {r = m.state} a bs 0 0 zero-le (record { drawing = k.drawing; begun = k.begun h }) over)

  live-feeds : (a : ℕ) (bs : List ℕ) → m.failed ≡ false → m.state.over ≡ none
      → Feeds opening (fed_live s l bs a) (calls.answered (λ (r : Reading). r.over) m (call (payload_step m.setting) (rested m.setting) a m.state bs))
  unfolding fed_live answered_by coded defined calls.answered
  live-feeds a bs h over =
      let q : Run Reading = call (payload_step m.setting) (rested m.setting) a m.state bs in
      let t : Reached = feed_from s.ground a bs 0 0 s.frame s.palette l in
      let g : FeedAgrees m.setting opening s.ground 0 0 q t = live-agrees a bs h over in
      ends-feed q t (call-parameters m.setting a m.state bs) (g.consumed ∙ zero-add _) (g.ink ∙ zero-add _) q.how g.ends

  -- an ended session repeats its end
  unended : m.failed ≡ false → Stands opening s l (calls.session_after m m.state false)
  unfolding calls.session_after
  unended h = subst (λ (f : Bool). Stands opening s l (calls.session_after m m.state f)) h k

  again-feeds : {b : ℕ} → m.failed ≡ false → m.state.over ≡ some b
      → Feeds opening (record { answer = Ok (answers.Ended 0 0 b); session = s }, l)
      (record { answer = calls.told 0 0 (calls.at_end m.state.over); session = calls.session_after m m.state false })
  unfolding answer_meant calls.at_end
  again-feeds h over = record { answer = ap (λ (o : Option ℕ). calls.told 0 0 (calls.at_end o)) (sym over); session = unended h }

  ended-feeds : (a : ℕ) (bs : List ℕ) {b : ℕ} → m.failed ≡ false → m.state.over ≡ some b
      → Feeds opening (record { answer = Ok (answers.Ended 0 0 b); session = s }, l)
      (calls.answered (λ (r : Reading). r.over) m (call (payload_step m.setting) (rested m.setting) a m.state bs))
  unfolding call follow still calls.answered calls.tells
  ended-feeds a [] h over = again-feeds h over
  ended-feeds a (x ∷ bs) {b} h over =
      subst
      (λ (y : Step Reading).
      Feeds opening (record { answer = Ok (answers.Ended 0 0 b); session = s }, l)
      (calls.answered (λ (r : Reading). r.over) m
      (follow y
      (λ (t : Reading) (i : ℕ).
      cond (leb i a) (after 1 i (call (payload_step m.setting) (rested m.setting) (a - i) t bs))
      (still (rested m.setting m.state) stopped)))))
      (sym (over-halts m.setting m.state x over))
      (again-feeds h over)

  -- a session that passes 9, 12 and 13, whatever its life
  passed-feeds : (a : ℕ) (bs : List ℕ) (size : ℕ) → feed_judged s size a ≡ Ok tt → (life : Life) → s.life ≡ life
      → Feeds opening (fed_in life s l bs a)
      (calls.answered (λ (r : Reading). r.over) m (call (payload_step m.setting) (rested m.setting) a m.state bs))
  unfolding fed_in feed_judged is_failed
  passed-feeds a bs size e lives.Live q =
      let h : SameLife lives.Live m.failed m.state.over = subst (λ (x : Life). SameLife x m.failed m.state.over) q k.life in
      live-feeds a bs h.0 h.1
  passed-feeds a bs size e (lives.Ended b) q =
      let h : SameLife (lives.Ended b) m.failed m.state.over = subst (λ (x : Life). SameLife x m.failed m.state.over) q k.life in
      ended-feeds a bs h.0 h.1
  passed-feeds a bs size e lives.Failed q =
      let h : is_failed s.life ≡ false = (passes refusals.Failed (is_failed s.life) _ e).0 in
      absurd (true≢false (ap is_failed (sym q) ∙ h))

-- a feed of the code is the definition's
pub feed-stands : {opening : List ℕ} {s : Session} {l : List ℕ} {m : calls.Session Reading} → Stands opening s l m → (bytes : List ℕ) (allowance : ℕ)
    → Feeds opening (fed_by s l bytes allowance) (calls.feed_payload m (length l) allowance bytes)
unfolding fed_by fed_as judged_meant answer_meant calls.feed_payload
feed-stands {opening} {s} {l} {m} k bs a = go (feed_judged s (length l) a) refl
  where
    go : (j : Verdict) → feed_judged s (length l) a ≡ j → Feeds opening (fed_as j s l bs a) (calls.feed_payload m (length l) a bs)
    go (Ok tt) e =
        subst (Feeds opening (fed_in s.life s l bs a))
        (sym (fed-as (λ (r : Reading). r.drawing.area) payload_step rested (λ (r : Reading). r.over) m (length l) a bs
        (sym (feed-judged k (length l) a) ∙ ap judged_meant e)))
        (passed-feeds k a bs (length l) e s.life refl)
    go (Err n) e =
        subst (Feeds opening (record { answer = Err n; session = s }, l))
        (sym (fed-as (λ (r : Reading). r.drawing.area) payload_step rested (λ (r : Reading). r.over) m (length l) a bs
        (sym (feed-judged k (length l) a) ∙ ap judged_meant e))) (record { answer = refl; session = k })
