-- A caller of the code that presents what was left unread stands where the definition's caller does.
use Rattle.std.specs.Prelude.{◌≡◌, ℕ, ◌*◌, ◌≤◌, true, false, List, ◌++◌, length}
use native.Mathlib.Omega.{arith}
use mathlib.Core.Bool.{true≢false}
use mathlib.Core.Option.{Option, none, some}
use mathlib.Core.Path.{refl, sym, ap, ◌∙◌, subst}
use Rattle.frame.specs.declared.Ground.{Ground}
use Rattle.reference.specs.Step.{Reached}
use Rattle.meaning.specs.Calls as calls
use Rattle.meaning.specs.Callers as callers
use Rattle.meaning.specs.Callers.{status_told, after_feed}
use Rattle.meaning.specs.Drawing.{Setting}
use Rattle.meaning.specs.Payload.{Parameters}
use Rattle.meaning.specs.Reader.{How, read_all, stopped, halted, refused_by, is_refused, Run, still, call, Turn, piece_of, allowance_of, Caller, may_call, having, turn, turns, proper}
use Rattle.meaning.specs.Sessions.{Reading, rested, payload_step}
use Rattle.meaning.proofs.CallLaws as call_laws
use Rattle.meaning.proofs.CallerLaws.{not-refused}
use Rattle.meaning.proofs.Demand3.{payload-halts}
use Rattle.meaning.proofs.FeedingLaws.{feed-answers}
use Rattle.meaning.proofs.HistoryLaws.{StaysHalted, halts-again}
use Rattle.meaning.proofs.ToldLaws as told_laws
use Rattle.meaning.proofs.ToldLaws.{end_told, Tells, answered-tells, answered-leaves, Learned, learned-more, answer-status}
use Rattle.agreement.proofs.Feed.{EndsAlike, all_read, stopped_early, at_end, turned_down}
use Rattle.payload.specs.Results.{Fed}
use Rattle.payload.specs.Session.{fed_by}
use Rattle.payload.specs.History.{Stands, Feeds, Held, tell_with, called, calls_of, proper_calls}
use Rattle.payload.specs.Meant.{answer_meant}
use Rattle.payload.proofs.Judgements.{stands-long, stands-fit}
use Rattle.payload.proofs.Feedings.{call-parameters, live-agrees, feed-stands}

-- ---- what a call's answer tells

-- the end has come exactly where a call halted
abbrev OverAs : How → Option ℕ → Type 0
OverAs read_all over = over ≡ none
OverAs stopped over = over ≡ none
OverAs halted over = over ≡ none → ⊥
OverAs (refused_by n) over = Unit {0}

ends-over : {s : Setting} {opening : List ℕ} {g : Ground} {how : How} {u : Reading} {t : Reached} → EndsAlike s opening g how u t → OverAs how u.over
ends-over (all_read over o d) = over
ends-over (stopped_early over o d) = over
ends-over (at_end b over o d) = λ z. let never : ◌≡◌ {A = ℕ} 0 1 = cc in omega arith
ends-over (turned_down why e o d) = tt

over-halted : (how : How) (over : Option ℕ) {b : ℕ} → OverAs how over → over ≡ some b → is_refused how ≡ false → how ≡ halted
unfolding is_refused
over-halted read_all over h e fine = cc
over-halted stopped over h e fine = cc
over-halted halted over h e fine = refl
over-halted (refused_by n) over h e fine = absurd (true≢false fine)

over-told : (how : How) (over : Option ℕ) → OverAs how over → end_told how over ≡ how
unfolding end_told
over-told read_all over h = ap (end_told read_all) h
over-told stopped over h = refl
over-told halted none h = absurd (h refl)
over-told halted (some b) h = refl
over-told (refused_by n) over h = refl

-- ---- a caller of the code, and one of the definition

-- the definition's session that a caller has
abbrev pub session_at : Setting → ℕ → Caller Reading → calls.Session Reading
session_at s size k = record { setting = s; length = size; state = k.state; failed = is_refused k.how }

-- session and canvas stand for the session, which has these parameters; what was told is what the definition's caller came to, and an ended
-- caller stays so
pub record CallerStands (opening : List ℕ) (s : Setting) (o : Parameters) (c : Caller Held) (k : Caller Reading) : Type 0 where
  pub session : Stands opening c.state.0 c.state.1 (session_at s (length opening) k)
  pub parameters : k.state.parameters ≡ o
  pub learned : Learned k.how c k
  pub over : {b : ℕ} → k.state.over ≡ some b → is_refused k.how ≡ false → k.how ≡ halted
  pub stays : StaysHalted (payload_step s) (rested s) k

module _ {opening : List ℕ} {s : Setting} {o : Parameters} {c : Caller Held} {k : Caller Reading} (h : CallerStands opening s o c k) (a : ℕ) (z : List ℕ)
    (live : is_refused k.how ≡ false) (enough : 6 * s.limits.width ≤ a) where
  -- what is presented, and the definition's call
  presented : List ℕ
  presented = k.unread ++ z

  run : Run Reading
  run = call (payload_step s) (rested s) a k.state presented

  m : calls.Session Reading
  m = session_at s (length opening) k

  run-over : OverAs run.how run.state.over
  unfolding run presented still
  run-over = go k.state.over refl
    where
      go : (over : Option ℕ) → k.state.over ≡ over → OverAs run.how run.state.over
      go none e = ends-over (live-agrees h.session a presented live e).ends
      go (some b) e =
          let again : run ≡ still k.state halted = h.stays (h.over e live) a z in
          subst (λ (q : Run Reading). OverAs q.how q.state.over) (sym again)
          (λ none_yet. let never : ◌≡◌ {A = ℕ} 0 1 = cc in omega arith)

  abbrev fed : Fed × List ℕ
  fed = fed_by c.state.0 c.state.1 (c.unread ++ z) a

  -- the code's feed is that call, answered
  fed-feeds : Feeds opening fed (calls.answered (λ (r : Reading). r.over) m run)
  unfolding m run presented calls.feed_payload
  fed-feeds =
      subst (λ (us : List ℕ). Feeds opening (fed_by c.state.0 c.state.1 (us ++ z) a) (calls.answered (λ (r : Reading). r.over) m run))
      (sym (h.learned.unread live))
      (subst (Feeds opening (fed_by c.state.0 c.state.1 presented a))
      (feed-answers (λ (r : Reading). r.drawing.area) payload_step rested (λ (r : Reading). r.over) m (length opening) a live
      (stands-fit h.session) enough presented)
      (subst (λ (n : ℕ). Feeds opening (fed_by c.state.0 c.state.1 presented a) (calls.feed_payload m n a presented)) (stands-long h.session)
      (feed-stands h.session presented a)))

  after-stands : CallerStands opening s o (after_feed c (c.unread ++ z) (fed.0.session, fed.1) (answer_meant fed.0.answer))
      (having (payload_step s) (rested s) k presented run)
  unfolding after_feed having calls.session_after run m presented
  after-stands =
      let f : Feeds opening fed (calls.answered (λ (r : Reading). r.over) m run) = fed-feeds in
      let tells = answered-tells (λ (r : Reading). r.over) m run in
      record {
        session = subst (Stands opening fed.0.session fed.1) (answered-leaves (λ (r : Reading). r.over) m run) f.session;
        parameters = call-parameters s a k.state presented ∙ h.parameters;
        learned =
            learned-more (payload_step s) (rested s) h.learned live z (fed.0.session, fed.1)
            (subst (λ (x : calls.Answer ℕ). Tells run.how run x) (sym f.answer)
            (subst (λ (said : How). Tells said run (calls.answered (λ (r : Reading). r.over) m run).answer)
            (over-told run.how run.state.over run-over)
            tells));
        over = λ e fine. over-halted run.how run.state.over run-over e fine;
        stays = halts-again (payload_step s) (rested s) (payload-halts s) (call_laws.called (payload_step s) (rested s) a k.state presented);
      }

-- ---- all calls of a caller

module _ {opening : List ℕ} {s : Setting} {o : Parameters} (A : ℕ) (enough : 6 * s.limits.width ≤ A) where
  -- one more call
  turn-stands : (c : Caller Held) (k : Caller Reading) → CallerStands opening s o c k → (t : Turn) → A ≤ allowance_of t → may_call t k.how ≡ true
      → CallerStands opening s o (called c t) (turn (payload_step s) (rested s) k t)
  unfolding callers.called turn run presented
  turn-stands c k h t allowed may = after-stands h (allowance_of t) (piece_of t) (not-refused t k.how may) (omega arith)

  -- the same calls may be made
  may-there : (c : Caller Held) (k : Caller Reading) → CallerStands opening s o c k → (t : Turn) → may_call t c.how ≡ true → may_call t k.how ≡ true
  may-there c k h t may = sym (ap (may_call t) h.learned.how) ∙ may

  -- any calls that may be made come to the same, and may be made of the definition too
  pub calls-stand : {c : Caller Held} {k : Caller Reading} → CallerStands opening s o c k → (ts : List Turn) → proper_calls A c ts ≡ true
      → CallerStands opening s o (calls_of c ts) (turns (payload_step s) (rested s) k ts) × (proper (payload_step s) (rested s) A k ts ≡ true)
  calls-stand =
      told_laws.calls-stand (tell_with fed_by) (payload_step s) (rested s) (CallerStands opening s o) A may-there turn-stands

  -- a call that neither stopped nor was refused tells whether the end has come
  turn-tells : (c : Caller Held) (k : Caller Reading) → CallerStands opening s o c k → (t : Turn) → A ≤ allowance_of t
      → may_call t k.how ≡ true → (x : calls.Status ℕ)
      → ((called c t).how ≡ stopped → ⊥) → is_refused (called c t).how ≡ false
      → status_told x (tell_with fed_by c.state (c.unread ++ piece_of t) (allowance_of t)).1 ≡ calls.at_end (turn (payload_step s) (rested s) k t).state.over
  unfolding callers.called after_feed turn having run presented
  turn-tells c k h t allowed may x =
      answer-status (λ (r : Reading). r.over) (m h (allowance_of t) (piece_of t) (not-refused t k.how may) (omega arith))
      (run h (allowance_of t) (piece_of t) (not-refused t k.how may) (omega arith)) x
      (fed-feeds h (allowance_of t) (piece_of t) (not-refused t k.how may) (omega arith)).answer

  -- and so does the last of any calls
  pub status-stands : {c : Caller Held} {k : Caller Reading} → CallerStands opening s o c k → (x : calls.Status ℕ)
      → ((c.how ≡ stopped → ⊥) → is_refused c.how ≡ false → x ≡ calls.at_end k.state.over)
      → (ts : List Turn) → proper_calls A c ts ≡ true → ((calls_of c ts).how ≡ stopped → ⊥) → is_refused (calls_of c ts).how ≡ false
      → callers.last_status (tell_with fed_by) x c ts ≡ calls.at_end (turns (payload_step s) (rested s) k ts).state.over
  status-stands =
      told_laws.status-stands (tell_with fed_by) (payload_step s) (rested s) (CallerStands opening s o) A may-there turn-stands
      (λ (r : Reading). r.over) turn-tells
