-- A caller of the code that presents what was left unread stands where the definition's caller does.
use Rattle.std.specs.Prelude.{◌≡◌, ℕ, ◌*◌, ◌≤◌, true, false, List, ◌++◌, length}
use native.Mathlib.Omega.{arith}
use mathlib.Core.Path.{sym, ap, ◌∙◌, subst}
use Rattle.colours.specs.declared.Palette.{Palette}
use Rattle.frame.specs.declared.Limits.{Limits}
use Rattle.meaning.specs.Calls as calls
use Rattle.meaning.specs.Callers as callers
use Rattle.meaning.specs.Callers.{status_told, after_feed}
use Rattle.meaning.specs.Drawing.{Setting}
use Rattle.meaning.specs.Reader.{Step, stopped, is_refused, Run, call, Turn, piece_of, allowance_of, Caller, may_call, having, turn, turns, proper}
use Rattle.meaning.specs.Sessions.{End, Phase, dcs_step, dcs_rested, finish_dcs}
use Rattle.meaning.proofs.CallerLaws.{not-refused}
use Rattle.meaning.proofs.FeedingLaws.{feed-answers, finish-answers}
use Rattle.meaning.proofs.ToldLaws as told_laws
use Rattle.meaning.proofs.ToldLaws.{end_told, may-told, Tells, answered-tells, answered-leaves, Learned, learned-more, answer-status}
use Rattle.payload.specs.Meant.{setting_meant}
use Rattle.dcs.specs.Results.{Fed}
use Rattle.dcs.specs.Session.{fed_by}
use Rattle.dcs.specs.History.{held_at, Stands, Feeds, Held, tell_held, called, calls_of, proper_calls}
use Rattle.dcs.specs.Meant.{answer_meant}
use Rattle.dcs.proofs.Within.{area_of}
use Rattle.dcs.proofs.Standing.{feed-stands, stands-long, stands-fit}

module _ (l : Limits) (stride : ℕ) (p : Palette) (opening : List ℕ) where
  abbrev pub setting : Setting
  setting = setting_meant l stride (length opening)

  -- the definition's session that a caller has
  abbrev pub session_at : Caller Phase → calls.Session Phase
  session_at k = held_at l stride (length opening) k.state (is_refused k.how)

  -- session and canvas stand for the session; what was told is what the definition's caller came to
  pub record CallerStands (c : Caller Held) (k : Caller Phase) : Type 0 where
    pub session : Stands l stride p opening c.state.0 c.state.1 (session_at k)
    pub learned : Learned (end_told k.how (calls.dcs_end k.state)) c k

  -- a finish, unless the caller was refused, is judged by nothing but the state that the definition has come to
  pub finish-there : {c : Caller Held} {k : Caller Phase} → CallerStands c k → is_refused k.how ≡ false
      → calls.finish_dcs_session (session_at k) (length c.state.1) ≡ finish_dcs setting k.state
  unfolding calls.finish_dcs_session
  finish-there {k = k} h fine =
      ap (calls.finish_dcs_session (session_at k)) (stands-long l stride p opening h.session)
      ∙ finish-answers area_of finish_dcs (session_at k) (length opening) fine (stands-fit l stride p opening h.session)

  -- the definition's step, and its state as a stop leaves it
  abbrev step : Phase → ℕ → Step Phase
  step = dcs_step setting p

  abbrev rested : Phase → Phase
  rested = dcs_rested setting

  module _ {c : Caller Held} {k : Caller Phase} (h : CallerStands c k) (a : ℕ) (z : List ℕ) (live : is_refused k.how ≡ false)
      (enough : 6 * setting.limits.width ≤ a) where
    -- what is presented, the definition's call, and the code's
    abbrev pub presented : List ℕ
    presented = k.unread ++ z

    abbrev pub run : Run Phase
    run = call step rested a k.state presented

    abbrev fed_with : List ℕ → Fed × List ℕ
    fed_with bs = fed_by c.state.0 c.state.1 bs a

    abbrev pub fed : Fed × List ℕ
    fed = fed_with (c.unread ++ z)

    abbrev answer : calls.Fed Phase End
    answer = calls.answered calls.dcs_end (session_at k) run

    -- the code's feed is that call, answered
    pub fed-feeds : Feeds l stride p opening fed answer
    unfolding calls.feed_dcs
    fed-feeds =
        subst (λ (us : List ℕ). Feeds l stride p opening (fed_with (us ++ z)) answer) (sym (h.learned.unread live))
        (subst (Feeds l stride p opening (fed_with presented))
        (feed-answers area_of (λ s. dcs_step s p) dcs_rested calls.dcs_end (session_at k) (length opening) a live
        (stands-fit l stride p opening h.session) enough presented)
        (subst (λ (n : ℕ). Feeds l stride p opening (fed_with presented) (calls.feed_dcs p (session_at k) n a presented))
        (stands-long l stride p opening h.session) (feed-stands l stride p opening h.session presented a)))

    after-stands : CallerStands
        (after_feed c (c.unread ++ z) (fed.0.session, fed.1) (answer_meant fed.0.answer))
        (having step rested k presented run)
    unfolding after_feed having calls.session_after
    after-stands =
        let f : Feeds l stride p opening fed answer = fed-feeds in
        record {
          session =
              subst (Stands l stride p opening fed.0.session fed.1) (answered-leaves calls.dcs_end (session_at k) run) f.session;
          learned =
              learned-more step rested h.learned live z (fed.0.session, fed.1)
              (subst (Tells (end_told run.how (calls.dcs_end run.state)) run) (sym f.answer)
              (answered-tells calls.dcs_end (session_at k) run));
        }

  -- ---- all calls of a caller

  -- the same calls may be made
  pub may-there : (c : Caller Held) (k : Caller Phase) → CallerStands c k → (t : Turn)
      → may_call t c.how ≡ true → may_call t k.how ≡ true
  may-there c k h t may = sym (may-told t k.how (calls.dcs_end k.state)) ∙ sym (ap (may_call t) h.learned.how) ∙ may

  module _ (A : ℕ) (enough : 6 * setting.limits.width ≤ A) where
    -- one more call
    turn-stands : (c : Caller Held) (k : Caller Phase) → CallerStands c k → (t : Turn) → A ≤ allowance_of t → may_call t k.how ≡ true
        → CallerStands (called c t) (turn step rested k t)
    unfolding callers.called turn
    turn-stands c k h t allowed may = after-stands h (allowance_of t) (piece_of t) (not-refused t k.how may) (omega arith)

    -- any calls that may be made come to the same, and may be made of the definition too
    pub calls-stand : {c : Caller Held} {k : Caller Phase} → CallerStands c k → (ts : List Turn) → proper_calls A c ts ≡ true
        → CallerStands (calls_of c ts) (turns step rested k ts) × (proper step rested A k ts ≡ true)
    calls-stand = told_laws.calls-stand tell_held step rested CallerStands A may-there turn-stands

    -- a call that neither stopped nor was refused tells whether the end has come
    turn-tells : (c : Caller Held) (k : Caller Phase) → CallerStands c k → (t : Turn)
        → A ≤ allowance_of t → may_call t k.how ≡ true → (x : calls.Status End)
        → ((called c t).how ≡ stopped → ⊥) → is_refused (called c t).how ≡ false
        → status_told x (tell_held c.state (c.unread ++ piece_of t) (allowance_of t)).1
        ≡ calls.at_end (calls.dcs_end (turn step rested k t).state)
    unfolding callers.called after_feed turn having
    turn-tells c k h t allowed may x =
        let live : is_refused k.how ≡ false = not-refused t k.how may in
        answer-status calls.dcs_end (session_at k) (call step rested (allowance_of t) k.state (k.unread ++ piece_of t)) x
        (fed-feeds h (allowance_of t) (piece_of t) live (omega arith)).answer

    -- and so does the last of any calls
    pub status-stands : {c : Caller Held} {k : Caller Phase} → CallerStands c k → (x : calls.Status End)
        → ((c.how ≡ stopped → ⊥) → is_refused c.how ≡ false → x ≡ calls.at_end (calls.dcs_end k.state))
        → (ts : List Turn) → proper_calls A c ts ≡ true → ((calls_of c ts).how ≡ stopped → ⊥) → is_refused (calls_of c ts).how ≡ false
        → callers.last_status tell_held x c ts ≡ calls.at_end (calls.dcs_end (turns step rested k ts).state)
    status-stands = told_laws.status-stands tell_held step rested CallerStands A may-there turn-stands calls.dcs_end turn-tells
