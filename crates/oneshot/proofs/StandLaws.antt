-- One feed of a session that has come to no end, in the definition's terms.
use Rattle.std.specs.Prelude.{◌≡◌, ℕ, ◌*◌, ◌<◌, ◌≤◌, Bool, true, false, List, [], ◌∷◌, length}
use mathlib.Core.Option.{some}
use mathlib.Core.Path.{refl, sym, ap, subst, ◌∙◌}
use native.Mathlib.Nat.{zero-add}
use native.Mathlib.Omega.{arith}
use Rattle.meaning.specs.Calls as calls
use Rattle.meaning.specs.Callers as callers
use Rattle.meaning.specs.Callers.{how_told, consumed_told, after_feed}
use Rattle.meaning.specs.Drawing.{Setting}
use Rattle.meaning.specs.Reader.{How, read_all, stopped, halted, is_refused, Run, call, fresh, piece_of, allowance_of, Caller, may_call, having, turn, turns}
use Rattle.meaning.specs.Sessions.{Reading, rested, payload_step, finish_reading}
use Rattle.meaning.proofs.CallLaws.{call-stop-reads}
use Rattle.meaning.proofs.Demand3.{payload-caps}
use Rattle.meaning.proofs.FeedingLaws.{finish-answers}
use Rattle.meaning.proofs.ToldLaws.{proper-one}
use Rattle.payload.specs.Results.{Fed}
use Rattle.payload.specs.declared.Session.{Session}
use Rattle.payload.specs.History.{Stands, Held, tell_with, calls_of, proper_calls}
use Rattle.payload.specs.Meant.{answer_meant}
use Rattle.payload.specs.Session.{fed_by}
use Rattle.payload.proofs.Callers.{CallerStands, calls-stand}
use Rattle.payload.proofs.Judgements.{stands-long, stands-fit}

-- the definition's session in a state, on a canvas as long as at the opening
abbrev pub session_in : List ℕ → Setting → Reading → Bool → calls.Session Reading
session_in opening t r failed = record { setting = t; length = length opening; state = r; failed = failed }

-- a session and its canvas stand for a live one of the definition, which has come to no end
pub record Lives (opening : List ℕ) (t : Setting) (r : Reading) (s : Session) (l : List ℕ) : Type 0 where
  pub stands : Stands opening s l (session_in opening t r false)
  pub going : {b : ℕ} → r.over ≡ some b → ⊥

-- a feed told what the definition's call came to, and left a session and a canvas that stand for what that left
pub record Ran (opening : List ℕ) (t : Setting) (q : Run Reading) (x : Fed) (l : List ℕ) : Type 0 where
  pub how : how_told (answer_meant x.answer) ≡ q.how
  pub consumed : is_refused q.how ≡ false → consumed_told (answer_meant x.answer) ≡ q.consumed
  pub stands : Stands opening x.session l (session_in opening t q.state (is_refused q.how))
  pub over : {b : ℕ} → q.state.over ≡ some b → is_refused q.how ≡ false → q.how ≡ halted

-- a call that read all its bytes, or stopped, is neither refused nor halted
pub read-on : {h : How} → h ≡ read_all → h ≡ halted → ⊥
read-on e z = let never : ◌≡◌ {A = ℕ} 0 1 = cc in omega arith

pub stopped-on : {h : How} → h ≡ stopped → h ≡ halted → ⊥
stopped-on e z = let never : ◌≡◌ {A = ℕ} 0 1 = cc in omega arith

module _ {opening : List ℕ} {t : Setting} {r : Reading} {s : Session} {l : List ℕ} (k : Lives opening t r s l)
    {a : ℕ} (enough : 6 * t.limits.width ≤ a) (bs : List ℕ) where
  -- a caller that has fed nothing yet, of the code and of the definition
  code : Caller Held
  code = record { state = (s, l); unread = []; consumed = 0; ink = 0; how = read_all }

  meant : Caller Reading
  meant = record { state = r; unread = []; consumed = 0; ink = 0; how = read_all }

  before : CallerStands opening t r.parameters code meant
  unfolding code meant is_refused
  before =
      record {
        session = k.stands;
        parameters = refl;
        learned = record { how = refl; unread = λ _. refl; consumed = λ _. refl; ink = λ _. refl };
        over = λ e fine. absurd (k.going e);
        stays = λ e. absurd (read-on refl e);
      }

  proper : proper_calls a code (fresh bs a ∷ []) ≡ true
  unfolding code may_call allowance_of
  proper = proper-one (tell_with fed_by) a code (fresh bs a) (omega arith) refl

  after_one : CallerStands opening t r.parameters (calls_of code (fresh bs a ∷ []))
      (turns (payload_step t) (rested t) meant (fresh bs a ∷ []))
  after_one = (calls-stand a enough before (fresh bs a ∷ []) proper).0

  pub ran : {x : Fed} {l₁ : List ℕ} → (x, l₁) ≡ fed_by s l bs a → Ran opening t (call (payload_step t) (rested t) a r bs) x l₁
  unfolding code meant callers.calls_of callers.called after_feed turns turn having piece_of allowance_of
  ran e =
      let h = after_one in
      subst (λ (y : Fed × List ℕ). Ran opening t (call (payload_step t) (rested t) a r bs) y.0 y.1) (sym e)
      (record {
        how = h.learned.how;
        consumed = λ fine. sym (zero-add _) ∙ h.learned.consumed fine ∙ zero-add _;
        stands = h.session;
        over = h.over;
      })

  -- a stop consumes at least one byte: no sixel's ink is above the allowance
  pub stop-consumes : (call (payload_step t) (rested t) a r bs).how ≡ stopped
      → 0 < (call (payload_step t) (rested t) a r bs).consumed
  stop-consumes = call-stop-reads (payload_step t) (rested t) (6 * t.limits.width) (payload-caps t) a r bs enough

-- ---- what 9 and 12 refuse is not such a session

module _ {opening : List ℕ} {t : Setting} {r : Reading} {s : Session} {l : List ℕ}
    (k : Stands opening s l (session_in opening t r false)) where
  pub fitting-lives : calls.misfits (λ (u : Reading). u.drawing.area) (session_in opening t r false) (length l) ≡ false
  fitting-lives =
      ap (calls.misfits (λ (u : Reading). u.drawing.area) (session_in opening t r false)) (stands-long k)
      ∙ stands-fit k

  -- so finishing finishes the reading
  pub finish-lives : calls.finish_payload (session_in opening t r false) (length l) ≡ finish_reading t r
  unfolding calls.finish_payload
  finish-lives =
      finish-answers (λ (u : Reading). u.drawing.area) finish_reading (session_in opening t r false) (length l) refl fitting-lives
