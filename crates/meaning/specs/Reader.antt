-- Any reader that goes byte by byte, and what a call of it with an ink allowance does (docs/RULES.md, section 6).
-- Nothing of SIXEL stands here: a reader is a step for each byte, and what a stop leaves.
use Prim.Native.Nat.{ℕ, suc, ◌+◌, ◌-◌}
use Rattle.std.specs.Prelude.{Bool, false, ◌&&◌, drop}
use Rattle.std.proofs.Math.Bool.{true, cond}
use mathlib.Core.List.{List, [], ◌∷◌, ◌++◌}
use Rattle.std.proofs.Math.Dec.{leb}

-- what a byte does: it is read, with its ink; or the end has come and it stays unread; or it is refused with a number
pub data Step (S : Type 0) : Type 0 where
  next : S → ℕ → Step S
  halt : S → Step S
  refuse : S → ℕ → Step S

-- how reading some bytes came to its end
pub data How : Type 0 where
  read_all stopped halted : How
  refused_by : ℕ → How

-- all bytes were read
unfoldable pub is_all : How → Bool
is_all read_all = true
is_all stopped = false
is_all halted = false
is_all (refused_by n) = false

-- a byte was refused
unfoldable pub is_refused : How → Bool
is_refused read_all = false
is_refused stopped = false
is_refused halted = false
is_refused (refused_by n) = true

-- neither an end nor a refusal has come
unfoldable pub is_ongoing : How → Bool
is_ongoing read_all = true
is_ongoing stopped = true
is_ongoing halted = false
is_ongoing (refused_by n) = false

-- what reading some bytes came to
pub record Run (S : Type 0) : Type 0 where
  pub state : S
  pub consumed : ℕ
  pub ink : ℕ
  pub how : How

-- nothing was read
unfoldable pub still : {S : Type 0} → S → How → Run S
still s how = record { state = s; consumed = 0; ink = 0; how = how }

-- so many bytes and so much ink before it
unfoldable pub after : {S : Type 0} → ℕ → ℕ → Run S → Run S
after n i r = record { state = r.state; consumed = n + r.consumed; ink = i + r.ink; how = r.how }

-- a run that read all its bytes, and what follows from its state; any other run stays as it is
unfoldable pub continued : {S : Type 0} → Run S → (S → Run S) → Run S
unfolding after is_all
continued r later = cond (is_all r.how) (after r.consumed r.ink (later r.state)) r

-- a byte that was read is followed by what comes next
unfoldable pub follow : {S : Type 0} → Step S → (S → ℕ → Run S) → Run S
unfolding still
follow (next t i) go = go t i
follow (halt t) go = still t halted
follow (refuse t n) go = still t (refused_by n)

module _ {S : Type 0} (step : S → ℕ → Step S) where
  -- reading with no allowance
  unfoldable pub read_from : S → List ℕ → Run S
  unfolding still after follow
  read_from s [] = still s read_all
  read_from s (b ∷ bs) = follow (step s b) (λ t i. after 1 i (read_from t bs))

  -- reading goes on after a run that read all its bytes
  unfoldable pub then_read : Run S → List ℕ → Run S
  unfolding continued read_from
  then_read r ys = continued r (λ t. read_from t ys)

  -- `rest` says what a stop leaves: what is pending has taken effect
  module _ (rest : S → S) where
    -- Rule 6.3. A call with an allowance. It stops exactly when the next byte is one that is read, so not refused, and its ink
    -- exceeds what is left. That byte stays unread.
    unfoldable pub call : ℕ → S → List ℕ → Run S
    unfolding still after follow
    call left s [] = still s read_all
    call left s (b ∷ bs) =
        follow (step s b) (λ t i. cond (leb i left) (after 1 i (call (left - i) t bs)) (still (rest s) stopped))

-- ---- a caller: pieces of a stream, each call with an allowance, and what was left unread presented again first

-- a call with the next piece after what was unread, or after a stop with nothing but that
pub data Turn : Type 0 where
  fresh : List ℕ → ℕ → Turn
  again : ℕ → Turn

unfoldable pub piece_of : Turn → List ℕ
piece_of (fresh p a) = p
piece_of (again a) = []

unfoldable pub allowance_of : Turn → ℕ
allowance_of (fresh p a) = a
allowance_of (again a) = a

-- the stream of a caller's pieces
unfoldable pub stream : List Turn → List ℕ
unfolding piece_of
stream [] = []
stream (t ∷ ts) = piece_of t ++ stream ts

-- rule 6.8: how many they are
unfoldable pub pieces : List Turn → ℕ
pieces [] = 0
pieces (fresh p a ∷ ts) = suc (pieces ts)
pieces (again a ∷ ts) = pieces ts

-- where a caller stands: the reader's state, the bytes left unread, bytes and ink in all, and how the last call came to its end
pub record Caller (S : Type 0) : Type 0 where
  pub state : S
  pub unread : List ℕ
  pub consumed : ℕ
  pub ink : ℕ
  pub how : How

-- what a caller's calls came to so far
unfoldable pub ran_by : {S : Type 0} → Caller S → Run S
ran_by c = record { state = c.state; consumed = c.consumed; ink = c.ink; how = c.how }

-- a caller that has made no call
unfoldable pub ready : {S : Type 0} → S → Caller S
ready s = record { state = s; unread = []; consumed = 0; ink = 0; how = read_all }

-- a call may come after every call that was not refused; without a new piece only after a stop
unfoldable pub may_call : Turn → How → Bool
may_call (fresh p a) read_all = true
may_call (fresh p a) stopped = true
may_call (fresh p a) halted = true
may_call (fresh p a) (refused_by n) = false
may_call (again a) read_all = false
may_call (again a) stopped = true
may_call (again a) halted = false
may_call (again a) (refused_by n) = false

module _ {S : Type 0} (step : S → ℕ → Step S) (rest : S → S) where
  -- where a caller stands after a call that read some of what was presented
  unfoldable pub having : Caller S → List ℕ → Run S → Caller S
  having c presented r =
      record {
        state = r.state;
        unread = drop r.consumed presented;
        consumed = c.consumed + r.consumed;
        ink = c.ink + r.ink;
        how = r.how;
      }

  unfoldable pub turn : Caller S → Turn → Caller S
  unfolding having piece_of allowance_of call
  turn c t = let presented : List ℕ = c.unread ++ piece_of t in having c presented (call step rest (allowance_of t) c.state presented)

  unfoldable pub turns : Caller S → List Turn → Caller S
  unfolding turn
  turns c [] = c
  turns c (t ∷ ts) = turns (turn c t) ts

  -- every call of the caller is one that it may make, with an allowance of at least A
  unfoldable pub proper : ℕ → Caller S → List Turn → Bool
  unfolding turn may_call
  proper A c [] = true
  proper A c (t ∷ ts) = leb A (allowance_of t) && (may_call t c.how && proper A (turn c t) ts)
