-- What a session has read, whatever bytes come after a stop for ink (rule 6.3).
use Prim.Native.Nat.{ℕ}
use mathlib.Core.List.{List, [], ◌∷◌, ◌++◌, map}
use lib.ListN.{take, drop}
use Rattle.meaning.specs.Reader.{Step, How, read_all, stopped, halted, refused_by, Run, still, after, continued, follow, call, Turn, piece_of, allowance_of, Caller, turn}
use Rattle.meaning.specs.Callers.{Ask}

-- an entry of it: a byte, or the mark of a stop for ink
pub data Item : Type 0 where
  byte : ℕ → Item
  mark : Item

module _ {S : Type 0} (step : S → ℕ → Step S) (rest : S → S) where
  -- reading them: a mark leaves what a stop leaves
  unfoldable pub read_items : S → List Item → Run S
  unfolding still after follow
  read_items s [] = still s read_all
  read_items s (byte b ∷ is) = follow (step s b) (λ t i. after 1 i (read_items t is))
  read_items s (mark ∷ is) = read_items (rest s) is

-- what a call has seen besides the bytes consumed: a mark if it stopped; the byte, unread, at which the end came or which was refused
unfoldable pub last_item : How → List ℕ → List Item
last_item read_all unread = []
last_item stopped unread = mark ∷ []
last_item halted unread = map byte (take 1 unread)
last_item (refused_by n) unread = map byte (take 1 unread)

-- what a call has read: the bytes that it consumed, and that
unfoldable pub items_of : {S : Type 0} → Run S → List ℕ → List Item
unfolding last_item
items_of r xs = map byte (take r.consumed xs) ++ last_item r.how (drop r.consumed xs)

-- a stop is no end: the next call goes on
unfoldable pub going_on : How → How
going_on read_all = read_all
going_on stopped = read_all
going_on halted = halted
going_on (refused_by n) = refused_by n

-- a call's run as the next call finds it
unfoldable pub resumed : {S : Type 0} → Run S → Run S
unfolding going_on
resumed r = record { state = r.state; consumed = r.consumed; ink = r.ink; how = going_on r.how }

module _ {S : Type 0} (step : S → ℕ → Step S) (rest : S → S) where
  -- any calls, one after the other until the end or a refusal, with bytes and ink in all
  unfoldable pub any_calls : S → List Ask → Run S
  unfolding still continued resumed call
  any_calls s [] = still s read_all
  any_calls s (f ∷ fs) = continued (resumed (call step rest f.allowance s f.bytes)) (λ t. any_calls t fs)

  -- what they have read; after an end or a refusal nothing more of it counts
  unfoldable pub history : S → List Ask → List Item
  unfolding items_of call
  history s [] = []
  history s (f ∷ fs) =
      let r : Run S = call step rest f.allowance s f.bytes in
      items_of r f.bytes ++ history r.state fs

  -- the calls that a caller makes
  unfoldable pub asks_of : Caller S → List Turn → List Ask
  unfolding turn piece_of allowance_of
  asks_of c [] = []
  asks_of c (t ∷ ts) = record { allowance = allowance_of t; bytes = c.unread ++ piece_of t } ∷ asks_of (turn step rest c t) ts
