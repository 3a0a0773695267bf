-- Callers of any session, and what they learn from its answers (docs/RULES.md, section 6). Nothing of SIXEL stands here: `H` is
-- what a caller holds between its calls, as a session and its canvas.
use Prim.Native.Nat.{ℕ, ◌+◌}
use Rattle.std.specs.Prelude.{Bool, ◌&&◌, drop}
use Rattle.std.proofs.Math.Bool.{true}
use mathlib.Core.List.{List, [], ◌∷◌, ◌++◌}
use Rattle.std.proofs.Math.Dec.{leb}
use Rattle.meaning.specs.Reader.{How, read_all, stopped, halted, refused_by, Turn, piece_of, allowance_of, Caller, may_call}
use Rattle.meaning.specs.Calls.{Status, needs_more, stopped_for_ink, ended, Answer, told, refused}

-- a feed: of what is held, some bytes and an allowance it makes what is held then, and an answer
abbrev pub Feed : Type 0 → Type 0 → Type 0
Feed H A = H → List ℕ → ℕ → H × A

-- ---- any calls, what was left given back each time as it was

-- a call of a session: an allowance and any bytes
pub record Ask : Type 0 where
  pub allowance : ℕ
  pub bytes : List ℕ

-- the answers, and what is held after them
pub record Past (H A : Type 0) : Type 0 where
  pub answers : List A
  pub state : H

module _ {H A : Type 0} (feed : Feed H A) where
  unfoldable pub fed_all : H → List Ask → Past H A
  fed_all h [] = record { answers = []; state = h }
  fed_all h (c ∷ cs) =
      let x : H × A = feed h c.bytes c.allowance in
      let later : Past H A = fed_all x.0 cs in
      record { answers = x.1 ∷ later.answers; state = later.state }

-- ---- what an answer tells

-- how the call came to its end
unfoldable pub how_told : {E : Type 0} → Answer E → How
how_told (told consumed ink needs_more) = read_all
how_told (told consumed ink stopped_for_ink) = stopped
how_told (told consumed ink (ended e)) = halted
how_told (refused n) = refused_by n

-- its counts; a refusal tells none
unfoldable pub consumed_told : {E : Type 0} → Answer E → ℕ
consumed_told (told consumed ink status) = consumed
consumed_told (refused n) = 0

unfoldable pub ink_told : {E : Type 0} → Answer E → ℕ
ink_told (told consumed ink status) = ink
ink_told (refused n) = 0

-- its status; a refusal tells none, and what was told before it stays
unfoldable pub status_told : {E : Type 0} → Status E → Answer E → Status E
status_told before (told consumed ink status) = status
status_told before (refused n) = before

-- ---- a caller that presents what was left unread, and knows what the answers tell

-- where it stands after a feed of what it presented
unfoldable pub after_feed : {H E : Type 0} → Caller H → List ℕ → H → Answer E → Caller H
unfolding how_told consumed_told ink_told
after_feed c presented h x =
    record {
      state = h;
      unread = drop (consumed_told x) presented;
      consumed = c.consumed + consumed_told x;
      ink = c.ink + ink_told x;
      how = how_told x;
    }

module _ {H E : Type 0} (feed : Feed H (Answer E)) where
  unfoldable pub called : Caller H → Turn → Caller H
  unfolding after_feed
  called c t =
      let presented : List ℕ = c.unread ++ piece_of t in
      let x : H × Answer E = feed c.state presented (allowance_of t) in
      after_feed c presented x.0 x.1

  -- rule 6.7: where a caller stands after its calls
  unfoldable pub calls_of : Caller H → List Turn → Caller H
  unfolding called
  calls_of c [] = c
  calls_of c (t ∷ ts) = calls_of (called c t) ts

  -- the status that their last answer told, after one that was told before them
  unfoldable pub last_status : Status E → Caller H → List Turn → Status E
  unfolding called status_told
  last_status before c [] = before
  last_status before c (t ∷ ts) =
      last_status (status_told before (feed c.state (c.unread ++ piece_of t) (allowance_of t)).1) (called c t) ts

  -- rule 6.7: each call is one that may be made after the answer before it, with an allowance of at least A
  unfoldable pub proper_calls : ℕ → Caller H → List Turn → Bool
  unfolding called
  proper_calls A c [] = true
  proper_calls A c (t ∷ ts) = leb A (allowance_of t) && (may_call t c.how && proper_calls A (called c t) ts)
