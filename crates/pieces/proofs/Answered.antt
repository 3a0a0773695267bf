-- Turns of a caller that are added at the end, and what a call's answer makes of a reader.
use Rattle.std.specs.Prelude.{Ok, Err}
use Prim.Native.Nat.{ℕ, ◌+◌, ◌<◌}
use native.Mathlib.Omega.{arith}
use mathlib.Core.List.{List, [], ◌∷◌, ◌++◌, append_assoc}
use mathlib.Core.Path.{◌≡◌, refl, sym, ap, ◌∙◌}
use lib.ListN.{length}
use Rattle.meaning.specs.Callers.{how_told, consumed_told, ink_told}
use Rattle.meaning.specs.Reader.{Step, stopped, Turn, fresh, again, piece_of, stream, pieces, Caller, turn, turns}
use Rattle.dcs.specs.Results.{Answer}
use Rattle.payload.specs.declared.Answer.TheVariants as answers
use Rattle.dcs.specs.declared.Ending.{Ending}
use Rattle.dcs.specs.declared.Session.{Session}
use Rattle.dcs.specs.Meant.{answer_meant}
use Rattle.pieces.specs.declared.Reader.{Reader}
use Rattle.pieces.specs.declared.Standing.{Standing}
use Rattle.pieces.specs.declared.Standing.TheVariants as standings
use Rattle.pieces.specs.Pieces.{held, held_sum, after_call, called_as}
use Rattle.pieces.specs.Stream.{how_stood}

-- ---- lists of turns

pub turns-append : {S : Type 0} (step : S → ℕ → Step S) (rest : S → S) (c : Caller S) (ts : List Turn) (t : Turn)
    → turns step rest c (ts ++ t ∷ []) ≡ turn step rest (turns step rest c ts) t
unfolding turns
turns-append step rest c [] t = refl
turns-append step rest c (u ∷ ts) t = turns-append step rest (turn step rest c u) ts t

pub stream-append : (ts us : List Turn) → stream (ts ++ us) ≡ stream ts ++ stream us
unfolding stream
stream-append [] us = refl
stream-append (t ∷ ts) us =
    ap (λ (bs : List ℕ). piece_of t ++ bs) (stream-append ts us)
    ∙ sym (append_assoc (piece_of t) (stream ts) (stream us))

pub pieces-append : (ts us : List Turn) → pieces (ts ++ us) ≡ pieces ts + pieces us
unfolding pieces
pieces-append [] us = omega arith
pieces-append (fresh z a ∷ ts) us = omega (arith, pieces-append ts us)
pieces-append (again a ∷ ts) us = omega (arith, pieces-append ts us)

pub length_more : (ts : List Turn) (t : Turn) → length (ts ++ t ∷ []) ≡ length ts + 1
length_more [] t = refl
length_more (u ∷ ts) t = omega (arith, length_more ts t)

pub length-and : (ts us : List Turn) → length (ts ++ us) ≡ length ts + length us
length-and [] us = omega arith
length-and (t ∷ ts) us = omega (arith, length-and ts us)

-- ---- counts

pub held-sum : (n m k : ℕ) → n ≡ held m → held_sum n k ≡ held (m + k)
unfolding held_sum held
held-sum n m k e = omega arith

-- ---- what an answer makes of a reader

-- where it stands then
unfoldable pub stood_at : Answer → Standing
stood_at (Ok (answers.More c i)) = standings.Reading
stood_at (Ok (answers.Stopped c i)) = standings.Reading
stood_at (Ok (answers.Ended c i e)) = standings.Ended e
stood_at (Err n) = standings.Refused n

pub answered-reader : (a : Answer) (s : Session) (r : Reader)
    → (called_as a s r).reader ≡ after_call r s (stood_at a) (consumed_told (answer_meant a)) (ink_told (answer_meant a))
unfolding called_as stood_at consumed_told ink_told answer_meant
answered-reader (Ok (answers.More c i)) s r = refl
answered-reader (Ok (answers.Stopped c i)) s r = refl
answered-reader (Ok (answers.Ended c i e)) s r = refl
answered-reader (Err n) s r = refl

-- a call that is a piece's last says how it came to its end; any other is a stop, after which the rest is unread
pub last-how : (a : Answer) (s : Session) (r : Reader) → (called_as a s r).stopped ≡ 0
    → (how_told (answer_meant a) ≡ stopped → 0 < consumed_told (answer_meant a))
    → how_told (answer_meant a) ≡ how_stood (stood_at a)
unfolding called_as stood_at how_told consumed_told answer_meant how_stood
last-how (Ok (answers.More c i)) s r e pos = refl
last-how (Ok (answers.Stopped c i)) s r e pos = let more : 0 < c = pos refl in absurd (omega arith)
last-how (Ok (answers.Ended c i d)) s r e pos = refl
last-how (Err n) s r e pos = refl

pub stop-how : (a : Answer) (s : Session) (r : Reader) → ((called_as a s r).stopped ≡ 0 → ⊥)
    → (how_told (answer_meant a) ≡ stopped) × (consumed_told (answer_meant a) ≡ (called_as a s r).stopped)
unfolding called_as how_told consumed_told answer_meant
stop-how (Ok (answers.More c i)) s r e = absurd (e refl)
stop-how (Ok (answers.Stopped c i)) s r e = (refl, refl)
stop-how (Ok (answers.Ended c i d)) s r e = absurd (e refl)
stop-how (Err n) s r e = absurd (e refl)

pub ended-answer : (a : Answer) {e : Ending} → stood_at a ≡ standings.Ended e → (n : ℕ) × (i : ℕ) × (a ≡ Ok (answers.Ended n i e))
unfolding stood_at
ended-answer (Ok (answers.More c i)) h = absurd (let never : ◌≡◌ {A = ℕ} 0 1 = cc in omega arith)
ended-answer (Ok (answers.Stopped c i)) h = absurd (let never : ◌≡◌ {A = ℕ} 0 1 = cc in omega arith)
ended-answer (Ok (answers.Ended c i d)) {e} h = let same : d ≡ e = cc in (c, i, ap (λ (x : Ending). Ok (answers.Ended c i x)) same)
ended-answer (Err n) h = absurd (let never : ◌≡◌ {A = ℕ} 0 1 = cc in omega arith)
