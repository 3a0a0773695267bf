-- Laws of the loop over a piece, which calls again after each stop.
use Rattle.std.specs.Prelude.{Ok, Err}
use Prim.Native.Nat.{ℕ, zero, suc, ◌+◌, ◌-◌, ◌≤◌, ◌<◌}
use mathlib.Core.Bool.{Bool, true, false}
use mathlib.Core.List.{List, [], ◌∷◌}
use mathlib.Core.Path.{◌≡◌, refl, sym, ap, ◌∙◌}
use native.Mathlib.Omega.{arith}
use borrow.Author.Tests.{eq-eqb, ne_eqb, eqb-true, eqb-false}
use denote.Enum.Declared.{tag_of}
use lib.Dec.{eqb}
use lib.ListN.{length, take, drop, length-drop}
use lib.Seq.{drop-drop, take_all}
use types.Run.{OneOf, miss}
use Rattle.numbers.proofs.Laws.{cond_yes, cond_no}
use Rattle.dcs.specs.Results.{Answer, Fed}
use Rattle.payload.specs.declared.Answer.TheVariants as answers
use Rattle.dcs.specs.declared.Session.{Session}
use Rattle.dcs.specs.Session as dcs
use Rattle.dcs.proofs.Counts.{Within, feed-within}
use Rattle.pieces.specs.declared.Called.{Called}
use Rattle.pieces.specs.declared.Reader.{Reader}
use Rattle.pieces.specs.declared.Standing.{Standing}
use Rattle.pieces.specs.declared.Standing.TheVariants as standings
use Rattle.pieces.specs.Pieces.{called_as, called_by, taken_for, taken_in, taken_as, taken_by}
use Rattle.pieces.specs.Stream.{calls_for}
use Rattle.pieces.specs.contracts.Standing as StandingType

-- ---- a stop's count

stopped-within : (m : ℕ) (a : Answer) (s : Session) (r : Reader) → Within m a → (called_as a s r).stopped ≤ m
unfolding called_as
stopped-within m (Ok (answers.More c i)) s r h = omega arith
stopped-within m (Ok (answers.Stopped c i)) s r h = h
stopped-within m (Ok (answers.Ended c i e)) s r h = omega arith
stopped-within m (Err n) s r h = omega arith

-- a stop has consumed no more bytes than were presented
pub call-within : (r : Reader) (canvas bytes : List ℕ) → (called_by r canvas bytes).0.stopped ≤ length bytes
unfolding called_by
call-within r canvas bytes =
    let x : Fed × List ℕ = dcs.fed_by r.session canvas bytes r.allowance in
    stopped-within (length bytes) x.0.answer x.0.session r (feed-within r.session canvas bytes r.allowance)

-- ---- the number of calls that is allowed makes no difference, where it is above the number of bytes

pub taken-last : (n : ℕ) (r : Reader) (canvas bytes : List ℕ) → (called_by r canvas bytes).0.stopped ≡ 0
    → taken_for (suc n) r canvas bytes ≡ ((called_by r canvas bytes).0.reader, (called_by r canvas bytes).1)
unfolding taken_for
taken-last n r canvas bytes e = cond_yes _ _ (eq-eqb _ _ e)

pub taken-again : (n : ℕ) (r : Reader) (canvas bytes : List ℕ) → ((called_by r canvas bytes).0.stopped ≡ 0 → ⊥)
    → taken_for (suc n) r canvas bytes
    ≡ taken_for n (called_by r canvas bytes).0.reader (called_by r canvas bytes).1 (drop (called_by r canvas bytes).0.stopped bytes)
unfolding taken_for
taken-again n r canvas bytes e = cond_no _ _ (ne_eqb _ _ e)

-- and so many calls are made
pub calls_last : (n : ℕ) (r : Reader) (canvas bytes : List ℕ) → (called_by r canvas bytes).0.stopped ≡ 0
    → calls_for (suc n) r canvas bytes ≡ 1
unfolding calls_for
calls_last n r canvas bytes e = cond_yes _ _ (eq-eqb _ _ e)

pub calls-again : (n : ℕ) (r : Reader) (canvas bytes : List ℕ) → ((called_by r canvas bytes).0.stopped ≡ 0 → ⊥)
    → calls_for (suc n) r canvas bytes
    ≡ suc (calls_for n (called_by r canvas bytes).0.reader (called_by r canvas bytes).1
    (drop (called_by r canvas bytes).0.stopped bytes))
unfolding calls_for
calls-again n r canvas bytes e = cond_no _ _ (ne_eqb _ _ e)

pub taken-enough : (n m : ℕ) (r : Reader) (canvas bytes : List ℕ) → length bytes < n → length bytes < m
    → taken_for n r canvas bytes ≡ taken_for m r canvas bytes
taken-enough zero m r canvas bytes h k = absurd (omega arith)
taken-enough (suc n) zero r canvas bytes h k = absurd (omega arith)
taken-enough (suc n) (suc m) r canvas bytes h k =
    go (λ (s : Reader) (l bs : List ℕ) (e : length bs < n) (f : length bs < m). taken-enough n m s l bs e f) (eqb count 0) refl
  where
    count : ℕ
    count = (called_by r canvas bytes).0.stopped

    go : ((s : Reader) (l bs : List ℕ) → length bs < n → length bs < m → taken_for n s l bs ≡ taken_for m s l bs)
        → (t : Bool) → eqb count 0 ≡ t → taken_for (suc n) r canvas bytes ≡ taken_for (suc m) r canvas bytes
    go later true e = taken-last n r canvas bytes (eqb-true count 0 e) ∙ sym (taken-last m r canvas bytes (eqb-true count 0 e))
    go later false e =
        let more : count ≡ 0 → ⊥ = eqb-false count 0 e in
        let within : count ≤ length bytes = call-within r canvas bytes in
        let left : length (drop count bytes) ≡ length bytes - count = length-drop count bytes in
        let some : 0 < count = omega arith in
        taken-again n r canvas bytes more
        ∙ later (called_by r canvas bytes).0.reader (called_by r canvas bytes).1 (drop count bytes) (omega arith) (omega arith)
        ∙ sym (taken-again m r canvas bytes more)

-- ---- the loop: the calls made so far and those to come are the whole

pub record Midway (r₀ : Reader) (l₀ piece l : List ℕ) (r : Reader) (at : ℕ) : Type 0 where
  pub within : at ≤ length piece
  pub kept : length l ≡ length l₀
  pub goes : taken_for (suc (length piece - at)) r l (drop at piece) ≡ taken_in r₀ l₀ piece

pub midway_start : (r : Reader) (l piece : List ℕ) → Midway r l piece l r 0
unfolding taken_in
midway_start r l piece =
    let all : length piece - 0 ≡ length piece = omega arith in
    record { within = omega arith; kept = refl; goes = ap (λ (n : ℕ). taken_for (suc n) r l piece) all }

-- the rest of a slice is the rest of its list
rest_all : (piece : List ℕ) (at : ℕ) → take (length piece - at) (drop at piece) ≡ drop at piece
rest_all piece at = take_all (length piece - at) (drop at piece) (rw (length-drop at piece) (omega arith))

module _ {r₀ r : Reader} {l₀ piece l l₁ : List ℕ} {at : ℕ} {x : Called}
    (mid : Midway r₀ l₀ piece l r at) (e : (x, l₁) ≡ called_by r l (take (length piece - at) (drop at piece))) where
  made : (x, l₁) ≡ called_by r l (drop at piece)
  made = e ∙ ap (called_by r l) (rest_all piece at)

  count : x.stopped ≡ (called_by r l (drop at piece)).0.stopped
  count = ap (λ (y : Called × List ℕ). y.0.stopped) made

  pub again-within : at + x.stopped ≤ length piece
  again-within = omega (arith, call-within r l (drop at piece), count, length-drop at piece, mid.within)

  pub midway-last : x.stopped ≡ 0 → (x.reader, l₁) ≡ taken_in r₀ l₀ piece
  midway-last h =
      ap (λ (y : Called × List ℕ). (y.0.reader, y.1)) made
      ∙ sym (taken-last (length piece - at) r l (drop at piece) (sym count ∙ h))
      ∙ mid.goes

  module _ (h : x.stopped ≡ 0 → ⊥) where
    pub again-less : length piece - (at + x.stopped) < length piece - at
    again-less = omega (arith, again-within, h)

    pub midway-again : length l₁ ≡ length l → Midway r₀ l₀ piece l₁ x.reader (at + x.stopped)
    midway-again kept =
        let rest : List ℕ = drop x.stopped (drop at piece) in
        let left : length rest ≡ length piece - (at + x.stopped) =
        ap length (drop-drop x.stopped at piece) ∙ length-drop (at + x.stopped) piece in
        let less : length piece - (at + x.stopped) < length piece - at = again-less in
        record {
          within = again-within;
          kept = kept ∙ mid.kept;
          goes =
              ap (taken_for (suc (length piece - (at + x.stopped))) x.reader l₁) (sym (drop-drop x.stopped at piece))
              ∙ taken-enough (suc (length piece - (at + x.stopped))) (length piece - at) x.reader l₁ rest (omega arith) (omega arith)
              ∙ ap (λ (y : Called × List ℕ). taken_for (length piece - at) y.0.reader y.1
              (drop y.0.stopped (drop at piece))) made
              ∙ sym (taken-again (length piece - at) r l (drop at piece) (λ z. h (count ∙ z)))
              ∙ mid.goes;
        }

pub ruleset loop-laws = (midway_start, again-within, midway-last, again-less, midway-again)

-- ---- a piece

not-reading : (r : Reader) (l piece : List ℕ) (t : Standing) → OneOf (1 ∷ 2 ∷ []) (tag_of StandingType.the_type t)
    → (r, l) ≡ taken_as t r l piece
unfolding taken_as
not-reading r l piece standings.Reading h = absurd (miss (1 ∷ 2 ∷ []) 0 tt h)
not-reading r l piece (standings.Ended e) h = refl
not-reading r l piece (standings.Refused n) h = refl

module _ (r : Reader) (l piece : List ℕ) where
  pub take-over : OneOf (1 ∷ 2 ∷ []) (tag_of StandingType.the_type r.standing) → (r, l) ≡ taken_by r l piece
  unfolding taken_by
  take-over h = not-reading r l piece r.standing h

  pub take-reading : {x : Reader} {l₁ : List ℕ} → r.standing ≡ standings.Reading → (x, l₁) ≡ taken_in r l piece
      → (x, l₁) ≡ taken_by r l piece
  unfolding taken_by taken_as
  take-reading e h = h ∙ ap (λ (t : Standing). taken_as t r l piece) (sym e)

pub ruleset takes = (take-over, take-reading)
