-- A reader that takes pieces is a caller of rule 6.7: it makes calls with the smallest allowance, presents what was left
-- unread next, and adds up what the answers told.
use Prim.Native.Nat.{ℕ, zero, suc, ◌*◌, ◌≤◌, ◌<◌}
use native.Mathlib.Omega.{arith}
use mathlib.Core.Bool.{Bool, true, false}
use mathlib.Core.Option.{some}
use mathlib.Core.List.{List, [], ◌∷◌, ◌++◌, append-nil, append_assoc}
use mathlib.Core.Path.{◌≡◌, refl, sym, ap, ◌∙◌, subst}
use borrow.Author.Tests.{eqb-true, eqb-false}
use lib.Dec.{eqb}
use lib.ListN.{length, drop, length-drop}
use Rattle.colours.specs.declared.Palette.{Palette}
use Rattle.frame.specs.declared.Limits.{Limits}
use Rattle.meaning.specs.Calls as calls
use Rattle.meaning.specs.Callers as callers
use Rattle.meaning.specs.Callers.{how_told, consumed_told, ink_told, after_feed}
use Rattle.meaning.specs.Drawing.{Setting}
use Rattle.meaning.specs.Reader.{stopped, Turn, again, piece_of, allowance_of, stream, pieces, Caller, may_call}
use Rattle.meaning.specs.Sessions.{Phase, dcs_step, dcs_rested}
use Rattle.meaning.proofs.ToldLaws.{calls-append, proper-append, proper-one}
use Rattle.payload.specs.Meant.{setting_meant}
use Rattle.payload.specs.Refusals.{openable}
use Rattle.dcs.specs.Results.{Answer, Fed}
use Rattle.dcs.specs.declared.Ending.{Ending}
use Rattle.dcs.specs.declared.Session.{Session}
use Rattle.dcs.specs.Session.{fed_by}
use Rattle.dcs.specs.History.{Held, tell_held, calls_of, proper_calls}
use Rattle.dcs.specs.Meant.{end_meant, answer_meant}
use Rattle.dcs.proofs.History as history
use Rattle.dcs.proofs.Progress.{stop-consumes, end-told}
use Rattle.pieces.specs.declared.Called.{Called}
use Rattle.pieces.specs.declared.Reader.{Reader}
use Rattle.pieces.specs.declared.Standing.TheVariants as standings
use Rattle.pieces.specs.Pieces.{held, counted_as, after_call, called_as, called_by, taken_for}
use Rattle.pieces.specs.Stream.{calls_for, how_stood}
use Rattle.pieces.proofs.Answered.{turns-append, length_more, held-sum, stood_at, answered-reader, last-how, stop-how, ended-answer}
use Rattle.pieces.proofs.TakeLaws.{call-within, taken-last, taken-again, calls_last, calls-again}

module _ (l : Limits) (stride : ℕ) (p : Palette) (opening : List ℕ) (opens : openable l stride (length opening) ≡ true) where
  -- the smallest allowance
  abbrev pub smallest : ℕ
  smallest = 6 * l.width

  -- where the caller stands after its calls
  abbrev pub now : List Turn → Caller Held
  now ts = calls_of (history.opened l stride p opening opens) ts

  abbrev pub setting : Setting
  setting = setting_meant l stride (length opening)

  -- the reader holds the caller's session, with the canvas as it was left, and its counts
  pub record Keeps (ts : List Turn) (r : Reader) (lent : List ℕ) : Type 0 where
    pub proper : proper_calls smallest (history.opened l stride p opening opens) ts ≡ true
    pub session : r.session ≡ (now ts).state.0
    pub canvas : lent ≡ (now ts).state.1
    pub allowance : r.allowance ≡ smallest
    pub consumed : r.counts.consumed ≡ held (now ts).consumed
    pub ink : r.counts.ink ≡ held (now ts).ink
    pub calls : r.counts.calls ≡ held (length ts)

  -- and it stands where the last answer said; an end is the definition's
  pub record Follows (ts : List Turn) (r : Reader) (canvas : List ℕ) : Type 0 where
    pub keeps : Keeps ts r canvas
    pub how : (now ts).how ≡ how_stood r.standing
    pub end : (e : Ending) → r.standing ≡ standings.Ended e → calls.dcs_end (calls.dcs_turns setting p ts).state ≡ some (end_meant e)

  -- one call more
  module _ {ts : List Turn} {r : Reader} {canvas : List ℕ} (k : Keeps ts r canvas) (t : Turn) (exact : allowance_of t ≡ smallest)
      (may : may_call t (now ts).how ≡ true) (bytes : List ℕ) (same : (now ts).unread ++ piece_of t ≡ bytes) where
    abbrev more : List Turn
    more = ts ++ t ∷ []

    -- the code's call is the caller's
    abbrev fed : Fed × List ℕ
    fed = fed_by (now ts).state.0 (now ts).state.1 ((now ts).unread ++ piece_of t) (allowance_of t)

    fed-same : fed_by r.session canvas bytes r.allowance ≡ fed
    fed-same =
        ap (λ (s : Session). fed_by s canvas bytes r.allowance) k.session
        ∙ ap (λ (c : List ℕ). fed_by (now ts).state.0 c bytes r.allowance) k.canvas
        ∙ ap (λ (bs : List ℕ). fed_by (now ts).state.0 (now ts).state.1 bs r.allowance) (sym same)
        ∙ ap (λ (a : ℕ). fed_by (now ts).state.0 (now ts).state.1 ((now ts).unread ++ piece_of t) a) (k.allowance ∙ sym exact)

    abbrev answer : Answer
    answer = fed.0.answer

    abbrev next : Reader
    next = after_call r fed.0.session (stood_at answer) (consumed_told (answer_meant answer)) (ink_told (answer_meant answer))

    called_same : called_by r canvas bytes ≡ (called_as answer fed.0.session r, fed.1)
    unfolding called_by
    called_same = ap (λ (x : Fed × List ℕ). (called_as x.0.answer x.0.session r, x.1)) fed-same

    reader-same : (called_by r canvas bytes).0.reader ≡ next
    reader-same = ap (λ (x : Called × List ℕ). x.0.reader) called_same ∙ answered-reader answer fed.0.session r

    count_same : (called_by r canvas bytes).0.stopped ≡ (called_as answer fed.0.session r).stopped
    count_same = ap (λ (x : Called × List ℕ). x.0.stopped) called_same

    canvas-same : (called_by r canvas bytes).1 ≡ fed.1
    canvas-same = ap (λ (x : Called × List ℕ). x.1) called_same

    now-more : now more ≡ after_feed (now ts) ((now ts).unread ++ piece_of t) (fed.0.session, fed.1) (answer_meant answer)
    unfolding callers.calls_of callers.called
    now-more = calls-append tell_held (history.opened l stride p opening opens) ts (t ∷ [])

    proper-more : proper_calls smallest (history.opened l stride p opening opens) more ≡ true
    proper-more =
        proper-append tell_held smallest (history.opened l stride p opening opens) ts (t ∷ []) k.proper
        (proper-one tell_held smallest (now ts) t (omega (arith, exact)) may)

    next-keeps : Keeps more next fed.1
    unfolding after_feed after_call counted_as
    next-keeps =
        record {
          proper = proper-more;
          session = sym (ap (λ (c : Caller Held). c.state.0) now-more);
          canvas = sym (ap (λ (c : Caller Held). c.state.1) now-more);
          allowance = k.allowance;
          consumed = held-sum _ _ _ k.consumed ∙ ap held (sym (ap (λ (c : Caller Held). c.consumed) now-more));
          ink = held-sum _ _ _ k.ink ∙ ap held (sym (ap (λ (c : Caller Held). c.ink) now-more));
          calls = held-sum _ _ _ k.calls ∙ ap held (sym (length_more ts t));
        }

    pub call-keeps : Keeps more (called_by r canvas bytes).0.reader (called_by r canvas bytes).1
    call-keeps =
        subst (λ (x : Reader). Keeps more x (called_by r canvas bytes).1) (sym reader-same)
        (subst (λ (c : List ℕ). Keeps more next c) (sym canvas-same) next-keeps)

    how-more : (now more).how ≡ how_told (answer_meant answer)
    unfolding after_feed
    how-more = ap (λ (c : Caller Held). c.how) now-more

    -- a stop has consumed something
    some-consumed : how_told (answer_meant answer) ≡ stopped → 0 < consumed_told (answer_meant answer)
    unfolding callers.called after_feed
    some-consumed e =
        omega (arith, stop-consumes l stride p opening opens smallest ts (omega arith) k.proper t (omega (arith, exact)) may e)

    -- a piece's last call
    pub last-follows : (called_by r canvas bytes).0.stopped ≡ 0
        → Follows more (called_by r canvas bytes).0.reader (called_by r canvas bytes).1
    unfolding after_call
    last-follows e =
        let stands : (called_by r canvas bytes).0.reader.standing ≡ stood_at answer = ap (λ (x : Reader). x.standing) reader-same in
        record {
          keeps = call-keeps;
          how = how-more ∙ last-how answer fed.0.session r (sym count_same ∙ e) some-consumed ∙ ap how_stood (sym stands);
          end = λ d h.
              let told = ended-answer answer (sym stands ∙ h) in
              ap (λ (c : Caller Phase). calls.dcs_end c.state) (turns-append (dcs_step setting p) (dcs_rested setting) _ ts t)
              ∙ end-told l stride p opening opens smallest ts (omega arith) k.proper t (omega (arith, exact)) may told.2;
        }

    -- a stop, after which the rest is presented again
    pub stop-next : ((called_by r canvas bytes).0.stopped ≡ 0 → ⊥)
        → ((now more).how ≡ stopped) × ((now more).unread ≡ drop (called_by r canvas bytes).0.stopped bytes)
    unfolding after_feed
    stop-next e =
        let told = stop-how answer fed.0.session r (λ z. e (count_same ∙ z)) in (
          how-more ∙ told.0,
          ap (λ (c : Caller Held). c.unread) now-more
              ∙ ap (λ (n : ℕ). drop n ((now ts).unread ++ piece_of t)) (told.1 ∙ sym count_same)
              ∙ ap (drop (called_by r canvas bytes).0.stopped) same,
        )

  -- ---- a piece

  -- the calls of a piece, which are so many: the first, and others with nothing new
  pub record Took (ts : List Turn) (t : Turn) (x : Reader × List ℕ) (made : ℕ) : Type 0 where
    pub others : List Turn
    pub calls : made ≡ suc (length others)
    pub nothing : stream others ≡ []
    pub none-fresh : pieces others ≡ 0
    pub follows : Follows (ts ++ t ∷ others) x.0 x.1

  pub took : (n : ℕ) {ts : List Turn} {r : Reader} {canvas : List ℕ} → Keeps ts r canvas → (t : Turn) → allowance_of t ≡ smallest
      → may_call t (now ts).how ≡ true → (bytes : List ℕ) → (now ts).unread ++ piece_of t ≡ bytes → length bytes < n
      → Took ts t (taken_for n r canvas bytes) (calls_for n r canvas bytes)
  unfolding may_call piece_of stream pieces allowance_of
  took zero k t exact may bytes same h = absurd (omega arith)
  took (suc n) {ts} {r} {canvas} k t exact may bytes same h =
      go (λ may' same' less. took n (call-keeps k t exact may bytes same) (again smallest) refl may' rest same' less) (eqb count 0) refl
    where
      count : ℕ
      count = (called_by r canvas bytes).0.stopped

      rest : List ℕ
      rest = drop count bytes

      reader : Reader
      reader = (called_by r canvas bytes).0.reader

      after : List ℕ
      after = (called_by r canvas bytes).1

      more : List Turn
      more = ts ++ t ∷ []

      made : ℕ
      made = calls_for (suc n) r canvas bytes

      go : (may_call (again smallest) (now more).how ≡ true → (now more).unread ++ piece_of (again smallest) ≡ rest → length rest < n
          → Took more (again smallest) (taken_for n reader after rest) (calls_for n reader after rest))
          → (q : Bool) → eqb count 0 ≡ q → Took ts t (taken_for (suc n) r canvas bytes) made
      go later true e =
          let last : count ≡ 0 = eqb-true count 0 e in
          subst (λ (x : Reader × List ℕ). Took ts t x made) (sym (taken-last n r canvas bytes last))
          (record {
            others = [];
            calls = calls_last n r canvas bytes last;
            nothing = refl;
            none-fresh = refl;
            follows = last-follows k t exact may bytes same last;
          })
      go later false e =
          let on : count ≡ 0 → ⊥ = eqb-false count 0 e in
          let s = stop-next k t exact may bytes same on in
          let within : count ≤ length bytes = call-within r canvas bytes in
          let left = length-drop count bytes in
          let x : Took more (again smallest) (taken_for n reader after rest) (calls_for n reader after rest) =
          later (ap (may_call (again smallest)) s.0) (append-nil _ ∙ s.1) (omega arith) in
          subst (λ (x : Reader × List ℕ). Took ts t x made) (sym (taken-again n r canvas bytes on))
          (record {
            others = again smallest ∷ x.others;
            calls = calls-again n r canvas bytes on ∙ ap suc x.calls;
            nothing = x.nothing;
            none-fresh = x.none-fresh;
            follows =
                subst (λ (us : List Turn). Follows us (taken_for n reader after rest).0 (taken_for n reader after rest).1)
                (append_assoc ts (t ∷ []) (again smallest ∷ x.others)) x.follows;
          })
