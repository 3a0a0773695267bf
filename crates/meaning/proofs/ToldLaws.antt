-- Laws of any session's callers: what the answers of its code tell is what the definition's caller comes to.
use Prim.Native.Nat.{ℕ, ◌+◌, ◌≤◌}
use native.Mathlib.Omega.{arith}
use mathlib.Core.Bool.{true, false, true≢false}
use mathlib.Core.Option.{Option, none, some}
use mathlib.Core.List.{List, [], ◌∷◌, ◌++◌, map}
use mathlib.Core.Path.{◌≡◌, refl, sym, ap, ap₂, ◌∙◌}
use borrow.Author.Tests.{le-leb, leb-true}
use lib.Dec.{leb}
use lib.ListN.{drop}
use Rattle.meaning.specs.Calls.{Status, ended, Answer, told, Session, Fed, at_end, session_after, tells, answered}
use Rattle.meaning.specs.Callers.{Ask, Feed, Past, fed_all, how_told, consumed_told, ink_told, status_told, after_feed, called, calls_of, last_status, proper_calls}
use Rattle.meaning.specs.Reader.{Step, How, read_all, stopped, halted, refused_by, is_refused, Run, Turn, fresh, again, piece_of, allowance_of, Caller, may_call, having, turn, turns, proper}
use Rattle.meaning.proofs.Cases.{both, and_both}

-- ---- any calls

-- the answers mean the definition's, and what is held stands for the definition's session
pub record Passes {H M A B : Type 0} (Stands : H → M → Type 0) (meant : A → B) (x : Past H A) (y : Past M B) : Type 0 where
  pub answers : map meant x.answers ≡ y.answers
  pub state : Stands x.state y.state

-- where each feed is the definition's, so are any
module _ {H M A B : Type 0} (f : Feed H A) (g : Feed M B) (Stands : H → M → Type 0) (meant : A → B)
    (one : (h : H) (m : M) → Stands h m → (bs : List ℕ) (a : ℕ)
    → (meant (f h bs a).1 ≡ (g m bs a).1) × Stands (f h bs a).0 (g m bs a).0) where
  pub all_pass : {h : H} {m : M} → Stands h m → (cs : List Ask) → Passes Stands meant (fed_all f h cs) (fed_all g m cs)
  unfolding fed_all
  all_pass k [] = record { answers = refl; state = k }
  all_pass {h = h} {m = m} k (c ∷ cs) =
      let first = one h m k c.bytes c.allowance in
      let later = all_pass {h = (f h c.bytes c.allowance).0} {m = (g m c.bytes c.allowance).0} first.1 cs in
      record { answers = ap₂ ◌∷◌ first.0 later.answers; state = later.state }

-- ---- how a call came to its end, and what is told of it

-- a call that has come to the end tells it, whether or not it has a byte left
unfoldable pub end_told : {E : Type 0} → How → Option E → How
end_told read_all none = read_all
end_told read_all (some e) = halted
end_told stopped o = stopped
end_told halted none = read_all
end_told halted (some e) = halted
end_told (refused_by n) o = refused_by n

module _ {E : Type 0} where
  -- the same calls may be made after it
  pub may-told : (t : Turn) (h : How) (o : Option E) → may_call t (end_told h o) ≡ may_call t h
  unfolding may_call end_told
  may-told (fresh z a) read_all none = refl
  may-told (fresh z a) read_all (some e) = refl
  may-told (fresh z a) stopped o = refl
  may-told (fresh z a) halted none = refl
  may-told (fresh z a) halted (some e) = refl
  may-told (fresh z a) (refused_by n) o = refl
  may-told (again a) read_all none = refl
  may-told (again a) read_all (some e) = refl
  may-told (again a) stopped o = refl
  may-told (again a) halted none = refl
  may-told (again a) halted (some e) = refl
  may-told (again a) (refused_by n) o = refl

  pub refused-told : (h : How) (o : Option E) → is_refused (end_told h o) ≡ is_refused h
  unfolding is_refused end_told
  refused-told read_all none = refl
  refused-told read_all (some e) = refl
  refused-told stopped o = refl
  refused-told halted none = refl
  refused-told halted (some e) = refl
  refused-told (refused_by n) o = refl

  -- an end is told exactly where there is one, and the call neither stopped nor was refused
  pub told-end : (h : How) (o : Option E) → end_told h o ≡ halted → (h ≡ stopped → ⊥) × (is_refused h ≡ false) × ((e : E) × (o ≡ some e))
  unfolding is_refused end_told
  told-end read_all none z = absurd (let never : ◌≡◌ {A = ℕ} 0 1 = cc in omega arith)
  told-end read_all (some e) z = (λ q. let never : ◌≡◌ {A = ℕ} 0 1 = cc in omega arith, refl, (e, refl))
  told-end stopped o z = absurd (let never : ◌≡◌ {A = ℕ} 0 1 = cc in omega arith)
  told-end halted none z = absurd (let never : ◌≡◌ {A = ℕ} 0 1 = cc in omega arith)
  told-end halted (some e) z = (λ q. let never : ◌≡◌ {A = ℕ} 0 1 = cc in omega arith, refl, (e, refl))
  told-end (refused_by n) o z = absurd (let never : ◌≡◌ {A = ℕ} 0 1 = cc in omega arith)

  -- a refusal where the call was refused
  pub told-refusal : (h : How) (o : Option E) {n : ℕ} → end_told h o ≡ refused_by n → h ≡ refused_by n
  unfolding end_told
  told-refusal read_all none z = z
  told-refusal read_all (some e) z = cc
  told-refusal stopped o z = z
  told-refusal halted none z = cc
  told-refusal halted (some e) z = z
  told-refusal (refused_by m) o z = z

  -- a stop where it stopped
  pub told-stopped : (h : How) (o : Option E) → end_told h o ≡ stopped → h ≡ stopped
  unfolding end_told
  told-stopped read_all none e = e
  told-stopped read_all (some x) e = cc
  told-stopped stopped o e = refl
  told-stopped halted none e = cc
  told-stopped halted (some x) e = e
  told-stopped (refused_by n) o e = e

  -- and that more is needed where the end has not come, and the call was not refused
  pub told_more : (h : How) (o : Option E) → end_told h o ≡ read_all → (o ≡ none) × (is_refused h ≡ false)
  unfolding end_told is_refused
  told_more read_all none e = (refl, refl)
  told_more read_all (some x) e = absurd (let never : ◌≡◌ {A = ℕ} 0 1 = cc in omega arith)
  told_more stopped o e = absurd (let never : ◌≡◌ {A = ℕ} 0 1 = cc in omega arith)
  told_more halted none e = (refl, refl)
  told_more halted (some x) e = absurd (let never : ◌≡◌ {A = ℕ} 0 1 = cc in omega arith)
  told_more (refused_by n) o e = absurd (let never : ◌≡◌ {A = ℕ} 0 1 = cc in omega arith)

-- ---- what an answered call tells

-- how it ended, and its counts
pub record Tells {S E : Type 0} (said : How) (q : Run S) (x : Answer E) : Type 0 where
  pub how : how_told x ≡ said
  pub consumed : is_refused q.how ≡ false → consumed_told x ≡ q.consumed
  pub ink : is_refused q.how ≡ false → ink_told x ≡ q.ink

module _ {S E : Type 0} (end : S → Option E) (m : Session S) (q : Run S) where
  -- the answer of a call that came so to an end, or to none
  ending : How → Option E → Fed S E
  ending h o = answered (λ s. o) m (record { state = q.state; consumed = q.consumed; ink = q.ink; how = h })

  pub answered-tells : Tells (end_told q.how (end q.state)) q (answered end m q).answer
  unfolding answered tells at_end how_told consumed_told ink_told is_refused end_told ending
  answered-tells = let x = each q.how (end q.state) in record { how = x.0; consumed = x.1; ink = x.2 }
    where
      each : (h : How) (o : Option E)
          → (how_told (ending h o).answer ≡ end_told h o) × (is_refused h ≡ false → consumed_told (ending h o).answer ≡ q.consumed)
          × (is_refused h ≡ false → ink_told (ending h o).answer ≡ q.ink)
      each read_all none = (refl, λ _. refl, λ _. refl)
      each read_all (some e) = (refl, λ _. refl, λ _. refl)
      each stopped o = (refl, λ _. refl, λ _. refl)
      each halted none = (refl, λ _. refl, λ _. refl)
      each halted (some e) = (refl, λ _. refl, λ _. refl)
      each (refused_by n) o = (refl, λ z. absurd (true≢false z), λ z. absurd (true≢false z))

  -- it leaves the call's state, failed if it was refused
  pub answered-leaves : (answered end m q).session ≡ session_after m q.state (is_refused q.how)
  unfolding answered tells is_refused ending
  answered-leaves = each q.how
    where
      each : (h : How) → (ending h (end q.state)).session ≡ session_after m q.state (is_refused h)
      each read_all = refl
      each stopped = refl
      each halted = refl
      each (refused_by n) = refl

  -- an end that is told is the one that has come
  pub answered-end : {n i : ℕ} {x : E} → told n i (ended x) ≡ (answered end m q).answer → end q.state ≡ some x
  unfolding answered tells at_end ending
  answered-end {n} {i} {x} e = each q.how (end q.state) e
    where
      each : (h : How) (o : Option E) → told n i (ended x) ≡ (ending h o).answer → o ≡ some x
      each read_all none z = cc
      each read_all (some y) z = cc
      each stopped o z = cc
      each halted none z = cc
      each halted (some y) z = cc
      each (refused_by k) o z = cc

-- ---- a caller of the code, and one of the definition

-- what the last answer said; the counts are the same, unless the last call was refused, which tells none
pub record Learned {H S : Type 0} (said : How) (c : Caller H) (k : Caller S) : Type 0 where
  pub how : c.how ≡ said
  pub unread : is_refused k.how ≡ false → c.unread ≡ k.unread
  pub consumed : is_refused k.how ≡ false → c.consumed ≡ k.consumed
  pub ink : is_refused k.how ≡ false → c.ink ≡ k.ink

-- one call more that tells what the definition's comes to
pub learned-more : {H S E : Type 0} (step : S → ℕ → Step S) (rest : S → S) {c : Caller H} {k : Caller S} {before said : How}
    → Learned before c k → is_refused k.how ≡ false
    → (z : List ℕ) (h : H) {q : Run S} {x : Answer E} → Tells said q x
    → Learned said (after_feed c (c.unread ++ z) h x) (having step rest k (k.unread ++ z) q)
unfolding after_feed having
learned-more step rest k live z h t =
    record {
      how = t.how;
      unread = λ fine. ap₂ drop (t.consumed fine) (ap (λ (us : List ℕ). us ++ z) (k.unread live));
      consumed = λ fine. ap₂ ◌+◌ (k.consumed live) (t.consumed fine);
      ink = λ fine. ap₂ ◌+◌ (k.ink live) (t.ink fine);
    }

module _ {H E : Type 0} (feed : Feed H (Answer E)) where
  proper-parts : (A : ℕ) (c : Caller H) (t : Turn) (ts : List Turn) → proper_calls feed A c (t ∷ ts) ≡ true
      → (A ≤ allowance_of t) × (may_call t c.how ≡ true) × (proper_calls feed A (called feed c t) ts ≡ true)
  unfolding proper_calls
  proper-parts A c t ts ok =
      let outer = both (leb A (allowance_of t)) _ ok in
      let inner = both (may_call t c.how) _ outer.1 in
      (leb-true A (allowance_of t) outer.0, inner.0, inner.1)

  proper-whole : (A : ℕ) (c : Caller H) (t : Turn) (ts : List Turn) → A ≤ allowance_of t → may_call t c.how ≡ true
      → proper_calls feed A (called feed c t) ts ≡ true
      → proper_calls feed A c (t ∷ ts) ≡ true
  unfolding proper_calls
  proper-whole A c t ts allowed may later = and_both _ _ (le-leb A (allowance_of t) allowed) (and_both _ _ may later)

  -- a call that may be made
  pub proper-one : (A : ℕ) (c : Caller H) (t : Turn) → A ≤ allowance_of t → may_call t c.how ≡ true → proper_calls feed A c (t ∷ []) ≡ true
  unfolding proper_calls
  proper-one A c t allowed may = proper-whole A c t [] allowed may refl

  -- calls, and more of them
  pub calls-append : (c : Caller H) (ts us : List Turn) → calls_of feed c (ts ++ us) ≡ calls_of feed (calls_of feed c ts) us
  unfolding calls_of
  calls-append c [] us = refl
  calls-append c (t ∷ ts) us = calls-append (called feed c t) ts us

  pub proper-append : (A : ℕ) (c : Caller H) (ts us : List Turn) → proper_calls feed A c ts ≡ true
      → proper_calls feed A (calls_of feed c ts) us ≡ true
      → proper_calls feed A c (ts ++ us) ≡ true
  unfolding calls_of
  proper-append A c [] us h k = k
  proper-append A c (t ∷ ts) us h k =
      let parts = proper-parts A c t ts h in
      proper-whole A c t (ts ++ us) parts.0 parts.1 (proper-append A (called feed c t) ts us parts.2 k)

  -- where one call that may be made leaves the callers standing alike, so do any, and they may be made of the definition too
  module _ {S : Type 0} (step : S → ℕ → Step S) (rest : S → S) (Stands : Caller H → Caller S → Type 0) (A : ℕ)
      (may : (c : Caller H) (k : Caller S) → Stands c k → (t : Turn) → may_call t c.how ≡ true → may_call t k.how ≡ true)
      (one : (c : Caller H) (k : Caller S) → Stands c k → (t : Turn) → A ≤ allowance_of t → may_call t k.how ≡ true
      → Stands (called feed c t) (turn step rest k t)) where
    pub calls-stand : {c : Caller H} {k : Caller S} → Stands c k → (ts : List Turn) → proper_calls feed A c ts ≡ true
        → Stands (calls_of feed c ts) (turns step rest k ts) × (proper step rest A k ts ≡ true)
    unfolding calls_of turns proper
    calls-stand h [] ok = (h, refl)
    calls-stand {c} {k} h (t ∷ ts) ok =
        let parts = proper-parts A c t ts ok in
        let there = may c k h t parts.1 in
        let later = calls-stand {c = called feed c t} {k = turn step rest k t} (one c k h t parts.0 there) ts parts.2 in
        (later.0, and_both _ _ (le-leb A (allowance_of t) parts.0) (and_both _ _ there later.1))

    -- where each such call that neither stops nor is refused tells whether the end has come, so does the last of any, after a
    -- status told before
    module _ (end : S → Option E)
        (tells : (c : Caller H) (k : Caller S) → Stands c k → (t : Turn) → A ≤ allowance_of t → may_call t k.how ≡ true → (x : Status E)
        → ((called feed c t).how ≡ stopped → ⊥) → is_refused (called feed c t).how ≡ false
        → status_told x (feed c.state (c.unread ++ piece_of t) (allowance_of t)).1 ≡ at_end (end (turn step rest k t).state)) where
      pub status-stands : {c : Caller H} {k : Caller S} → Stands c k → (x : Status E)
          → ((c.how ≡ stopped → ⊥) → is_refused c.how ≡ false → x ≡ at_end (end k.state))
          → (ts : List Turn) → proper_calls feed A c ts ≡ true → ((calls_of feed c ts).how ≡ stopped → ⊥)
          → is_refused (calls_of feed c ts).how ≡ false
          → last_status feed x c ts ≡ at_end (end (turns step rest k ts).state)
      unfolding calls_of turns last_status
      status-stands h x before [] ok going fine = before going fine
      status-stands {c} {k} h x before (t ∷ ts) ok going fine =
          let parts = proper-parts A c t ts ok in
          let there = may c k h t parts.1 in
          status-stands {c = called feed c t} {k = turn step rest k t} (one c k h t parts.0 there) (status_told x (feed c.state (c.unread ++ piece_of t) (allowance_of t)).1)
          (tells c k h t parts.0 there x) ts parts.2 going fine

-- ---- the status that an answer tells

-- an answered call that neither stopped nor was refused tells whether the end has come
pub answer-status : {S E : Type 0} (end : S → Option E) (m : Session S) (q : Run S) (x : Status E) {y : Answer E}
    → y ≡ (answered end m q).answer
    → (how_told y ≡ stopped → ⊥) → is_refused (how_told y) ≡ false → status_told x y ≡ at_end (end q.state)
unfolding answered tells status_told is_refused how_told ending
answer-status {S} {E} end m q x e going fine =
    ap (status_told x) e ∙ each q.how (λ z. going (ap how_told e ∙ z)) (sym (ap (λ (y : Answer E). is_refused (how_told y)) e) ∙ fine)
  where
    each : (h : How) → (how_told (ending end m q h (end q.state)).answer ≡ stopped → ⊥)
        → is_refused (how_told (ending end m q h (end q.state)).answer) ≡ false
        → status_told x (ending end m q h (end q.state)).answer ≡ at_end (end q.state)
    each read_all going fine = refl
    each stopped going fine = absurd (going refl)
    each halted going fine = refl
    each (refused_by n) going fine = absurd (true≢false fine)
