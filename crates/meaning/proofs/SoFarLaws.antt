-- Laws of what a caller has read so far: after every call, stopped or not, it stands where the bytes consumed so far lead, as if
-- they had been read in one go. Nothing of SIXEL stands here.
use Prim.Native.Nat.{ℕ, ◌+◌, ◌-◌, ◌≤◌, ◌<◌}
use native.Mathlib.Omega.{arith}
use mathlib.Core.Path.{◌≡◌, refl, sym, ap, ◌∙◌, subst}
use mathlib.Core.Bool.{true, cond, true≢false}
use mathlib.Core.List.{List, [], ◌∷◌, ◌++◌, append-nil, append_assoc}
use borrow.Author.Tests.{le-leb}
use lib.Dec.{leb}
use lib.ListN.{length, take, drop, take-append-drop}
use lib.Seq.{take_at, drop-length}
use Rattle.meaning.specs.Reader.{Step, next, halt, refuse, How, read_all, stopped, halted, refused_by, is_refused, is_ongoing, Run, still, after, continued, follow, read_from, then_read, call, Turn, piece_of, allowance_of, stream, Caller, ready, having, turn, turns, proper}
use Rattle.meaning.proofs.ReaderAsks.{RestLaw, HaltLaw, CapLaw}
use Rattle.meaning.proofs.RunLaws.{read-append, read_as_lem, read-all}
use Rattle.meaning.proofs.CallLaws.{take-one-more, called, StoppedAt, call-plain, call-reads, call-stopped-at}
use Rattle.meaning.proofs.CallerLaws.{not-refused, proper-parts}
use Rattle.meaning.proofs.HistoryLaws.{StaysHalted, halts-again}

-- what the last call left of where the bytes consumed lead: that place, with nothing unread; or what a stop leaves of it, before a
-- byte that has ink there
pub data LeftBy {S : Type 0} (step : S → ℕ → Step S) (rest : S → S) : How → S → S → List ℕ → Type 0 where
  all_read : {here : S} → LeftBy step rest read_all here here []
  stopped_at : {here t : S} {b i : ℕ} {later : List ℕ} → step here b ≡ next t i → 0 < i
      → LeftBy step rest stopped here (rest here) (b ∷ later)

-- where a caller stands that has been given some bytes: those that were read lead to a place with its counts, and the last call left this
pub record SoFar {S : Type 0} (step : S → ℕ → Step S) (rest : S → S) (s : S) (xs : List ℕ) (c : Caller S) : Type 0 where
  pub read : List ℕ
  pub here : S
  pub split : xs ≡ read ++ c.unread
  pub ran : read_from step s read ≡ record { state = here; consumed = c.consumed; ink = c.ink; how = read_all }
  pub left : LeftBy step rest c.how here c.state c.unread

-- a call that read all did not stop
all-going : {h : How} → h ≡ read_all → h ≡ stopped → ⊥
all-going e z = let never : ◌≡◌ {A = ℕ} 0 1 = cc in omega arith

module _ {S : Type 0} (step : S → ℕ → Step S) (rest : S → S) where
  -- nothing was read, of nothing
  ready-so-far : (s : S) → SoFar step rest s [] (ready s)
  unfolding ready read_from still
  ready-so-far s = record { read = []; here = s; split = refl; ran = refl; left = all_read }

  all_left : {h : How} {here state : S} {unread : List ℕ} → h ≡ read_all → state ≡ here → unread ≡ [] → LeftBy step rest h here state unread
  all_left p q r = rw (p, q, r) all_read

  stop-left : {h : How} {here state t : S} {b i : ℕ} {unread later : List ℕ} → h ≡ stopped → state ≡ rest here → unread ≡ b ∷ later
      → step here b ≡ next t i → 0 < i → LeftBy step rest h here state unread
  stop-left p q r e some = rw (p, q, r) (stopped_at e some)

  -- the bytes read are the prefix of those given that has as many as were consumed
  pub so-far-read : {s : S} {xs : List ℕ} {c : Caller S} (f : SoFar step rest s xs c) → f.read ≡ take c.consumed xs
  so-far-read {s} {xs} {c} f =
      let all : (read_from step s f.read).consumed ≡ length f.read = read-all step s f.read (ap (λ (r : Run S). r.how) f.ran) in
      let n : length f.read ≡ c.consumed = sym all ∙ ap (λ (r : Run S). r.consumed) f.ran in
      sym (take_at f.read c.unread c.consumed n) ∙ ap (take c.consumed) (sym f.split)

  module _ (s : S) (xs : List ℕ) (c : Caller S) (f : SoFar step rest s xs c) (z : List ℕ) where
    -- what is presented next
    presented : List ℕ
    presented = c.unread ++ z

    given : xs ++ z ≡ f.read ++ presented
    unfolding presented
    given = ap (λ (us : List ℕ). us ++ z) f.split ∙ append_assoc f.read c.unread z

    -- what was read and then more
    further : (us : List ℕ) → read_from step s (f.read ++ us) ≡ after c.consumed c.ink (read_from step f.here us)
    unfolding then_read continued
    further us = read-append step s f.read us ∙ ap (λ (r : Run S). then_read step r us) f.ran

    having-all : (q : Run S) → q.how ≡ read_all → q.consumed ≡ length presented → read_from step f.here presented ≡ q
        → SoFar step rest s (xs ++ z) (having step rest c presented q)
    unfolding having after
    having-all q e all plain =
        let none_left : drop q.consumed presented ≡ [] = ap (λ (n : ℕ). drop n presented) all ∙ drop-length presented in
        record {
          read = f.read ++ presented;
          here = q.state;
          split = given ∙ sym (append-nil _) ∙ ap (λ (us : List ℕ). (f.read ++ presented) ++ us) (sym none_left);
          ran = further presented ∙ ap (after c.consumed c.ink) plain ∙ ap counted e;
          left = all_left e refl none_left;
        }
      where
        counted : How → Run S
        counted h = record { state = q.state; consumed = c.consumed + q.consumed; ink = c.ink + q.ink; how = h }

    having-stopped : (a : ℕ) (q : Run S) → q.how ≡ stopped → StoppedAt step rest a f.here presented q
        → SoFar step rest s (xs ++ z) (having step rest c presented q)
    unfolding having after
    having-stopped a q e p =
        record {
          read = f.read ++ take q.consumed presented;
          here = p.last;
          split =
              given
              ∙ ap (λ (us : List ℕ). f.read ++ us) (sym (take-append-drop q.consumed presented))
              ∙ sym (append_assoc f.read _ _);
          ran = further (take q.consumed presented) ∙ ap (after c.consumed c.ink) p.before;
          left = stop-left e p.rested p.unread p.reads (omega (arith, p.exceeds));
        }

module _ {S : Type 0} (step : S → ℕ → Step S) (rest : S → S) (rest-law : RestLaw step rest) (cap : ℕ) (cap-law : CapLaw step cap)
    (A : ℕ) (fits : cap ≤ A) where
  -- the next call does what it would do from where the bytes consumed lead
  left-calls : {h : How} {here state : S} {unread : List ℕ} → LeftBy step rest h here state unread → (a : ℕ) → A ≤ a → (z : List ℕ)
      → call step rest a state (unread ++ z) ≡ call step rest a here (unread ++ z)
  unfolding call follow
  left-calls all_read a enough z = refl
  left-calls (stopped_at {here} {t} {b} {i} {later} e some) a enough z =
      ap (λ (x : Step S). follow x (on (rest here))) (rest-law here t b i e some)
      ∙ first (rest here) ∙ sym (first here)
      ∙ ap (λ (x : Step S). follow x (on here)) (sym e)
    where
      on : S → S → ℕ → Run S
      on u v j = cond (leb j a) (after 1 j (call step rest (a - j) v (later ++ z))) (still (rest u) stopped)

      first : (u : S) → on u t i ≡ after 1 i (call step rest (a - i) t (later ++ z))
      first u = let most : i ≤ cap = cap-law here t b i e in rw (le-leb i a (omega arith)) refl

  turn-so-far : (s : S) (xs : List ℕ) (c : Caller S) (t : Turn) → SoFar step rest s xs c → A ≤ allowance_of t
      → is_ongoing (turn step rest c t).how ≡ true → SoFar step rest s (xs ++ piece_of t) (turn step rest c t)
  unfolding turn having presented is_ongoing
  turn-so-far s xs c t f enough going =
      subst (λ (q : Run S). is_ongoing q.how ≡ true → SoFar step rest s (xs ++ z) (having step rest c us q))
      (sym (left-calls f.left a enough z)) (go r.how refl) going
    where
      z : List ℕ
      z = piece_of t

      us : List ℕ
      us = c.unread ++ z

      a : ℕ
      a = allowance_of t

      r : Run S
      r = call step rest a f.here us

      go : (h : How) → r.how ≡ h → is_ongoing h ≡ true → SoFar step rest s (xs ++ z) (having step rest c us r)
      go read_all e on =
          having-all step rest s xs c f z r e (call-reads step rest a f.here us e) (call-plain step rest a f.here us (all-going e))
      go stopped e on = having-stopped step rest s xs c f z a r e (call-stopped-at step rest a f.here us e)
      go halted e on = absurd (true≢false (sym on))
      go (refused_by n) e on = absurd (true≢false (sym on))

-- ---- all calls of a caller

module _ {S : Type 0} (step : S → ℕ → Step S) (rest : S → S) where
  -- after a refusal no call may be made
  refused-stays : (A : ℕ) (c : Caller S) (ts : List Turn) {n : ℕ} → proper step rest A c ts ≡ true → c.how ≡ refused_by n
      → (turns step rest c ts).how ≡ refused_by n
  unfolding turns is_refused
  refused-stays A c [] ok e = e
  refused-stays A c (t ∷ ts) ok e =
      absurd (true≢false (sym (ap is_refused e) ∙ not-refused t c.how (proper-parts step rest A c t ts ok).1))

  -- after an end every call comes to it again
  halted-stays : HaltLaw step → (A : ℕ) (c : Caller S) (ts : List Turn) → proper step rest A c ts ≡ true → StaysHalted step rest c
      → c.how ≡ halted → (turns step rest c ts).how ≡ halted
  unfolding turns turn having still
  halted-stays halt-law A c [] ok stays e = e
  halted-stays halt-law A c (t ∷ ts) ok stays e =
      halted-stays halt-law A (turn step rest c t) ts (proper-parts step rest A c t ts ok).2
      (halts-again step rest halt-law (called step rest (allowance_of t) c.state (c.unread ++ piece_of t)))
      (ap (λ (r : Run S). r.how) (stays e (allowance_of t) (piece_of t)))

module _ {S : Type 0} (step : S → ℕ → Step S) (rest : S → S) (rest-law : RestLaw step rest) (halt-law : HaltLaw step) (cap : ℕ)
    (cap-law : CapLaw step cap) (A : ℕ) (fits : cap ≤ A) (s : S) where
  -- where the calls go on to the last, each of them does
  turn-ongoing : (c : Caller S) (t : Turn) (ts : List Turn) → proper step rest A (turn step rest c t) ts ≡ true
      → is_ongoing (turns step rest (turn step rest c t) ts).how ≡ true → is_ongoing (turn step rest c t).how ≡ true
  unfolding is_ongoing turn having
  turn-ongoing c t ts ok going = go (turn step rest c t).how refl
    where
      ended : StaysHalted step rest (turn step rest c t)
      ended = halts-again step rest halt-law (called step rest (allowance_of t) c.state (c.unread ++ piece_of t))

      go : (h : How) → (turn step rest c t).how ≡ h → is_ongoing h ≡ true
      go read_all e = refl
      go stopped e = refl
      go halted e = sym (ap is_ongoing (halted-stays step rest halt-law A (turn step rest c t) ts ok ended e)) ∙ going
      go (refused_by n) e = sym (ap is_ongoing (refused-stays step rest A (turn step rest c t) ts ok e)) ∙ going

  turns-so-far : (xs : List ℕ) (c : Caller S) (ts : List Turn) → SoFar step rest s xs c → proper step rest A c ts ≡ true
      → is_ongoing (turns step rest c ts).how ≡ true → SoFar step rest s (xs ++ stream ts) (turns step rest c ts)
  unfolding turns stream
  turns-so-far xs c [] f ok going = rw (append-nil xs) f
  turns-so-far xs c (t ∷ ts) f ok going =
      let parts = proper-parts step rest A c t ts ok in
      let next_one : SoFar step rest s (xs ++ piece_of t) (turn step rest c t) =
      turn-so-far step rest rest-law cap cap-law A fits s xs c t f parts.0 (turn-ongoing c t ts parts.2 going) in
      rw (sym (append_assoc xs (piece_of t) (stream ts))) (turns-so-far (xs ++ piece_of t) (turn step rest c t) ts next_one parts.2 going)

  -- after every call that came to no end and no refusal, a caller stands where the bytes consumed so far lead
  pub caller-so-far : (ts : List Turn) → proper step rest A (ready s) ts ≡ true → is_ongoing (turns step rest (ready s) ts).how ≡ true
      → SoFar step rest s (stream ts) (turns step rest (ready s) ts)
  caller-so-far ts = turns-so-far [] (ready s) ts (ready-so-far step rest s)

-- ---- reading that came to an end

-- before the byte at which a run ended it had read all, as many bytes and as much ink
pub record HaltedAt {S : Type 0} (step : S → ℕ → Step S) (s : S) (xs : List ℕ) (r : Run S) : Type 0 where
  pub last : S
  pub byte : ℕ
  pub before : read_from step s (take r.consumed xs) ≡ record { state = last; consumed = r.consumed; ink = r.ink; how = read_all }
  pub halts : step last byte ≡ halt r.state

pub halted-at : {S : Type 0} (step : S → ℕ → Step S) (s : S) (xs : List ℕ) → (read_from step s xs).how ≡ halted
    → HaltedAt step s xs (read_from step s xs)
unfolding read_from still after follow
halted-at step s [] e = absurd (let never : ◌≡◌ {A = ℕ} 0 1 = cc in omega arith)
halted-at {S} step s (b ∷ bs) e = go (step s b) refl (λ t. halted-at step t bs) e
  where
    on : S → ℕ → Run S
    on t i = after 1 i (read_from step t bs)

    go : (x : Step S) → step s b ≡ x → ((t : S) → (read_from step t bs).how ≡ halted → HaltedAt step t bs (read_from step t bs))
        → (follow x on).how ≡ halted → HaltedAt step s (b ∷ bs) (follow x on)
    go (next t i) q later e =
        let h : HaltedAt step t bs (read_from step t bs) = later t e in
        record {
          last = h.last;
          byte = h.byte;
          before =
              ap (read_from step s) (take-one-more (read_from step t bs).consumed b bs)
              ∙ read_as_lem step s b (take (read_from step t bs).consumed bs) q
              ∙ ap (after 1 i) h.before;
          halts = h.halts;
        }
    go (halt t) q later e = record { last = s; byte = b; before = refl; halts = q }
    go (refuse t n) q later e = absurd (let never : ◌≡◌ {A = ℕ} 0 1 = cc in omega arith)
