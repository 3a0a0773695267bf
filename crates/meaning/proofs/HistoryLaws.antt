-- Laws of what a session has read, whatever bytes come after a stop; under the premises of rule 6.7 the marks of stops change nothing.
use Prim.Native.Nat.{ℕ, ◌-◌, ◌<◌}
use native.Mathlib.Nat.{add-zero}
use mathlib.Core.Path.{◌≡◌, refl, sym, ap, fun_ext, ◌∙◌}
use mathlib.Core.Bool.{true, false, cond}
use mathlib.Core.List.{List, [], ◌∷◌, ◌++◌, map}
use lib.Dec.{leb}
use lib.ListN.{drop}
use Rattle.meaning.specs.Reader.{Step, next, How, read_all, stopped, halted, refused_by, is_all, is_refused, Run, still, after, continued, follow, read_from, call, Turn, piece_of, allowance_of, stream, Caller, ran_by, ready, may_call, having, turn, turns, proper}
use Rattle.meaning.specs.Callers.{Ask}
use Rattle.meaning.proofs.ReaderAsks.{RestLaw, HaltLaw}
use Rattle.meaning.proofs.Histories.{Item, byte, mark, read_items, items_of, going_on, resumed, any_calls, history, asks_of}
use Rattle.meaning.proofs.RunLaws.{same-counts, after-zero, after-continued, follow-continued, continued-same}
use Rattle.meaning.proofs.CallLaws.{Called, nothing, goes, stops, halts, refuses, drop-one-more, take-one-more, called}
use Rattle.meaning.proofs.CallerLaws.{not-refused, proper-parts, calls-outcome}

-- ---- what a session has read, whatever bytes come after a stop

one-item-more : {S : Type 0} (i b : ℕ) (r : Run S) (bs : List ℕ) → items_of (after 1 i r) (b ∷ bs) ≡ byte b ∷ items_of r bs
unfolding items_of after
one-item-more i b r bs = rw (take-one-more r.consumed b bs, drop-one-more r.consumed b bs)

module _ {S : Type 0} (step : S → ℕ → Step S) (rest : S → S) where
  -- bytes alone are read plainly
  pub items-plain : (s : S) (xs : List ℕ) → read_items step rest s (map byte xs) ≡ read_from step s xs
  unfolding read_items read_from
  items-plain s [] = refl
  items-plain s (b ∷ xs) = ap (follow (step s b)) (fun_ext (λ t. fun_ext (λ i. ap (after 1 i) (items-plain t xs))))

  -- reading some items and then others is reading them all
  pub items-append : (s : S) (is js : List Item)
      → read_items step rest s (is ++ js) ≡ continued (read_items step rest s is) (λ t. read_items step rest t js)
  unfolding read_items continued
  items-append s [] js = sym (after-zero _)
  items-append s (byte b ∷ is) js =
      follow-continued (step s b) _ (λ t i. after 1 i (read_items step rest t is)) (λ t. read_items step rest t js)
      (λ t i. ap (after 1 i) (items-append t is js) ∙ after-continued 1 i (read_items step rest t is) (λ u. read_items step rest u js))
  items-append s (mark ∷ is) js = items-append (rest s) is js

  item-as : (s : S) (b : ℕ) (is : List Item) {x : Step S} → step s b ≡ x
      → read_items step rest s (byte b ∷ is) ≡ follow x (λ t i. after 1 i (read_items step rest t is))
  unfolding read_items
  item-as s b is e = ap (λ (x : Step S). follow x (λ t i. after 1 i (read_items step rest t is))) e

  called-history : {a : ℕ} {s : S} {xs : List ℕ} {r : Run S} → Called step rest a s xs r
      → read_items step rest s (items_of r xs) ≡ resumed r
  unfolding read_items items_of resumed still after follow
  called-history nothing = refl
  called-history (goes {i = i} {b} {s} {t} {bs} {r} e fits c) =
      ap (read_items step rest s) (one-item-more i b r bs) ∙ item-as s b (items_of r bs) e ∙ ap (after 1 i) (called-history c)
  called-history (stops e over) = refl
  called-history (halts {b = b} {s} e) = item-as s b [] e
  called-history (refuses {b = b} {s} e) = item-as s b [] e

  -- a call's state, bytes and ink are those of what it has read: the bytes consumed, then one mark exactly when it stopped, and the byte at
  -- which the end came or which was refused
  pub call-history : (a : ℕ) (s : S) (xs : List ℕ)
      → read_items step rest s (items_of (call step rest a s xs) xs) ≡ resumed (call step rest a s xs)
  call-history a s xs = called-history (called step rest a s xs)

module _ {S : Type 0} (step : S → ℕ → Step S) (rest : S → S) where
  -- for any calls, state, bytes and ink in all are those of what they have read
  pub session-history : (s : S) (fs : List Ask) → read_items step rest s (history step rest s fs) ≡ any_calls step rest s fs
  unfolding read_items history any_calls
  session-history s [] = refl
  session-history s (f ∷ fs) =
      let r : Run S = call step rest f.allowance s f.bytes in
      let later : S → Run S = λ t. read_items step rest t (history step rest r.state fs) in
      items-append step rest s (items_of r f.bytes) (history step rest r.state fs)
      ∙ ap (λ q. continued q later) (call-history step rest f.allowance s f.bytes)
      ∙ continued-same (resumed r) later (λ t. any_calls step rest t fs) (session-history r.state fs)

  -- where a stop leaves a byte of some ink as it was, a mark directly before such a byte changes nothing of what is read
  pub marks-vanish : RestLaw step rest
      → (s t : S) (b i : ℕ) (before later : List Item) → step (read_items step rest s before).state b ≡ next t i → 0 < i
      → read_items step rest s (before ++ (mark ∷ byte b ∷ later)) ≡ read_items step rest s (before ++ (byte b ∷ later))
  unfolding read_items
  marks-vanish rest-law s t b i before later e some =
      let u : S = (read_items step rest s before).state in
      items-append step rest s before (mark ∷ byte b ∷ later)
      ∙ continued-same (read_items step rest s before) _ _ (item-as step rest (rest u) b later (rest-law u t b i e some ∙ sym e))
      ∙ sym (items-append step rest s before (byte b ∷ later))

-- ---- under the premises of rule 6.7 the marks change nothing

module _ {S : Type 0} (step : S → ℕ → Step S) (rest : S → S) where
  -- an ended caller stays so, whatever piece comes next
  abbrev pub StaysHalted : Caller S → Type 0
  StaysHalted c = c.how ≡ halted → (k : ℕ) (zs : List ℕ) → call step rest k c.state (c.unread ++ zs) ≡ still c.state halted

  nothing-after : (r : Run S) → continued (resumed r) (λ t. still t read_all) ≡ resumed r
  unfolding continued resumed going_on still after
  nothing-after r = go r.how
    where
      full : How → Run S
      full h = record { state = r.state; consumed = r.consumed; ink = r.ink; how = h }

      go : (h : How)
          → cond (is_all (going_on h)) (after r.consumed r.ink (still r.state read_all)) (full (going_on h)) ≡ full (going_on h)
      go read_all = same-counts r.state read_all (add-zero _) (add-zero _)
      go stopped = same-counts r.state read_all (add-zero _) (add-zero _)
      go halted = refl
      go (refused_by n) = refl

module _ {S : Type 0} (step : S → ℕ → Step S) (rest : S → S) (halt-law : HaltLaw step) where
  -- a call that came to the end leaves a state in which every later call does
  pub halts-again : {a : ℕ} {s : S} {xs : List ℕ} {r : Run S} → Called step rest a s xs r → r.how ≡ halted → (k : ℕ) (zs : List ℕ)
      → call step rest k r.state (drop r.consumed xs ++ zs) ≡ still r.state halted
  unfolding still after call
  halts-again nothing h k zs = cc
  halts-again (goes {b = b} {bs = bs} {r} e fits c) h k zs =
      ap (λ (us : List ℕ). call step rest k r.state (us ++ zs)) (drop-one-more r.consumed b bs) ∙ halts-again c h k zs
  halts-again (stops e over) h k zs = cc
  halts-again (halts {b = b} {s} {t} {bs} e) h k zs =
      ap
      (λ (x : Step S). follow x (λ u i. cond (leb i k) (after 1 i (call step rest (k - i) u (bs ++ zs))) (still (rest t) stopped)))
      (halt-law s t b e)
  halts-again (refuses e) h k zs = cc

  one-call : (c : Caller S) (t : Turn) (later : S → Run S) → may_call t c.how ≡ true
      → StaysHalted step rest c
      → continued (resumed (ran_by c)) (λ u. continued (resumed (call step rest (allowance_of t) u (c.unread ++ piece_of t))) later)
      ≡ continued (resumed (ran_by (turn step rest c t))) later
  unfolding continued resumed going_on ran_by turn having still after is_refused
  one-call c t later may stays = go c.how refl may
    where
      us : List ℕ
      us = c.unread ++ piece_of t

      r : Run S
      r = call step rest (allowance_of t) c.state us

      full : How → Run S
      full h = record { state = c.state; consumed = c.consumed; ink = c.ink; how = h }

      go : (h : How) → c.how ≡ h → may_call t h ≡ true
          → cond (is_all (going_on h)) (after c.consumed c.ink (continued (resumed r) later)) (full (going_on h))
          ≡ continued (resumed (ran_by (having step rest c us r))) later
      go read_all e m = after-continued c.consumed c.ink (resumed r) later
      go stopped e m = after-continued c.consumed c.ink (resumed r) later
      go halted e m =
          sym
          (ap (λ (q : Run S). continued (resumed (ran_by (having step rest c us q))) later) (stays e (allowance_of t) (piece_of t))
          ∙ same-counts c.state halted (add-zero _) (add-zero _))
      go (refused_by n) e m = let never : true ≡ false = not-refused t (refused_by n) m in cc

  turns-any_calls : (A : ℕ) (c : Caller S) (ts : List Turn) → proper step rest A c ts ≡ true
      → StaysHalted step rest c
      → continued (resumed (ran_by c)) (λ u. any_calls step rest u (asks_of step rest c ts)) ≡ resumed (ran_by (turns step rest c ts))
  unfolding any_calls asks_of turns turn having
  turns-any_calls A c [] ok stays = nothing-after step rest (ran_by c)
  turns-any_calls A c (t ∷ ts) ok stays =
      let parts = proper-parts step rest A c t ts ok in
      one-call c t (λ u. any_calls step rest u (asks_of step rest (turn step rest c t) ts)) parts.1 stays
      ∙ turns-any_calls A (turn step rest c t) ts parts.2
      (halts-again (called step rest (allowance_of t) c.state (c.unread ++ piece_of t)))

  -- a caller that presents what was left unread stands where what its calls have read leads
  pub caller-history : (A : ℕ) (s : S) (ts : List Turn) → proper step rest A (ready s) ts ≡ true
      → read_items step rest s (history step rest s (asks_of step rest (ready s) ts)) ≡ resumed (ran_by (turns step rest (ready s) ts))
  unfolding continued resumed going_on ran_by ready
  caller-history A s ts ok =
      session-history step rest s (asks_of step rest (ready s) ts)
      ∙ sym (after-zero _)
      ∙ turns-any_calls A (ready s) ts ok (λ h k zs. cc)

resumed-same : {S : Type 0} (r : Run S) → (r.how ≡ stopped → ⊥) → resumed r ≡ r
unfolding resumed going_on
resumed-same r going = ap (λ (h : How). record { state = r.state; consumed = r.consumed; ink = r.ink; how = h }) (same r.how going)
  where
    same : (h : How) → (h ≡ stopped → ⊥) → going_on h ≡ h
    same read_all going = refl
    same stopped going = absurd (going refl)
    same halted going = refl
    same (refused_by n) going = refl

module _ {S : Type 0} (step : S → ℕ → Step S) (rest : S → S) (rest-law : RestLaw step rest) (halt-law : HaltLaw step) where
  -- for such a caller, unless the last call stopped, what the calls have read, marks and all, is the whole stream read plainly
  pub history-plain : (A : ℕ) (s : S) (ts : List Turn) → proper step rest A (ready s) ts ≡ true
      → ((turns step rest (ready s) ts).how ≡ stopped → ⊥)
      → read_items step rest s (history step rest s (asks_of step rest (ready s) ts)) ≡ read_from step s (stream ts)
  unfolding ran_by
  history-plain A s ts ok going =
      caller-history step rest halt-law A s ts ok
      ∙ resumed-same (ran_by (turns step rest (ready s) ts)) going
      ∙ sym (calls-outcome step rest rest-law halt-law A s ts ok going)
