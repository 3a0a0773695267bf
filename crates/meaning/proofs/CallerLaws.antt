-- Laws of any caller that presents what was left unread: its outcome is that of reading the whole, and what an ink allowance costs in calls
-- (demand 3). Nothing of SIXEL stands here.
use Prim.Native.Nat.{ℕ, suc, ◌+◌, ◌-◌, ◌*◌, ◌/◌, ◌≤◌, ◌<◌}
use native.Mathlib.Nat.{le-div_iff_mul-le}
use native.Mathlib.Omega.{arith}
use mathlib.Core.Path.{◌≡◌, refl, sym, ap, ◌∙◌}
use mathlib.Core.Bool.{Bool, true, false, cond}
use mathlib.Core.List.{List, [], ◌∷◌, ◌++◌, append-nil, append_assoc}
use lib.Dec.{leb}
use lib.ListN.{length, drop}
use borrow.Author.Tests.{leb-true}
use Rattle.meaning.specs.Reader.{Step, How, read_all, stopped, halted, refused_by, is_refused, Run, after, read_from, call, Turn, fresh, again, piece_of, allowance_of, stream, pieces, Caller, ran_by, ready, may_call, having, turn, turns, proper}
use Rattle.meaning.proofs.ReaderAsks.{RestLaw, HaltLaw, CapLaw}
use Rattle.meaning.proofs.Cases.{cond_map, cond_no, both}
use Rattle.meaning.proofs.RunLaws.{after-zero, after-after}
use Rattle.meaning.proofs.CallLaws.{call-plain, call-stops, onward, call-onward}

-- ---- a caller that presents what was left unread: the outcome is that of reading the whole

-- what they come to if all that is left, and then zs, is read with no allowance
unfoldable pub ahead : {S : Type 0} → (S → ℕ → Step S) → Caller S → List ℕ → Run S
unfolding after read_from is_refused ran_by
ahead step c zs = cond (is_refused c.how) (ran_by c) (after c.consumed c.ink (read_from step c.state (c.unread ++ zs)))

-- a call that may be made comes after no refusal
pub not-refused : (t : Turn) (h : How) → may_call t h ≡ true → is_refused h ≡ false
unfolding may_call is_refused
not-refused t read_all may = refl
not-refused t stopped may = refl
not-refused t halted may = refl
not-refused (fresh p a) (refused_by n) may = sym may
not-refused (again a) (refused_by n) may = sym may

cond-ink : {S : Type 0} (n : ℕ) (c : Bool) (q r : Run S) → n ≤ q.ink → n ≤ r.ink → n ≤ (cond c q r).ink
cond-ink n true q r p o = p
cond-ink n false q r p o = o

module _ {S : Type 0} (step : S → ℕ → Step S) where
  ink-ahead : (c : Caller S) (zs : List ℕ) → c.ink ≤ (ahead step c zs).ink
  unfolding ahead after
  ink-ahead c zs = cond-ink c.ink (is_refused c.how) _ _ (omega arith) (omega arith)

  ready-settles : (s : S) → ahead step (ready s) [] ≡ ran_by (ready s)
  unfolding ahead ready
  ready-settles s = refl

module _ {S : Type 0} (step : S → ℕ → Step S) (rest : S → S) where
  -- a caller's next call has its allowance and may be made, and so may those after it
  pub proper-parts : (A : ℕ) (c : Caller S) (t : Turn) (ts : List Turn) → proper step rest A c (t ∷ ts) ≡ true
      → (A ≤ allowance_of t) × (may_call t c.how ≡ true) × (proper step rest A (turn step rest c t) ts ≡ true)
  unfolding proper
  proper-parts A c t ts ok =
      let outer = both (leb A (allowance_of t)) _ ok in
      let inner = both (may_call t c.how) _ outer.1 in
      (leb-true A (allowance_of t) outer.0, inner.0, inner.1)

  having-ahead : (c : Caller S) (us zs : List ℕ) (r : Run S)
      → after c.consumed c.ink (onward step r us zs) ≡ ahead step (having step rest c us r) zs
  unfolding onward ahead having after
  having-ahead c us zs r =
      cond_map (after c.consumed c.ink) (is_refused r.how) _ _
      ∙ ap (cond (is_refused r.how) (after c.consumed c.ink r))
      (sym (after-after c.consumed c.ink r.consumed r.ink (read_from step r.state (drop r.consumed us ++ zs))))

module _ {S : Type 0} (step : S → ℕ → Step S) (rest : S → S) (rest-law : RestLaw step rest) (halt-law : HaltLaw step) where
  turn-ahead : (c : Caller S) (t : Turn) (zs : List ℕ) → may_call t c.how ≡ true
      → ahead step c (piece_of t ++ zs) ≡ ahead step (turn step rest c t) zs
  unfolding ahead turn
  turn-ahead c t zs may =
      cond_no _ _ _ (not-refused t c.how may)
      ∙ ap (λ (us : List ℕ). after c.consumed c.ink (read_from step c.state us)) (sym (append_assoc c.unread (piece_of t) zs))
      ∙ ap (after c.consumed c.ink) (call-onward step rest rest-law halt-law (allowance_of t) c.state (c.unread ++ piece_of t) zs)
      ∙ having-ahead step rest c (c.unread ++ piece_of t) zs _

  turns-ahead : (A : ℕ) (c : Caller S) (ts : List Turn) → proper step rest A c ts ≡ true
      → ahead step c (stream ts) ≡ ahead step (turns step rest c ts) []
  unfolding turns stream
  turns-ahead A c [] ok = refl
  turns-ahead A c (t ∷ ts) ok =
      let parts = proper-parts step rest A c t ts ok in
      turn-ahead c t (stream ts) parts.1 ∙ turns-ahead A (turn step rest c t) ts parts.2

  -- the whole reading is what the calls came to, and then what they left unread
  pub calls-onward : (A : ℕ) (s : S) (ts : List Turn) → proper step rest A (ready s) ts ≡ true
      → read_from step s (stream ts) ≡ ahead step (turns step rest (ready s) ts) []
  unfolding ahead ready
  calls-onward A s ts ok = sym (after-zero _) ∙ turns-ahead A (ready s) ts ok

  turn-settles : (c : Caller S) (t : Turn) → ((turn step rest c t).how ≡ stopped → ⊥)
      → ahead step (turn step rest c t) [] ≡ ran_by (turn step rest c t)
  unfolding turn ran_by after having
  turn-settles c t going =
      let us : List ℕ = c.unread ++ piece_of t in
      sym (having-ahead step rest c us [] _)
      ∙ ap (after c.consumed c.ink)
      (sym (call-onward step rest rest-law halt-law (allowance_of t) c.state us [])
      ∙ ap (read_from step c.state) (append-nil us)
      ∙ call-plain step rest (allowance_of t) c.state us going)

  turns-settle : (c : Caller S) (ts : List Turn) → ((c.how ≡ stopped → ⊥) → ahead step c [] ≡ ran_by c)
      → ((turns step rest c ts).how ≡ stopped → ⊥) → ahead step (turns step rest c ts) [] ≡ ran_by (turns step rest c ts)
  unfolding turns
  turns-settle c [] here = here
  turns-settle c (t ∷ ts) here = turns-settle (turn step rest c t) ts (turn-settles c t)

  -- unless the last call stopped, the calls came to what reading the whole comes to: state, bytes and ink in all, and the end or refusal
  pub calls-outcome : (A : ℕ) (s : S) (ts : List Turn) → proper step rest A (ready s) ts ≡ true
      → ((turns step rest (ready s) ts).how ≡ stopped → ⊥) → read_from step s (stream ts) ≡ ran_by (turns step rest (ready s) ts)
  calls-outcome A s ts ok going = calls-onward A s ts ok ∙ turns-settle (ready s) ts (λ h. ready-settles step s) going

-- ---- how many calls it takes

-- how many calls had no new piece
unfoldable pub agains : List Turn → ℕ
agains [] = 0
agains (fresh p a ∷ ts) = agains ts
agains (again a ∷ ts) = suc (agains ts)

length-turns : (ts : List Turn) → length ts ≡ pieces ts + agains ts
unfolding pieces agains
length-turns [] = refl
length-turns (fresh p a ∷ ts) = omega (arith, length-turns ts)
length-turns (again a ∷ ts) = omega (arith, length-turns ts)

-- a stop has paid D for the call that it makes necessary
unfoldable paid : ℕ → How → ℕ
paid D read_all = 0
paid D stopped = D
paid D halted = 0
paid D (refused_by n) = 0

again-paid : (D a : ℕ) (h : How) → may_call (again a) h ≡ true → paid D h ≡ D
unfolding may_call paid
again-paid D a read_all may = cc
again-paid D a stopped may = refl
again-paid D a halted may = cc
again-paid D a (refused_by n) may = cc

module _ {S : Type 0} (step : S → ℕ → Step S) (rest : S → S) (cap : ℕ)
    (cap-law : CapLaw step cap) (A D : ℕ) (enough : D + cap ≤ A + 1) where
  call-pays : (a : ℕ) (s : S) (xs : List ℕ) (h : How) → (call step rest a s xs).how ≡ h → A ≤ a → paid D h ≤ (call step rest a s xs).ink
  unfolding paid
  call-pays a s xs read_all e fits = omega arith
  call-pays a s xs stopped e fits = omega (arith, call-stops step rest cap cap-law a s xs e)
  call-pays a s xs halted e fits = omega arith
  call-pays a s xs (refused_by n) e fits = omega arith

  turn-pays : (c : Caller S) (t : Turn) → A ≤ allowance_of t → c.ink + paid D (turn step rest c t).how ≤ (turn step rest c t).ink
  unfolding turn having
  turn-pays c t fits = omega (arith, call-pays (allowance_of t) c.state (c.unread ++ piece_of t) _ refl fits)

  agains-paid : (c : Caller S) (ts : List Turn) → proper step rest A c ts ≡ true
      → agains ts * D + c.ink ≤ (turns step rest c ts).ink + paid D c.how
  unfolding turns agains
  agains-paid c [] ok = omega arith
  agains-paid c (fresh p a ∷ ts) ok =
      let parts = proper-parts step rest A c (fresh p a) ts ok in
      omega (arith, turn-pays c (fresh p a) parts.0, agains-paid (turn step rest c (fresh p a)) ts parts.2)
  agains-paid c (again a ∷ ts) ok =
      let parts = proper-parts step rest A c (again a) ts ok in
      omega (
        arith,
        turn-pays c (again a) parts.0,
        again-paid D a c.how parts.1,
        agains-paid (turn step rest c (again a)) ts parts.2,
      )

module _ {S : Type 0} (step : S → ℕ → Step S) (rest : S → S) (rest-law : RestLaw step rest) (halt-law : HaltLaw step)
    (cap : ℕ) (cap-law : CapLaw step cap) where
  -- the calls are at most the pieces and I / (A - cap + 1), rounded down, where I is the ink of the whole reading
  pub calls-bound : (A : ℕ) (s : S) (ts : List Turn) → cap ≤ A → proper step rest A (ready s) ts ≡ true
      → length ts ≤ pieces ts + (read_from step s (stream ts)).ink / (A - cap + 1)
  unfolding ready paid
  calls-bound A s ts fits ok =
      let D : ℕ = A - cap + 1 in
      let c : Caller S = turns step rest (ready s) ts in
      let I : ℕ = (read_from step s (stream ts)).ink in
      let all : c.ink ≤ I = rw (calls-onward step rest rest-law halt-law A s ts ok) (ink-ahead step c []) in
      let pays : agains ts * D + 0 ≤ c.ink + 0 = agains-paid step rest cap cap-law A D (omega arith) (ready s) ts ok in
      let some : agains ts * D ≤ I = omega arith in
      let pos : 0 < D = omega arith in
      omega (arith, length-turns ts, (le-div_iff_mul-le pos).1 some)
