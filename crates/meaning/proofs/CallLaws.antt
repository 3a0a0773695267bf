-- Laws of any reader's calls: what a call with an ink allowance does, and that reading goes on from what it left.
use Prim.Native.Nat.{ℕ, ◌+◌, ◌-◌, ◌≤◌, ◌<◌}
use native.Mathlib.Nat.{add_comm}
use native.Mathlib.Numerals.{add-one}
use native.Mathlib.Omega.{arith}
use mathlib.Core.Path.{◌≡◌, refl, sym, ap, subst, ◌∙◌}
use mathlib.Core.Bool.{Bool, true, false, cond}
use mathlib.Core.List.{List, [], ◌∷◌, ◌++◌}
use lib.Dec.{leb}
use lib.ListN.{length, take, drop}
use borrow.Author.Tests.{leb-true, leb-false}
use Rattle.meaning.specs.Reader.{Step, next, halt, refuse, How, read_all, stopped, halted, refused_by, is_refused, Run, still, after, follow, read_from, call}
use Rattle.meaning.proofs.ReaderAsks.{RestLaw, HaltLaw, CapLaw}
use Rattle.meaning.proofs.Cases.{cond_map}
use Rattle.meaning.proofs.RunLaws.{after-zero, after-after, read_as_lem}

-- ---- what a call is, case by case

-- the ways of a call: nothing to read; a byte read and the call goes on; a stop, an end or a refusal at the next byte
pub data Called {S : Type 0} (step : S → ℕ → Step S) (rest : S → S) : ℕ → S → List ℕ → Run S → Type 0 where
  nothing : {a : ℕ} {s : S} → Called step rest a s [] (still s read_all)
  goes : {a i b : ℕ} {s t : S} {bs : List ℕ} {r : Run S} → step s b ≡ next t i → i ≤ a → Called step rest (a - i) t bs r
      → Called step rest a s (b ∷ bs) (after 1 i r)
  stops : {a i b : ℕ} {s t : S} {bs : List ℕ} → step s b ≡ next t i → a < i → Called step rest a s (b ∷ bs) (still (rest s) stopped)
  halts : {a b : ℕ} {s t : S} {bs : List ℕ} → step s b ≡ halt t → Called step rest a s (b ∷ bs) (still t halted)
  refuses : {a b n : ℕ} {s t : S} {bs : List ℕ} → step s b ≡ refuse t n → Called step rest a s (b ∷ bs) (still t (refused_by n))

-- one byte more is dropped
pub drop-one-more : (n b : ℕ) (bs : List ℕ) → drop (1 + n) (b ∷ bs) ≡ drop n bs
drop-one-more n b bs = rw (add_comm 1 n, add-one n)

-- one byte more is taken
pub take-one-more : (n b : ℕ) (bs : List ℕ) → take (1 + n) (b ∷ bs) ≡ b ∷ take n bs
take-one-more n b bs = rw (add_comm 1 n, add-one n)

-- where a call stopped: the bytes consumed lead to a last state, whose rest the call leaves; and there the next byte, which is
-- unread, would be read with an ink above what is left
pub record StoppedAt {S : Type 0} (step : S → ℕ → Step S) (rest : S → S) (a : ℕ) (s : S) (xs : List ℕ) (r : Run S) : Type 0 where
  pub last : S
  pub byte : ℕ
  pub later : List ℕ
  pub reached : S
  pub cost : ℕ
  pub before : read_from step s (take r.consumed xs) ≡ record { state = last; consumed = r.consumed; ink = r.ink; how = read_all }
  pub rested : r.state ≡ rest last
  pub unread : drop r.consumed xs ≡ byte ∷ later
  pub reads : step last byte ≡ next reached cost
  pub exceeds : a - r.ink < cost

abbrev Stops : How → Type 0
Stops read_all = ⊥
Stops stopped = Unit
Stops halted = ⊥
Stops (refused_by n) = ⊥

module _ {S : Type 0} (step : S → ℕ → Step S) (rest : S → S) where
  one_byte : (a : ℕ) (s : S) (b : ℕ) (bs : List ℕ) (x : Step S) → step s b ≡ x
      → ((a : ℕ) (t : S) → Called step rest a t bs (call step rest a t bs))
      → Called step rest a s (b ∷ bs)
      (follow x (λ t i. cond (leb i a) (after 1 i (call step rest (a - i) t bs)) (still (rest s) stopped)))
  unfolding follow
  one_byte a s b bs (next t i) e later = within (leb i a) refl
    where
      within : (fits : Bool) → leb i a ≡ fits
          → Called step rest a s (b ∷ bs) (cond fits (after 1 i (call step rest (a - i) t bs)) (still (rest s) stopped))
      within true h = goes e (leb-true i a h) (later (a - i) t)
      within false h = stops e (leb-false i a h)
  one_byte a s b bs (halt t) e later = halts e
  one_byte a s b bs (refuse t n) e later = refuses e

  -- every call goes one of these ways
  pub called : (a : ℕ) (s : S) (xs : List ℕ) → Called step rest a s xs (call step rest a s xs)
  unfolding call
  called a s [] = nothing
  called a s (b ∷ bs) = one_byte a s b bs (step s b) refl (λ a t. called a t bs)

  ink-within : {a : ℕ} {s : S} {xs : List ℕ} {r : Run S} → Called step rest a s xs r → r.ink ≤ a
  unfolding still after
  ink-within nothing = omega arith
  ink-within (goes e fits c) = omega (arith, ink-within c)
  ink-within (stops e over) = omega arith
  ink-within (halts e) = omega arith
  ink-within (refuses e) = omega arith

  consumed-within : {a : ℕ} {s : S} {xs : List ℕ} {r : Run S} → Called step rest a s xs r → r.consumed ≤ length xs
  unfolding still after
  consumed-within nothing = omega arith
  consumed-within (goes e fits c) = omega (arith, consumed-within c)
  consumed-within (stops e over) = omega arith
  consumed-within (halts e) = omega arith
  consumed-within (refuses e) = omega arith

  reads_all : {a : ℕ} {s : S} {xs : List ℕ} {r : Run S} → Called step rest a s xs r → r.how ≡ read_all → r.consumed ≡ length xs
  unfolding still after
  reads_all nothing h = refl
  reads_all (goes e fits c) h = omega (arith, reads_all c h)
  reads_all (stops e over) h = cc
  reads_all (halts e) h = cc
  reads_all (refuses e) h = cc

  stops_at : {a : ℕ} {s : S} {xs : List ℕ} {r : Run S} → Called step rest a s xs r → r.how ≡ stopped → StoppedAt step rest a s xs r
  unfolding read_from still after follow
  stops_at nothing h = absurd (subst Stops (sym h) tt)
  stops_at (goes {i = i} {b} {s} {t} {bs} {r} e fits c) h =
      let p : StoppedAt step rest _ t bs r = stops_at c h in
      record {
        last = p.last;
        byte = p.byte;
        later = p.later;
        reached = p.reached;
        cost = p.cost;
        before =
            ap (read_from step s) (take-one-more r.consumed b bs)
            ∙ read_as_lem step s b (take r.consumed bs) e
            ∙ ap (after 1 i) p.before;
        rested = p.rested;
        unread = drop-one-more r.consumed b bs ∙ p.unread;
        reads = p.reads;
        exceeds = omega (arith, p.exceeds);
      }
  stops_at (stops {i = i} {b} {s} {t} {bs} e over) h =
      record {
        last = s;
        byte = b;
        later = bs;
        reached = t;
        cost = i;
        before = refl;
        rested = refl;
        unread = refl;
        reads = e;
        exceeds = omega arith;
      }
  stops_at (halts e) h = absurd (subst Stops (sym h) tt)
  stops_at (refuses e) h = absurd (subst Stops (sym h) tt)

  plainly : {a : ℕ} {s : S} {xs : List ℕ} {r : Run S} → Called step rest a s xs r → (r.how ≡ stopped → ⊥) → read_from step s xs ≡ r
  unfolding read_from still after follow
  plainly nothing h = refl
  plainly (goes {i = i} {b} {s} {bs = bs} e fits c) h = read_as_lem step s b bs e ∙ ap (after 1 i) (plainly c h)
  plainly (stops e over) h = absurd (h refl)
  plainly (halts {b = b} {s} {bs = bs} e) h = read_as_lem step s b bs e
  plainly (refuses {b = b} {s} {bs = bs} e) h = read_as_lem step s b bs e

  -- a call's ink is at most its allowance
  pub call-ink : (a : ℕ) (s : S) (xs : List ℕ) → (call step rest a s xs).ink ≤ a
  call-ink a s xs = ink-within (called a s xs)

  -- a call consumes no more bytes than it has
  pub call-consumed : (a : ℕ) (s : S) (xs : List ℕ) → (call step rest a s xs).consumed ≤ length xs
  call-consumed a s xs = consumed-within (called a s xs)

  -- a call that says it read all its bytes consumed them all
  pub call-reads : (a : ℕ) (s : S) (xs : List ℕ) → (call step rest a s xs).how ≡ read_all → (call step rest a s xs).consumed ≡ length xs
  call-reads a s xs = reads_all (called a s xs)

  -- a call that did not stop is a plain reading
  pub call-plain : (a : ℕ) (s : S) (xs : List ℕ) → ((call step rest a s xs).how ≡ stopped → ⊥) → read_from step s xs ≡ call step rest a s xs
  call-plain a s xs = plainly (called a s xs)

  -- a call says that it stopped only where its next byte has an ink above what is left of the allowance
  pub call-stopped-at : (a : ℕ) (s : S) (xs : List ℕ) → (call step rest a s xs).how ≡ stopped
      → StoppedAt step rest a s xs (call step rest a s xs)
  call-stopped-at a s xs = stops_at (called a s xs)

  -- where no byte's ink exceeds the cap, a stopped call has used its allowance but for less than that
  pub call-stops : (cap : ℕ) → CapLaw step cap → (a : ℕ) (s : S) (xs : List ℕ)
      → (call step rest a s xs).how ≡ stopped → a + 1 ≤ (call step rest a s xs).ink + cap
  call-stops cap cap-law a s xs h =
      let p : StoppedAt step rest a s xs (call step rest a s xs) = call-stopped-at a s xs h in
      omega (arith, p.exceeds, cap-law p.last p.reached p.byte p.cost p.reads, call-ink a s xs)

  reads-some : {cap a : ℕ} {s : S} {xs : List ℕ} {r : Run S} → CapLaw step cap → cap ≤ a → Called step rest a s xs r
      → r.how ≡ stopped → 0 < r.consumed
  unfolding still after
  reads-some caps fits nothing h = absurd (subst Stops (sym h) tt)
  reads-some caps fits (goes e fewer c) h = omega arith
  reads-some caps fits (stops {i = i} {b} {s} {t} e over) h = omega (arith, caps s t b i e)
  reads-some caps fits (halts e) h = absurd (subst Stops (sym h) tt)
  reads-some caps fits (refuses e) h = absurd (subst Stops (sym h) tt)

  -- and where the allowance is at least the cap it has read a byte
  pub call-stop-reads : (cap : ℕ) → CapLaw step cap → (a : ℕ) (s : S) (xs : List ℕ) → cap ≤ a
      → (call step rest a s xs).how ≡ stopped → 0 < (call step rest a s xs).consumed
  call-stop-reads cap caps a s xs fits = reads-some caps fits (called a s xs)

-- ---- a call and then the rest is a plain reading

-- after a call that was not refused, what it left unread is read, and then zs
unfoldable pub onward : {S : Type 0} → (S → ℕ → Step S) → Run S → List ℕ → List ℕ → Run S
unfolding after read_from is_refused
onward step r xs zs = cond (is_refused r.how) r (after r.consumed r.ink (read_from step r.state (drop r.consumed xs ++ zs)))

module _ {S : Type 0} (step : S → ℕ → Step S) where
  after-onward : (b i : ℕ) (r : Run S) (bs zs : List ℕ) → after 1 i (onward step r bs zs) ≡ onward step (after 1 i r) (b ∷ bs) zs
  unfolding onward after
  after-onward b i r bs zs =
      cond_map (after 1 i) (is_refused r.how) _ _
      ∙ ap (cond (is_refused r.how) (after 1 i r))
      (sym (after-after 1 i r.consumed r.ink (read_from step r.state (drop r.consumed bs ++ zs)))
      ∙ ap (λ (us : List ℕ). after (1 + r.consumed) (i + r.ink) (read_from step r.state (us ++ zs)))
      (sym (drop-one-more r.consumed b bs)))

module _ {S : Type 0} (step : S → ℕ → Step S) (rest : S → S) (rest-law : RestLaw step rest) (halt-law : HaltLaw step) where
  called-onward : {a : ℕ} {s : S} {xs : List ℕ} {r : Run S} → Called step rest a s xs r → (zs : List ℕ)
      → read_from step s (xs ++ zs) ≡ onward step r xs zs
  unfolding onward still after follow
  called-onward nothing zs = sym (after-zero _)
  called-onward (goes {i = i} {b} {s} {t} {bs} {r} e fits c) zs =
      read_as_lem step s b (bs ++ zs) e ∙ ap (after 1 i) (called-onward c zs) ∙ after-onward step b i r bs zs
  called-onward (stops {i = i} {b} {s} {t} {bs} e over) zs =
      read_as_lem step s b (bs ++ zs) (e ∙ sym (rest-law s t b i e (omega arith))) ∙ sym (after-zero _)
  called-onward (halts {b = b} {s} {t} {bs} e) zs = read_as_lem step s b (bs ++ zs) (e ∙ sym (halt-law s t b e)) ∙ sym (after-zero _)
  called-onward (refuses {b = b} {s} {bs = bs} e) zs = read_as_lem step s b (bs ++ zs) e

  -- a call that is refused is the whole reading; after any other, reading goes on from its state with what it left unread
  pub call-onward : (a : ℕ) (s : S) (xs zs : List ℕ) → read_from step s (xs ++ zs) ≡ onward step (call step rest a s xs) xs zs
  call-onward a s xs zs = called-onward (called step rest a s xs) zs
