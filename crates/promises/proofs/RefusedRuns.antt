-- The bytes of a call are refused exactly when one of them is, after bytes that are read: said once of any reader.
use Prim.Native.Nat.{ℕ, ◌-◌, ◌≤◌}
use mathlib.Core.Bool.{cond}
use mathlib.Core.List.{List, [], ◌∷◌, ◌++◌}
use mathlib.Core.Logic.{◌↔◌}
use mathlib.Core.Path.{◌≡◌, refl, sym, ap, ◌∙◌, subst}
use native.Mathlib.Omega.{arith}
use borrow.Author.Tests.{le-leb}
use lib.Dec.{leb}
use Rattle.meaning.specs.Reader.{Step, next, halt, refuse, read_all, stopped, refused_by, Run, still, after, follow, read_from, call}
use Rattle.meaning.proofs.CallLaws.{Called, nothing, goes, stops, halts, refuses, called}
use Rattle.meaning.proofs.RunLaws.{read_as_lem}

-- a call is refused at a byte: those before it are read, with an ink that the allowance has, and it is refused there
pub record RunRefused {S : Type 0} (step : S → ℕ → Step S) (a : ℕ) (s : S) (xs : List ℕ) (t : S) (n : ℕ) : Type 0 where
  pub before : List ℕ
  pub byte : ℕ
  pub later : List ℕ
  pub split : xs ≡ before ++ (byte ∷ later)
  pub reads : (read_from step s before).how ≡ read_all
  pub fits : (read_from step s before).ink ≤ a
  pub refuses : step (read_from step s before).state byte ≡ refuse t n

module _ {S : Type 0} (step : S → ℕ → Step S) (rest : S → S) where
  refused-at : {a n : ℕ} {s : S} {xs : List ℕ} {r : Run S} → Called step rest a s xs r → r.how ≡ refused_by n
      → RunRefused step a s xs r.state n
  unfolding still after read_from follow
  refused-at nothing h = let never : ◌≡◌ {A = ℕ} 0 1 = cc in absurd (omega arith)
  refused-at (goes {i = i} {b} {s} {t} e room c) h =
      let p = refused-at c h in
      let first = read_as_lem step s b p.before e in
      record {
        before = b ∷ p.before;
        byte = p.byte;
        later = p.later;
        split = ap (λ (ys : List ℕ). b ∷ ys) p.split;
        reads = ap (λ (q : Run S). q.how) first ∙ p.reads;
        fits = omega (arith, ap (λ (q : Run S). q.ink) first, p.fits);
        refuses = ap (λ (q : Run S). step q.state p.byte) first ∙ p.refuses;
      }
  refused-at (stops e over) h = let never : ◌≡◌ {A = ℕ} 0 1 = cc in absurd (omega arith)
  refused-at (halts e) h = let never : ◌≡◌ {A = ℕ} 0 1 = cc in absurd (omega arith)
  refused-at {n = n} (refuses {b = b} {n = m} {s} {t} {bs} e) h =
      let number : m ≡ n = cc in
      record {
        before = [];
        byte = b;
        later = bs;
        split = refl;
        reads = refl;
        fits = omega arith;
        refuses = e ∙ ap (refuse t) number;
      }

  refused-from : (before : List ℕ) (byte : ℕ) (later : List ℕ) (a : ℕ) (s : S) {n : ℕ} {t : S}
      → (read_from step s before).how ≡ read_all → (read_from step s before).ink ≤ a
      → step (read_from step s before).state byte ≡ refuse t n
      → ((call step rest a s (before ++ (byte ∷ later))).how ≡ refused_by n) × ((call step rest a s (before ++ (byte ∷ later))).state ≡ t)
  unfolding read_from still after follow call
  refused-from [] byte later a s {n} {t} all room e =
      let q : call step rest a s (byte ∷ later) ≡ still t (refused_by n) =
      ap
      (λ (x : Step S).
      follow x (λ (u : S) (i : ℕ). cond (leb i a) (after 1 i (call step rest (a - i) u later)) (still (rest s) stopped)))
      e in
      (ap (λ (r : Run S). r.how) q, ap (λ (r : Run S). r.state) q)
  refused-from (b ∷ before) byte later a s {n} {t} all room e =
      go (step s b) all room e (λ u i. refused-from before byte later (a - i) u)
    where
      on : Step S → Run S
      on x = follow x (λ (u : S) (i : ℕ). after 1 i (read_from step u before))

      calls : Step S → Run S
      calls x =
          follow x
          (λ (u : S) (i : ℕ). cond (leb i a) (after 1 i (call step rest (a - i) u (before ++ (byte ∷ later)))) (still (rest s) stopped))

      go : (x : Step S) → (on x).how ≡ read_all → (on x).ink ≤ a → step (on x).state byte ≡ refuse t n
          → ((u : S) (i : ℕ) → (read_from step u before).how ≡ read_all → (read_from step u before).ink ≤ a - i
          → step (read_from step u before).state byte ≡ refuse t n
          → ((call step rest (a - i) u (before ++ (byte ∷ later))).how ≡ refused_by n)
          × ((call step rest (a - i) u (before ++ (byte ∷ later))).state ≡ t))
          → ((calls x).how ≡ refused_by n) × ((calls x).state ≡ t)
      go (next u i) all room e later = let h = later u i all (omega arith) e in rw (le-leb i a (omega arith)) h
      go (halt u) all room e later = let never : ◌≡◌ {A = ℕ} 0 1 = cc in absurd (omega arith)
      go (refuse u m) all room e later = let never : ◌≡◌ {A = ℕ} 0 1 = cc in absurd (omega arith)

  -- A call's bytes are refused exactly when one of them is, after bytes that are read.
  pub run-exactly : (a : ℕ) (s : S) (xs : List ℕ) (t : S) (n : ℕ)
      → (((call step rest a s xs).how ≡ refused_by n) × ((call step rest a s xs).state ≡ t)) ↔ RunRefused step a s xs t n
  run-exactly a s xs t n = (
    λ h. subst (λ (u : S). RunRefused step a s xs u n) h.1 (refused-at (called step rest a s xs) h.0),
    λ h.
        subst (λ (ys : List ℕ). ((call step rest a s ys).how ≡ refused_by n) × ((call step rest a s ys).state ≡ t)) (sym h.split)
        (refused-from h.before h.byte h.later a s h.reads h.fits h.refuses),
  )

-- the bytes of a call come to one where this holds: those before it are read, with an ink that the allowance has
pub record MeetsByte {S : Type 0} (step : S → ℕ → Step S) (a : ℕ) (s : S) (xs : List ℕ) (P : S → ℕ → Type 0) : Type 0 where
  pub before : List ℕ
  pub byte : ℕ
  pub later : List ℕ
  pub split : xs ≡ before ++ (byte ∷ later)
  pub reads : (read_from step s before).how ≡ read_all
  pub fits : (read_from step s before).ink ≤ a
  pub holds : P (read_from step s before).state byte

-- A call is refused exactly when its bytes come to one that is.
pub meets-exactly : {S : Type 0} (step : S → ℕ → Step S) (rest : S → S) (a : ℕ) (s : S) (xs : List ℕ) (n : ℕ) (P : S → ℕ → Type 0)
    → ((t : S) (b : ℕ) → ((u : S) × (step t b ≡ refuse u n)) ↔ P t b)
    → RunRefused step a s xs (call step rest a s xs).state n ↔ MeetsByte step a s xs P
meets-exactly {S} step rest a s xs n P k = (
  λ h.
      record {
        before = h.before;
        byte = h.byte;
        later = h.later;
        split = h.split;
        reads = h.reads;
        fits = h.fits;
        holds = (k _ h.byte).0 (_, h.refuses);
      },
  λ h.
      let u = (k _ h.byte).1 h.holds in
      let r : RunRefused step a s xs u.0 n =
      record { before = h.before; byte = h.byte; later = h.later; split = h.split; reads = h.reads; fits = h.fits; refuses = u.1 } in
      (run-exactly step rest a s xs (call step rest a s xs).state n).0 (((run-exactly step rest a s xs u.0 n).1 r).0, refl),
)
