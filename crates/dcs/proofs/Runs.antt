-- How a call of a DCS sequence goes, part by part, on the definition alone: a byte without ink, the payload, the end of it.
use Rattle.std.specs.Prelude.{◌≡◌, ℕ, ◌+◌, ◌-◌, Bool, true, false, cond, ◌||◌, eqb, leb, List, [], ◌∷◌, drop}
use native.Mathlib.Nat.{add-zero, sub-zero}
use native.Mathlib.Omega.{arith}
use mathlib.Core.Path.{refl, sym, ap, ◌∙◌}
use borrow.Author.Tests.{le-leb, lt-leb}
use Rattle.numbers.proofs.Laws.{cond_yes, cond_no}
use Rattle.colours.specs.declared.Palette.{Palette}
use Rattle.meaning.specs.Drawing.{Setting}
use Rattle.meaning.specs.Reader.{Step, next, halt, refuse, How, read_all, stopped, halted, refused_by, Run, still, after, follow, call}
use Rattle.meaning.specs.Sessions.{Reading, Phase, within, after_escape, over, payload_step, rested, end_step, within_step, escape_step, dcs_step, dcs_rested, complete, cancelled, interrupted}
use Rattle.meaning.proofs.Framing.{in_payload}
use Rattle.meaning.proofs.RunLaws.{after-zero, after-after}
use Rattle.meaning.proofs.CallLaws.{Called, nothing, goes, stops, halts, refuses, called, drop-one-more}

-- ---- a byte, whatever the reader

module _ {S : Type 0} (step : S → ℕ → Step S) (rest : S → S) (a : ℕ) (s : S) (b : ℕ) (bs : List ℕ) where
  pub call-as : {x : Step S} → step s b ≡ x
      → call step rest a s (b ∷ bs) ≡ follow x (λ t i. cond (leb i a) (after 1 i (call step rest (a - i) t bs)) (still (rest s) stopped))
  unfolding call
  call-as e = ap (λ (x : Step S). follow x (λ t i. cond (leb i a) (after 1 i (call step rest (a - i) t bs)) (still (rest s) stopped))) e

  -- one without ink is read under any allowance
  pub call-dry : {t : S} → step s b ≡ next t 0 → call step rest a s (b ∷ bs) ≡ after 1 0 (call step rest a t bs)
  unfolding follow
  call-dry {t} e =
      call-as e ∙ cond_yes _ _ (le-leb 0 a (omega arith)) ∙ ap (λ (n : ℕ). after 1 0 (call step rest n t bs)) (sub-zero a)

  pub call_halts : {t : S} → step s b ≡ halt t → call step rest a s (b ∷ bs) ≡ still t halted
  unfolding follow
  call_halts e = call-as e

  pub call-refuses : {t : S} {n : ℕ} → step s b ≡ refuse t n → call step rest a s (b ∷ bs) ≡ still t (refused_by n)
  unfolding follow
  call-refuses e = call-as e

-- one byte more, with no ink, before a run
pub after_one : {S : Type 0} (n i : ℕ) (r : Run S) → after n i (after 1 0 r) ≡ after (n + 1) i r
after_one n i r = sym (after-after n i 1 0 r) ∙ ap (λ (j : ℕ). after (n + 1) j r) (add-zero i)

-- where a call came to an end there is a byte at which it did
pub halted-at : {S : Type 0} {step : S → ℕ → Step S} {rest : S → S} {a : ℕ} {s : S} {xs : List ℕ} {r : Run S}
    → Called step rest a s xs r → r.how ≡ halted
    → (b : ℕ) × (later : List ℕ) × (drop r.consumed xs ≡ b ∷ later)
unfolding still after
halted-at nothing h = let never : ◌≡◌ {A = ℕ} 0 1 = cc in absurd (omega arith)
halted-at (goes {b = b} {bs = bs} {r = r} e fits c) h =
    let k = halted-at c h in (k.0, k.1, drop-one-more r.consumed b bs ∙ k.2)
halted-at (stops e few) h = let never : ◌≡◌ {A = ℕ} 0 1 = cc in absurd (omega arith)
halted-at (halts {b = b} {bs = bs} e) h = (b, bs, refl)
halted-at (refuses e) h = let never : ◌≡◌ {A = ℕ} 0 1 = cc in absurd (omega arith)

-- ---- within the payload

module _ (s : Setting) (p : Palette) where
  -- a call of the sequence
  abbrev pub dcs_call : ℕ → Phase → List ℕ → Run Phase
  dcs_call = call (dcs_step s p) (dcs_rested s)

  -- the byte that ended the payload is read as an end, and what comes after it
  unfoldable pub end_call : ℕ → Reading → List ℕ → Run Phase
  end_call a t [] = still (within t) read_all
  end_call a t (b ∷ bs) = follow (end_step t b) (λ u i. after 1 i (dcs_call a u bs))

  -- what a sequence makes of its payload's call: where the payload has ended its end is read, and else it is that call
  unfoldable pub framed_call : ℕ → Run Reading → List ℕ → Run Phase
  unfolding end_call in_payload
  framed_call a q bs =
      elim q.how [
        | read_all ↦ in_payload q
        | stopped ↦ in_payload q
        | halted ↦ after q.consumed q.ink (end_call (a - q.ink) q.state (drop q.consumed bs))
        | refused_by n ↦ in_payload q
      ]

  -- a step without ink, or none
  abbrev Dry : Step Phase → Type 0
  Dry (next u i) = i ≡ 0
  Dry (halt u) = Unit
  Dry (refuse u n) = Unit

  end-dry : (t : Reading) (b : ℕ) → Dry (end_step t b)
  unfolding end_step
  end-dry t b = go (eqb b 0x1B) (eqb b 0x9C) (eqb b 0x18 || eqb b 0x1A)
    where
      go : (x y z : Bool) → Dry
          (cond x (next (after_escape t) 0)
          (cond y (next (over complete t) 0)
          (cond z (next (over (cancelled b) t) 0) (halt (over (interrupted b) t)))))
      go true y z = refl
      go false true z = refl
      go false false true = refl
      go false false false = tt

  dry-follow : (a : ℕ) (z : Run Phase) (bs : List ℕ) (x : Step Phase) → Dry x
      → follow x (λ u i. cond (leb i a) (after 1 i (dcs_call (a - i) u bs)) z)
      ≡ follow x (λ u i. after 1 i (dcs_call a u bs))
  unfolding follow
  dry-follow a z bs (next u i) e =
      rw e
      (cond_yes _ _ (le-leb 0 a (omega arith)) ∙ ap (λ (n : ℕ). after 1 0 (dcs_call n u bs)) (sub-zero a))
  dry-follow a z bs (halt u) e = refl
  dry-follow a z bs (refuse u n) e = refl

  -- what a sequence makes of its payload's step
  unfoldable stepped : ℕ → Step Reading → Step Phase
  unfolding end_step
  stepped b x = elim x [ next t i ↦ next (within t) i | halt t ↦ end_step t b | refuse t n ↦ refuse (within t) n ]

  within-as : (r : Reading) (b : ℕ) {x : Step Reading} → payload_step s r b ≡ x → dcs_step s p (within r) b ≡ stepped b x
  unfolding dcs_step within_step stepped
  within-as r b e = ap (stepped b) e

  after-framed : (a b i : ℕ) (q : Run Reading) (bs : List ℕ) → after 1 i (framed_call (a - i) q bs) ≡ framed_call a (after 1 i q) (b ∷ bs)
  unfolding framed_call in_payload after
  after-framed a b i q bs = go q.how
    where
      run : How → Run Reading
      run h = record { state = q.state; consumed = q.consumed; ink = q.ink; how = h }

      go : (h : How) → after 1 i (framed_call (a - i) (run h) bs) ≡ framed_call a (after 1 i (run h)) (b ∷ bs)
      go read_all = refl
      go stopped = refl
      go halted =
          let left : a - i - q.ink ≡ a - (i + q.ink) = omega arith in
          sym (after-after 1 i q.consumed q.ink (end_call (a - i - q.ink) q.state (drop q.consumed bs)))
          ∙ ap (λ (n : ℕ). after (1 + q.consumed) (i + q.ink) (end_call n q.state (drop q.consumed bs))) left
          ∙ ap (λ (us : List ℕ). after (1 + q.consumed) (i + q.ink) (end_call (a - (i + q.ink)) q.state us))
          (sym (drop-one-more q.consumed b bs))
      go (refused_by n) = refl

  within-called : {a : ℕ} {r : Reading} {bs : List ℕ} {q : Run Reading} → Called (payload_step s) (rested s) a r bs q
      → dcs_call a (within r) bs ≡ framed_call a q bs
  unfolding call framed_call end_call in_payload still stepped follow dcs_rested
  within-called nothing = refl
  within-called (goes {a} {i} {b} {s = r} {t} {bs} {r = q} e fits c) =
      call-as (dcs_step s p) (dcs_rested s) a (within r) b bs (within-as r b e)
      ∙ cond_yes _ _ (le-leb i a fits)
      ∙ ap (after 1 i) (within-called c)
      ∙ after-framed a b i q bs
  within-called (stops {a} {i} {b} {s = r} {t} {bs} e few) =
      call-as (dcs_step s p) (dcs_rested s) a (within r) b bs (within-as r b e) ∙ cond_no _ _ (lt-leb i a few)
  within-called (halts {a} {b} {s = r} {t} {bs} e) =
      call-as (dcs_step s p) (dcs_rested s) a (within r) b bs (within-as r b e)
      ∙ dry-follow a (still (dcs_rested s (within r)) stopped) bs (end_step t b) (end-dry t b)
      ∙ ap (λ (n : ℕ). follow (end_step t b) (λ u i. after 1 i (dcs_call n u bs))) (sym (sub-zero a))
      ∙ sym (after-zero _)
  within-called (refuses {a} {b} {n} {s = r} {t} {bs} e) =
      call-as (dcs_step s p) (dcs_rested s) a (within r) b bs (within-as r b e)

  -- within its payload a sequence's call is the payload's, and where that has come to its end the end is read
  pub within-call : (a : ℕ) (r : Reading) (bs : List ℕ)
      → dcs_call a (within r) bs ≡ framed_call a (call (payload_step s) (rested s) a r bs) bs
  within-call a r bs = within-called (called (payload_step s) (rested s) a r bs)

  -- after the 1B that ended a payload
  pub escape-call : (a : ℕ) (r : Reading) (b : ℕ) (bs : List ℕ)
      → dcs_call a (after_escape r) (b ∷ bs) ≡ follow (escape_step r b) (λ u i. after 1 i (dcs_call a u bs))
  unfolding dcs_step escape_step
  escape-call a r b bs =
      call-as (dcs_step s p) (dcs_rested s) a (after_escape r) b bs {x = escape_step r b} refl
      ∙ dry-follow a (still (dcs_rested s (after_escape r)) stopped) bs (escape_step r b) (go (eqb b 0x5C))
    where
      go : (x : Bool) → Dry (cond x (next (over complete r) 0) (halt (over (interrupted 0x1B) r)))
      go true = refl
      go false = tt
