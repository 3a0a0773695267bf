-- Laws of ink: a byte's ink is at most 6W, a sixel left unread by a stop has the same ink when it is read after it, and the ink of a run is
-- what the strokes have that it drew.
use Prim.Native.Nat.{ℕ, suc, zero-le, ◌+◌, ◌-◌, ◌*◌, ◌≤◌, ◌<◌}
use native.Mathlib.Nat.{add-zero}
use native.Mathlib.Omega.{arith}
use mathlib.Core.Path.{◌≡◌, refl, sym, ap, ap₂, ◌∙◌, subst}
use mathlib.Core.Bool.{Bool, true, cond}
use mathlib.Core.Option.{Option, none, some}
use mathlib.Core.List.{List, [], ◌∷◌, ◌++◌, append-nil}
use lib.Dec.{leb}
use lib.ListN.{length, drop}
use Rattle.numbers.specs.Bytes.{sixel}
use Rattle.colours.specs.declared.Palette.{Palette}
use Rattle.canvas.specs.Picture.{Stroke}
use Rattle.meaning.specs.Commands.{Begun, Scanned, closed, scan_byte}
use Rattle.meaning.specs.Drawing.{Setting, Drawing, blank, Outcome, draw_all, ink_of_all, strokes_since}
use Rattle.meaning.specs.Reader.{Step, next, halt, refuse, stopped, Run, still, after, follow, read_from, call}
use Rattle.meaning.specs.Sessions.{Reading, opened, settled, rested, ended_at, went_on, read_byte, payload_step, Phase, start, introduced, header, within, after_escape, over, end_step, within_step, dcs_step, dcs_rested}
use Rattle.meaning.specs.Calls.{drawing_of}
use Rattle.meaning.proofs.AreaLaws.{cond-case, option-case, draw_on-none, draw_on-some, AllQuiet, quiet-strokes, OnStep, payload-case, Before, DcsDoes, advances, begins, turns, reads, refuses, escapes, closes, breaks, completes, lapses, remains, dcs-does}
unfoldable pub use Rattle.meaning.proofs.SixelLaws.{sixel_outcome}
pub use Rattle.meaning.proofs.SixelLaws.{ink-append, since-appended, since-adds, since-same, sixel-range, ones-sixel, scan-sixel, scan-quiet, settled-strokes, sixel_at, read_byte-case, Drew, outcome-case, drew-ink}
use Rattle.meaning.proofs.SixelLaws.{sixel-ends, sixel-outcome, sixel-begun}

-- ---- ink adds up

-- a step that adds its ink to a measure, and none where the byte is not read
abbrev pub Adds : {S : Type 0} → (S → ℕ) → S → Step S → Type 0
Adds m t = OnStep (λ u i. m u ≡ m t + i) (λ u. m u ≡ m t) (λ u n. m u ≡ m t)

-- the ink that a payload has drawn
abbrev pub ink_drawn : Reading → ℕ
ink_drawn r = ink_of_all r.drawing.strokes

-- a byte that goes on adds the ink of the strokes that it appends
went_on-adds : (r : Reading) (c : Scanned) (out : Outcome) (more : List Stroke) → out.drawing.strokes ≡ r.drawing.strokes ++ more
    → ((n : ℕ) → out.refusal ≡ some n → out.drawing.strokes ≡ r.drawing.strokes) → Adds ink_drawn r (went_on r c out)
unfolding went_on
went_on-adds r c out more e h =
    option-case (Adds ink_drawn r) out.refusal (λ _. since-adds r.drawing out.drawing more e) (λ n q. ap ink_of_all (h n q))

-- the end of a payload adds no ink
ended-adds : (s : Setting) (r : Reading) (b : ℕ) → Adds ink_drawn r (ended_at b r (settled s r))
unfolding ended_at
ended-adds s r b =
    let same : ink_of_all (settled s r).drawing.strokes ≡ ink_of_all r.drawing.strokes = ap ink_of_all (settled-strokes s r) in
    option-case (Adds ink_drawn r) (settled s r).refusal (λ _. same) (λ _ _. same)

-- a byte that is no sixel adds none
quiet-adds : (s : Setting) (r : Reading) (c : Scanned) → AllQuiet c.ended
    → Adds ink_drawn r (went_on r c (draw_all s c.ended r.drawing))
quiet-adds s r c q =
    let same : (draw_all s c.ended r.drawing).drawing.strokes ≡ r.drawing.strokes = quiet-strokes s c.ended r.drawing q in
    went_on-adds r c _ [] (same ∙ sym (append-nil _)) (λ _ _. same)

-- a sixel adds that of its stroke
sixel-adds : (s : Setting) (r : Reading) (b : ℕ) (c : Scanned) → Adds ink_drawn r (went_on r c (sixel_outcome s r b))
sixel-adds s r b c =
    outcome-case (λ out. Adds ink_drawn r (went_on r c out)) s r b
    (λ n. went_on-adds r c _ [] (settled-strokes s r ∙ sym (append-nil _)) (λ _ _. settled-strokes s r))
    (λ e drew. went_on-adds r c _ _ drew.strokes (λ n q. cc))

-- a byte's ink is what its strokes add; a byte that is refused or ends the payload adds none
pub payload-adds : (s : Setting) (r : Reading) (b : ℕ) → Adds ink_drawn r (payload_step s r b)
payload-adds s r b =
    payload-case (Adds ink_drawn r) s r b
    (λ _. read_byte-case (Adds ink_drawn r) s r b (ended-adds s r b) (quiet-adds s r) (λ c _ _. sixel-adds s r b c))
    (λ _. refl)

-- the ink of a byte that is read comes to what was drawn
pub payload-next : (s : Setting) (r : Reading) (b : ℕ) {t : Reading} {i : ℕ} → payload_step s r b ≡ next t i
    → ink_of_all t.drawing.strokes ≡ ink_of_all r.drawing.strokes + i
payload-next s r b e = subst (Adds ink_drawn r) e (payload-adds s r b)

-- a refused byte leaves what was drawn
pub payload-refuse : (s : Setting) (r : Reading) (b : ℕ) {t : Reading} {n : ℕ} → payload_step s r b ≡ refuse t n
    → ink_of_all t.drawing.strokes ≡ ink_of_all r.drawing.strokes
payload-refuse s r b e = subst (Adds ink_drawn r) e (payload-adds s r b)

-- ---- at most 6W

-- a fact of the ink of a byte that is read
abbrev pub Inks : {S : Type 0} → (ℕ → Type 0) → Step S → Type 0
Inks P = OnStep (λ u i. P i) (λ u. Unit {0}) (λ u n. Unit {0})

-- only a step that reads a byte has ink, and this is that of its strokes
went_on-inks : (P : ℕ → Type 0) (r : Reading) (c : Scanned) (out : Outcome) → P (ink_of_all (strokes_since r.drawing out.drawing))
    → Inks P (went_on r c out)
unfolding went_on
went_on-inks P r c out h = option-case (Inks P) out.refusal (λ _. h) (λ _ _. tt)

ended-inks : (P : ℕ → Type 0) (b : ℕ) (r : Reading) (out : Outcome) → Inks P (ended_at b r out)
unfolding ended_at
ended-inks P b r out = option-case (Inks P) out.refusal (λ _. tt) (λ _ _. tt)

-- a sixel's ink is at most 6W
sixel-cap : (s : Setting) (r : Reading) (b : ℕ) (c : Scanned) → sixel b ≡ true
    → Inks (λ i. i ≤ 6 * s.limits.width) (went_on r c (sixel_outcome s r b))
sixel-cap s r b c e =
    outcome-case (λ out. Inks (λ i. i ≤ 6 * s.limits.width) (went_on r c out)) s r b
    (λ n. went_on-inks _ r c _ (let None-more = since-same r.drawing (settled s r).drawing (settled-strokes s r) in omega arith))
    (λ f drew. went_on-inks _ r c _ (drew-ink e drew))

-- a byte's ink is at most 6W, whatever it is
payload-capped : (s : Setting) (r : Reading) (b : ℕ) → Inks (λ i. i ≤ 6 * s.limits.width) (payload_step s r b)
payload-capped s r b =
    payload-case Capped s r b
    (λ _. read_byte-case Capped s r b (ended-inks _ b r _)
    (λ c q.
    let quiet = quiet-strokes s c.ended r.drawing q in
    went_on-inks _ r c _ (let None-more = since-same r.drawing (draw_all s c.ended r.drawing).drawing quiet in omega arith))
    (λ c _ e. sixel-cap s r b c e))
    (λ _. tt)
  where
    Capped : Step Reading → Type 0
    Capped = Inks (λ i. i ≤ 6 * s.limits.width)

-- a byte's ink is at most 6W
pub payload-cap : (s : Setting) (r : Reading) (b : ℕ) {t : Reading} {i : ℕ} → payload_step s r b ≡ next t i → i ≤ 6 * s.limits.width
payload-cap s r b e = subst (Inks (λ i. i ≤ 6 * s.limits.width)) e (payload-capped s r b)

-- ---- a stop changes nothing for the sixel that it leaves

-- a step with ink is also this one
abbrev pub InkedIs : {S : Type 0} → Step S → Step S → Type 0
InkedIs y = OnStep (λ u i. 0 < i → y ≡ next u i) (λ u. Unit {0}) (λ u n. Unit {0})

-- a step is itself
inked-same : {S : Type 0} (y x : Step S) → y ≡ x → InkedIs y x
inked-same y (next u i) e = λ _. e
inked-same y (halt u) e = tt
inked-same y (refuse u n) e = tt

-- a step without ink says nothing
inked-none : {S : Type 0} (y : Step S) (x : Step S) → Inks (λ i. i ≡ 0) x → InkedIs y x
inked-none y (next u i) e = λ h. absurd (omega arith)
inked-none y (halt u) e = tt
inked-none y (refuse u n) e = tt

-- after the begun command was carried out a byte goes on as it would have before
pub went_on-rested : (s : Setting) (r : Reading) (c k : Scanned) (out : Outcome) → k.begun ≡ c.begun
    → went_on (rested s r) k out ≡ went_on r c out
unfolding went_on rested strokes_since
went_on-rested s r c k out e = ap₂ went e (settled-strokes s r)
  where
    went : Option Begun → List Stroke → Step Reading
    went begun old =
        elim out.refusal [
          | none ↦
              next (record { parameters = r.parameters; passed = suc r.passed; begun = begun; drawing = out.drawing; over = none })
              (ink_of_all (drop (length old) out.drawing.strokes))
          | some n ↦ refuse (record { parameters = r.parameters; passed = r.passed; begun = none; drawing = out.drawing; over = none }) n
        ]

-- a sixel comes to the same after a stop, where the begun command was not refused
sixel-rested : (s : Setting) (r : Reading) (b : ℕ) → (settled s r).refusal ≡ none → sixel_outcome s (rested s r) b ≡ sixel_outcome s r b
unfolding sixel_outcome rested closed
sixel-rested s r b e = sym (draw_on-none s (settled s r) (sixel_at r b) e)

-- and where it was, the sixel comes to that refusal
sixel-refused : (s : Setting) (r : Reading) (b : ℕ) {n : ℕ} → (settled s r).refusal ≡ some n → sixel_outcome s r b ≡ settled s r
unfolding sixel_outcome
sixel-refused s r b e = draw_on-some s (settled s r) (sixel_at r b) e

-- a payload that has not ended goes on with a sixel
sixel-read : (s : Setting) (r : Reading) (b : ℕ) → r.over ≡ none → sixel b ≡ true
    → payload_step s r b ≡ went_on r (scan_byte r.passed r.begun b) (sixel_outcome s r b)
unfolding payload_step read_byte
sixel-read s r b o e = ap over-as o ∙ ap ends_as (sixel-ends b e) ∙ ap (went_on r c) (sixel-outcome s r b e)
  where
    c : Scanned
    c = scan_byte r.passed r.begun b

    over-as : Option ℕ → Step Reading
    over-as x = elim x [ none ↦ read_byte s r b | some n ↦ halt r ]

    ends_as : Bool → Step Reading
    ends_as x = cond x (ended_at b r (settled s r)) (went_on r c (draw_all s c.ended r.drawing))

-- a sixel's byte with ink does the same after a stop
sixel-again : (s : Setting) (r : Reading) (b : ℕ) (c : Scanned) → r.over ≡ none → c.begun ≡ none → sixel b ≡ true
    → InkedIs (payload_step s (rested s r) b) (went_on r c (sixel_outcome s r b))
unfolding rested sixel_outcome
sixel-again s r b c o h e = go (settled s r).refusal refl
  where
    k : Scanned
    k = scan_byte r.passed none b

    go : (x : Option ℕ) → (settled s r).refusal ≡ x → InkedIs (payload_step s (rested s r) b) (went_on r c (sixel_outcome s r b))
    go none q =
        inked-same (payload_step s (rested s r) b) (went_on r c (sixel_outcome s r b))
        (sixel-read s (rested s r) b o e ∙ ap (went_on (rested s r) k) (sixel-rested s r b q)
        ∙ went_on-rested s r c k (sixel_outcome s r b) (sixel-begun r.passed none b e ∙ sym h))
    go (some n) q =
        let kept : (sixel_outcome s r b).drawing.strokes ≡ r.drawing.strokes =
        ap (λ (out : Outcome). out.drawing.strokes) (sixel-refused s r b q) ∙ settled-strokes s r in
        inked-none (payload_step s (rested s r) b) (went_on r c (sixel_outcome s r b))
        (went_on-inks (λ i. i ≡ 0) r c (sixel_outcome s r b) (since-same r.drawing _ kept))

-- a byte with ink does the same after a stop before it
pub payload-rest : (s : Setting) (r : Reading) (b : ℕ) {t : Reading} {i : ℕ} → payload_step s r b ≡ next t i → 0 < i
    → payload_step s (rested s r) b ≡ next t i
payload-rest s r b e =
    subst Again e
    (payload-case Again s r b (λ o. read_byte-case Again s r b ended quiet (λ c. sixel-again s r b c o)) (λ _. tt))
  where
    Again : Step Reading → Type 0
    Again = InkedIs (payload_step s (rested s r) b)

    ended : Again (ended_at b r (settled s r))
    ended = inked-none (payload_step s (rested s r) b) (ended_at b r (settled s r)) (ended-inks (λ i. i ≡ 0) b r (settled s r))

    quiet : (c : Scanned) → AllQuiet c.ended → Again (went_on r c (draw_all s c.ended r.drawing))
    quiet c q =
        inked-none (payload_step s (rested s r) b) (went_on r c (draw_all s c.ended r.drawing))
        (went_on-inks (λ i. i ≡ 0) r c (draw_all s c.ended r.drawing)
        (since-same r.drawing _ (quiet-strokes s c.ended r.drawing q)))

-- where a byte with ink is read, the begun command before it is not refused
pub inked-settled : (s : Setting) (r : Reading) (b : ℕ) {t : Reading} {i : ℕ} → payload_step s r b ≡ next t i → 0 < i
    → (settled s r).refusal ≡ none
inked-settled s r b e =
    subst (Inks Fine) e (payload-case (Inks Fine) s r b (λ _. read_byte-case (Inks Fine) s r b ended quiet inked) (λ _. tt))
  where
    Fine : ℕ → Type 0
    Fine i = 0 < i → (settled s r).refusal ≡ none

    dry : (c : Scanned) (out : Outcome) → out.drawing.strokes ≡ r.drawing.strokes → Inks Fine (went_on r c out)
    dry c out same =
        went_on-inks Fine r c out (λ some-ink. let None-more = since-same r.drawing out.drawing same in absurd (omega arith))

    ended : Inks Fine (ended_at b r (settled s r))
    ended = ended-inks Fine b r (settled s r)

    quiet : (c : Scanned) → AllQuiet c.ended → Inks Fine (went_on r c (draw_all s c.ended r.drawing))
    quiet c q = dry c _ (quiet-strokes s c.ended r.drawing q)

    inked : (c : Scanned) → c.begun ≡ none → sixel b ≡ true → Inks Fine (went_on r c (sixel_outcome s r b))
    inked c _ _ = go (settled s r).refusal refl
      where
        go : (x : Option ℕ) → (settled s r).refusal ≡ x → Inks Fine (went_on r c (sixel_outcome s r b))
        go none q = went_on-inks Fine r c (sixel_outcome s r b) (λ _. q)
        go (some n) q =
            dry c (sixel_outcome s r b)
            (ap (λ (out : Outcome). out.drawing.strokes) (sixel-refused s r b q) ∙ settled-strokes s r)

-- ---- an ended payload stays where it is

-- only a halt says something
abbrev pub Halts : {S : Type 0} → (S → Type 0) → Step S → Type 0
Halts H = OnStep (λ u i. Unit {0}) H (λ u n. Unit {0})

-- a byte that goes on does not halt
pub went_on-halts : (H : Reading → Type 0) (r : Reading) (c : Scanned) (out : Outcome) → Halts H (went_on r c out)
unfolding went_on
went_on-halts H r c out = option-case (Halts H) out.refusal (λ _. tt) (λ n _. tt)

-- the end that has come stays
ended-halts : (s : Setting) (r : Reading) (b : ℕ) (out : Outcome) → Halts (λ u. payload_step s u b ≡ halt u) (ended_at b r out)
unfolding ended_at payload_step
ended-halts s r b out = option-case (Halts (λ u. payload_step s u b ≡ halt u)) out.refusal (λ _. refl) (λ n _. tt)

-- halting is idempotent
pub payload-halt : (s : Setting) (r : Reading) (b : ℕ) {t : Reading} → payload_step s r b ≡ halt t → payload_step s t b ≡ halt t
payload-halt s r b e =
    subst Again e
    (payload-case Again s r b
    (λ _. read_byte-case Again s r b (ended-halts s r b _) (λ c _. went_on-halts _ r c _) (λ c _ _. went_on-halts _ r c _))
    (λ q. q))
  where
    Again : Step Reading → Type 0
    Again = Halts (λ u. payload_step s u b ≡ halt u)

-- ---- a DCS sequence

-- the ink of a drawing, if there is one
abbrev pub ink_if : Option Drawing → ℕ
ink_if none = 0
ink_if (some d) = ink_of_all d.strokes

-- the ink that a DCS sequence has drawn
abbrev pub dcs_ink : Phase → ℕ
dcs_ink t = ink_if (drawing_of t)

-- nothing is drawn before the payload
pub before-ink : (t : Phase) → Before t → dcs_ink t ≡ 0
unfolding drawing_of
before-ink start h = refl
before-ink introduced h = refl
before-ink (header bs) h = refl
before-ink (within r) h = absurd h
before-ink (after_escape r) h = absurd h
before-ink (over e r) h = absurd h

module _ (s : Setting) (p : Palette) (b : ℕ) where
  -- what a payload's byte adds, with its step known
  added : (r : Reading) {x : Step Reading} → payload_step s r b ≡ x → Adds ink_drawn r x
  added r e = subst (Adds ink_drawn r) e (payload-adds s r b)

  does-adds : {t : Phase} {x : Step Phase} → DcsDoes s p b t x → Adds dcs_ink t x
  unfolding drawing_of opened blank ink_of_all
  does-adds (advances {t = t} {u = u} h k) = before-ink u k ∙ sym (before-ink t h) ∙ sym (add-zero _)
  does-adds (begins {t = t} h o) = sym (before-ink t h) ∙ sym (add-zero _)
  does-adds (turns h) = refl
  does-adds (reads r e) = added r e
  does-adds (refuses r e) = added r e
  does-adds (escapes r e) = added r e ∙ sym (add-zero _)
  does-adds (closes r e) = added r e ∙ sym (add-zero _)
  does-adds (breaks r e) = added r e
  does-adds completes = sym (add-zero _)
  does-adds lapses = refl
  does-adds remains = refl

  does-cap : {t : Phase} {x : Step Phase} → DcsDoes s p b t x → Inks (λ i. i ≤ 6 * s.limits.width) x
  does-cap (advances h k) = zero-le
  does-cap (begins h o) = zero-le
  does-cap (turns h) = tt
  does-cap (reads r e) = payload-cap s r b e
  does-cap (refuses r e) = tt
  does-cap (escapes r e) = zero-le
  does-cap (closes r e) = zero-le
  does-cap (breaks r e) = tt
  does-cap completes = zero-le
  does-cap lapses = tt
  does-cap remains = tt

  -- what a DCS sequence makes of a payload's step
  onward : Step Reading → Step Phase
  unfolding end_step
  onward x = elim x [ next t i ↦ next (within t) i | halt t ↦ end_step t b | refuse t n ↦ refuse (within t) n ]

  does-rest : {t : Phase} {x : Step Phase} → DcsDoes s p b t x → InkedIs (dcs_step s p (dcs_rested s t) b) x
  unfolding dcs_step dcs_rested within_step onward
  does-rest (advances h k) = λ z. absurd (omega arith)
  does-rest (begins h o) = λ z. absurd (omega arith)
  does-rest (turns h) = tt
  does-rest (reads r e) = λ z. ap onward (payload-rest s r b e z)
  does-rest (refuses r e) = tt
  does-rest (escapes r e) = λ z. absurd (omega arith)
  does-rest (closes r e) = λ z. absurd (omega arith)
  does-rest (breaks r e) = tt
  does-rest completes = λ z. absurd (omega arith)
  does-rest lapses = tt
  does-rest remains = tt

  does-halt : {t : Phase} {x : Step Phase} → DcsDoes s p b t x → Halts (λ u. dcs_step s p u b ≡ halt u) x
  unfolding dcs_step
  does-halt (advances h k) = tt
  does-halt (begins h o) = tt
  does-halt (turns h) = tt
  does-halt (reads r e) = tt
  does-halt (refuses r e) = tt
  does-halt (escapes r e) = tt
  does-halt (closes r e) = tt
  does-halt (breaks r e) = refl
  does-halt completes = tt
  does-halt lapses = refl
  does-halt remains = refl

-- ink adds up in a DCS sequence too
pub dcs-adds : (s : Setting) (p : Palette) (t : Phase) (b : ℕ) → Adds dcs_ink t (dcs_step s p t b)
dcs-adds s p t b = does-adds s p b (dcs-does s p b t)

-- its bytes have an ink of at most 6W
pub dcs-cap : (s : Setting) (p : Palette) (t : Phase) (b : ℕ) {u : Phase} {i : ℕ} → dcs_step s p t b ≡ next u i → i ≤ 6 * s.limits.width
dcs-cap s p t b e = subst (Inks (λ i. i ≤ 6 * s.limits.width)) e (does-cap s p b (dcs-does s p b t))

-- a byte with ink does the same after a stop before it
pub dcs-rest : (s : Setting) (p : Palette) (t : Phase) (b : ℕ) {u : Phase} {i : ℕ} → dcs_step s p t b ≡ next u i → 0 < i
    → dcs_step s p (dcs_rested s t) b ≡ next u i
dcs-rest s p t b e = subst (InkedIs (dcs_step s p (dcs_rested s t) b)) e (does-rest s p b (dcs-does s p b t))

-- halting is idempotent
pub dcs-halt : (s : Setting) (p : Palette) (t : Phase) (b : ℕ) {u : Phase} → dcs_step s p t b ≡ halt u → dcs_step s p u b ≡ halt u
dcs-halt s p t b e = subst (Halts (λ u. dcs_step s p u b ≡ halt u)) e (does-halt s p b (dcs-does s p b t))

-- ---- runs

-- a run's ink is what it adds to the measure, refused or not
pub run-ink : {S : Type 0} (m : S → ℕ) (step : S → ℕ → Step S) → ((t : S) (b : ℕ) → Adds m t (step t b)) → (t : S) (bs : List ℕ)
    → m (read_from step t bs).state ≡ m t + (read_from step t bs).ink
unfolding read_from
run-ink m step adds t [] = sym (add-zero _)
run-ink {S} m step adds t (b ∷ bs) = go (step t b) (adds t b) (λ u. run-ink m step adds u bs)
  where
    on : S → ℕ → Run S
    on u i = after 1 i (read_from step u bs)

    go : (x : Step S) → Adds m t x → ((u : S) → m (read_from step u bs).state ≡ m u + (read_from step u bs).ink)
        → m (follow x on).state ≡ m t + (follow x on).ink
    go (next u i) h later = omega (arith, later u)
    go (halt u) h later = h ∙ sym (add-zero _)
    go (refuse u n) h later = h ∙ sym (add-zero _)

-- and so is a call's, where a stop leaves the measure
pub call-ink : {S : Type 0} (m : S → ℕ) (step : S → ℕ → Step S) (rest : S → S) → ((t : S) (b : ℕ) → Adds m t (step t b))
    → ((t : S) → m (rest t) ≡ m t) → (left : ℕ) (t : S) (bs : List ℕ)
    → m (call step rest left t bs).state ≡ m t + (call step rest left t bs).ink
unfolding call
call-ink m step rest adds stay left t [] = sym (add-zero _)
call-ink {S} m step rest adds stay left t (b ∷ bs) = go (step t b) (adds t b) (λ i u. call-ink m step rest adds stay (left - i) u bs)
  where
    on : S → ℕ → Run S
    on u i = cond (leb i left) (after 1 i (call step rest (left - i) u bs)) (still (rest t) stopped)

    go : (x : Step S) → Adds m t x
        → ((i : ℕ) (u : S) → m (call step rest (left - i) u bs).state ≡ m u + (call step rest (left - i) u bs).ink)
        → m (follow x on).state ≡ m t + (follow x on).ink
    go (next u i) h later =
        cond-case (λ (r : Run S). m r.state ≡ m t + r.ink) (leb i left) (λ _. omega (arith, later i u)) (λ _. stay t ∙ sym (add-zero _))
    go (halt u) h later = h ∙ sym (add-zero _)
    go (refuse u n) h later = h ∙ sym (add-zero _)

-- reading a payload from anywhere: the ink before and the run's ink are the ink of all strokes, refused or not
pub payload-ink : (s : Setting) (r : Reading) (bs : List ℕ)
    → ink_drawn (read_from (payload_step s) r bs).state ≡ ink_drawn r + (read_from (payload_step s) r bs).ink
payload-ink s = run-ink ink_drawn (payload_step s) (payload-adds s)

-- and so for a DCS sequence
pub dcs-ink : (s : Setting) (p : Palette) (t : Phase) (bs : List ℕ)
    → dcs_ink (read_from (dcs_step s p) t bs).state ≡ dcs_ink t + (read_from (dcs_step s p) t bs).ink
dcs-ink s p = run-ink dcs_ink (dcs_step s p) (dcs-adds s p)

-- a stop leaves the ink that was drawn
pub rested-ink : (s : Setting) (r : Reading) → ink_drawn (rested s r) ≡ ink_drawn r
unfolding rested
rested-ink s r = ap ink_of_all (settled-strokes s r)

-- in a DCS sequence too
pub dcs-rested-ink : (s : Setting) (t : Phase) → dcs_ink (dcs_rested s t) ≡ dcs_ink t
unfolding drawing_of dcs_rested
dcs-rested-ink s start = refl
dcs-rested-ink s introduced = refl
dcs-rested-ink s (header bs) = refl
dcs-rested-ink s (within r) = rested-ink s r
dcs-rested-ink s (after_escape r) = refl
dcs-rested-ink s (over e r) = refl
