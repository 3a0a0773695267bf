-- Laws of bytes: what each does to a payload and to a DCS sequence, and what a drawing keeps through every byte, stop and call.
use Prim.Native.Nat.{ℕ, ◌-◌}
use mathlib.Core.Path.{◌≡◌, refl, subst}
use mathlib.Core.Bool.{cond, ◌||◌}
use mathlib.Core.Option.{Option, none, some}
use mathlib.Core.List.{List, [], ◌∷◌}
use lib.Dec.{leb, eqb}
use Rattle.numbers.specs.Bytes.{ends}
use Rattle.colours.specs.declared.Palette.{Palette}
use Rattle.meaning.specs.Commands.{Scanned, scan_byte}
use Rattle.meaning.specs.Drawing.{Setting, Drawing, blank, draw_all}
use Rattle.meaning.specs.Payload.{Parameters}
use Rattle.meaning.specs.Reader.{Step, next, halt, refuse, stopped, Run, still, after, follow, read_from, call}
use Rattle.meaning.specs.Sessions.{Reading, opened, settled, rested, ended_at, went_on, read_byte, payload_step, End, Phase, start, introduced, header, within, after_escape, over, start_step, introduced_step, header_step, HeaderByte, goes_on, settles, wrong, header_byte, end_step, within_step, escape_step, dcs_step, dcs_rested}
use Rattle.meaning.specs.Calls.{drawing_of}
use Rattle.meaning.proofs.Cases.{cond-case, option-case}

-- ---- a payload, byte by byte

-- a fact of each thing that a step can be
abbrev pub OnStep : {S : Type 0} → (S → ℕ → Type 0) → (S → Type 0) → (S → ℕ → Type 0) → Step S → Type 0
OnStep N H R (next t i) = N t i
OnStep N H R (halt t) = H t
OnStep N H R (refuse t n) = R t n

-- a fact of the state that a step leaves
abbrev pub Leaves : {S : Type 0} → (S → Type 0) → Step S → Type 0
Leaves P = OnStep (λ t i. P t) P (λ t n. P t)

-- a fact that follows from another
pub leaves_map : {S : Type 0} {P Q : S → Type 0} → ((t : S) → P t → Q t) → (x : Step S) → Leaves P x → Leaves Q x
leaves_map f (next t i) h = f t h
leaves_map f (halt t) h = f t h
leaves_map f (refuse t n) h = f t h

-- both cases of an ended payload
pub payload-case : (P : Step Reading → Type 0) (s : Setting) (r : Reading) (b : ℕ) → (r.over ≡ none → P (read_byte s r b))
    → (payload_step s r b ≡ halt r → P (halt r)) → P (payload_step s r b)
unfolding payload_step
payload-case P s r b f g = option-case P r.over f (λ e q. g (rw q))

-- A fact of the drawing before a byte, of that with the begun command carried out, and of that with the commands that the byte ends or is:
-- it holds of what the byte leaves, one that is read, one that ends the payload, and one that is refused.
pub payload-leaves : (P : Drawing → Type 0) (s : Setting) (r : Reading) (b : ℕ) → P r.drawing → P (settled s r).drawing
    → P (draw_all s (scan_byte r.passed r.begun b).ended r.drawing).drawing → Leaves (λ t. P t.drawing) (payload_step s r b)
unfolding read_byte ended_at went_on
payload-leaves P s r b still before after-it =
    payload-case Good s r b
    (λ _. cond-case Good (ends b) (λ _. option-case Good (settled s r).refusal (λ _. before) (λ n _. before))
    (λ _. option-case Good (draw_all s c.ended r.drawing).refusal (λ _. after-it) (λ n _. after-it)))
    (λ _. still)
  where
    c : Scanned
    c = scan_byte r.passed r.begun b

    Good : Step Reading → Type 0
    Good = Leaves (λ t. P t.drawing)

-- ---- a DCS sequence, byte by byte

-- the payload has not begun
abbrev pub Before : Phase → Type 0
Before start = Unit {0}
Before introduced = Unit {0}
Before (header bs) = Unit {0}
Before (within r) = ⊥
Before (after_escape r) = ⊥
Before (over e r) = ⊥

-- all that a byte can do to a DCS sequence, whichever byte it is
pub data DcsDoes (s : Setting) (p : Palette) (b : ℕ) : Phase → Step Phase → Type 0 where
  advances : {t u : Phase} → Before t → Before u → DcsDoes s p b t (next u 0)
  begins : {t : Phase} → Before t → (o : Parameters) → DcsDoes s p b t (next (within (opened o p)) 0)
  turns : {t : Phase} {n : ℕ} → Before t → DcsDoes s p b t (refuse t n)
  reads : (r : Reading) {t : Reading} {i : ℕ} → payload_step s r b ≡ next t i → DcsDoes s p b (within r) (next (within t) i)
  refuses : (r : Reading) {t : Reading} {n : ℕ} → payload_step s r b ≡ refuse t n → DcsDoes s p b (within r) (refuse (within t) n)
  escapes : (r : Reading) {t : Reading} → payload_step s r b ≡ halt t → DcsDoes s p b (within r) (next (after_escape t) 0)
  closes : (r : Reading) {t : Reading} {e : End} → payload_step s r b ≡ halt t → DcsDoes s p b (within r) (next (over e t) 0)
  breaks : (r : Reading) {t : Reading} {e : End} → payload_step s r b ≡ halt t → DcsDoes s p b (within r) (halt (over e t))
  completes : {r : Reading} {e : End} → DcsDoes s p b (after_escape r) (next (over e r) 0)
  lapses : {r : Reading} {e : End} → DcsDoes s p b (after_escape r) (halt (over e r))
  remains : {r : Reading} {e : End} → DcsDoes s p b (over e r) (halt (over e r))

module _ (s : Setting) (p : Palette) (b : ℕ) where
  start-does : DcsDoes s p b start (start_step b)
  unfolding start_step
  start-does =
      cond-case (DcsDoes s p b start) (eqb b 0x1B) (λ _. advances tt tt)
      λ _. cond-case (DcsDoes s p b start) (eqb b 0x90) (λ _. advances tt tt) (λ _. turns tt)

  header-does : (bs : List ℕ) → DcsDoes s p b (header bs) (header_step p bs b)
  unfolding header_step
  header-does bs = go (header_byte bs b)
    where
      go : (x : HeaderByte)
          → DcsDoes s p b (header bs)
          (elim x [ goes_on more ↦ next (header more) 0 | settles o ↦ next (within (opened o p)) 0 | wrong n ↦ refuse (header bs) n ])
      go (goes_on more) = advances tt tt
      go (settles o) = begins tt o
      go (wrong n) = turns tt

  end-does : (r t : Reading) → payload_step s r b ≡ halt t → DcsDoes s p b (within r) (end_step t b)
  unfolding end_step
  end-does r t q =
      cond-case (DcsDoes s p b (within r)) (eqb b 0x1B) (λ _. escapes r q)
      λ _. cond-case (DcsDoes s p b (within r)) (eqb b 0x9C) (λ _. closes r q)
      λ _. cond-case (DcsDoes s p b (within r)) (eqb b 0x18 || eqb b 0x1A) (λ _. closes r q) (λ _. breaks r q)

  within-does : (r : Reading) → DcsDoes s p b (within r) (within_step s r b)
  unfolding within_step
  within-does r = go (payload_step s r b) refl
    where
      go : (x : Step Reading) → payload_step s r b ≡ x
          → DcsDoes s p b (within r) (elim x [ next t i ↦ next (within t) i | halt t ↦ end_step t b | refuse t n ↦ refuse (within t) n ])
      go (next t i) q = reads r q
      go (halt t) q = end-does r t q
      go (refuse t n) q = refuses r q

  -- a byte does one of those things
  pub dcs-does : (t : Phase) → DcsDoes s p b t (dcs_step s p t b)
  unfolding dcs_step introduced_step escape_step
  dcs-does start = start-does
  dcs-does introduced = cond-case (DcsDoes s p b introduced) (eqb b 0x50) (λ _. advances tt tt) (λ _. turns tt)
  dcs-does (header bs) = header-does bs
  dcs-does (within r) = within-does r
  dcs-does (after_escape r) = cond-case (DcsDoes s p b (after_escape r)) (eqb b 0x5C) (λ _. completes) (λ _. lapses)
  dcs-does (over e r) = remains

-- a fact of the drawing, if there is one
abbrev pub OnDrawing : (Drawing → Type 0) → Option Drawing → Type 0
OnDrawing P none = Unit {0}
OnDrawing P (some d) = P d

-- before the payload there is none
before-drawn : (P : Drawing → Type 0) (t : Phase) → Before t → OnDrawing P (drawing_of t)
unfolding drawing_of
before-drawn P start h = tt
before-drawn P introduced h = tt
before-drawn P (header bs) h = tt
before-drawn P (within r) h = absurd h
before-drawn P (after_escape r) h = absurd h
before-drawn P (over e r) h = absurd h

-- what holds of the first drawing of a payload and is kept by its bytes and stops holds of a DCS sequence's, once there is one
module _ (s : Setting) (p : Palette) (P : Drawing → Type 0) (first : (o : Parameters) → P (blank p o.p2))
    (keep : (r : Reading) (b : ℕ) → P r.drawing → Leaves (λ t. P t.drawing) (payload_step s r b))
    (stop : (r : Reading) → P r.drawing → P (rested s r).drawing) where
  -- a payload's byte keeps it, with its step known
  kept_by : (r : Reading) (b : ℕ) {x : Step Reading} → P r.drawing → payload_step s r b ≡ x → Leaves (λ t. P t.drawing) x
  kept_by r b h e = subst (Leaves (λ t. P t.drawing)) e (keep r b h)

  does-keep : (b : ℕ) {t : Phase} {x : Step Phase} → DcsDoes s p b t x → OnDrawing P (drawing_of t) → Leaves (λ u. OnDrawing P (drawing_of u)) x
  unfolding drawing_of opened
  does-keep b (advances {u = u} _ k) h = before-drawn P u k
  does-keep b (begins _ o) h = first o
  does-keep b (turns _) h = h
  does-keep b (reads r e) h = kept_by r b h e
  does-keep b (refuses r e) h = kept_by r b h e
  does-keep b (escapes r e) h = kept_by r b h e
  does-keep b (closes r e) h = kept_by r b h e
  does-keep b (breaks r e) h = kept_by r b h e
  does-keep b completes h = h
  does-keep b lapses h = h
  does-keep b remains h = h

  pub dcs-step-keeps : (t : Phase) (b : ℕ) → OnDrawing P (drawing_of t) → Leaves (λ u. OnDrawing P (drawing_of u)) (dcs_step s p t b)
  dcs-step-keeps t b = does-keep b (dcs-does s p b t)

  pub dcs-rested-keeps : (t : Phase) → OnDrawing P (drawing_of t) → OnDrawing P (drawing_of (dcs_rested s t))
  unfolding dcs_rested drawing_of
  dcs-rested-keeps start h = h
  dcs-rested-keeps introduced h = h
  dcs-rested-keeps (header bs) h = h
  dcs-rested-keeps (within r) h = stop r h
  dcs-rested-keeps (after_escape r) h = h
  dcs-rested-keeps (over e r) h = h

-- ---- runs

-- what every step keeps, reading keeps
pub read_from-keeps : {S : Type 0} (P : S → Type 0) (step : S → ℕ → Step S) → ((t : S) (b : ℕ) → P t → Leaves P (step t b))
    → (t : S) (bs : List ℕ) → P t → P (read_from step t bs).state
unfolding read_from
read_from-keeps P step keep t [] h = h
read_from-keeps P step keep t (b ∷ bs) h = go (step t b) (keep t b h) (λ u. read_from-keeps P step keep u bs)
  where
    go : (x : Step _) → Leaves P x → ((u : _) → P u → P (read_from step u bs).state)
        → P (follow x (λ u i. after 1 i (read_from step u bs))).state
    go (next u i) k later = later u k
    go (halt u) k later = k
    go (refuse u n) k later = k

-- and what a stop keeps too, a call keeps
pub call-keeps : {S : Type 0} (P : S → Type 0) (step : S → ℕ → Step S) (rest : S → S) → ((t : S) (b : ℕ) → P t → Leaves P (step t b))
    → ((t : S) → P t → P (rest t)) → (left : ℕ) (t : S) (bs : List ℕ) → P t → P (call step rest left t bs).state
unfolding call
call-keeps P step rest keep stop left t [] h = h
call-keeps {S} P step rest keep stop left t (b ∷ bs) h =
    go (step t b) (keep t b h) (λ i u. call-keeps P step rest keep stop (left - i) u bs)
  where
    go : (x : Step S) → Leaves P x → ((i : ℕ) (u : S) → P u → P (call step rest (left - i) u bs).state)
        → P (follow x (λ u i. cond (leb i left) (after 1 i (call step rest (left - i) u bs)) (still (rest t) stopped))).state
    go (next u i) k later = cond-case (λ (r : Run S). P r.state) (leb i left) (λ _. later i u k) (λ _. stop t h)
    go (halt u) k later = k
    go (refuse u n) k later = k
