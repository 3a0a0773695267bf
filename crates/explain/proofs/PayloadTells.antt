-- What is told of a payload session's calls is what the definition tells, wherever the session stands for one of the definition.
use Rattle.std.specs.Prelude.{◌≡◌, ℕ, suc, ◌+◌, ◌-◌, ◌≤◌, cond, leb, List, [], ◌∷◌}
use native.Mathlib.Omega.{arith}
use mathlib.Core.Option.{Option, none, some}
use mathlib.Core.Path.{refl, sym, ap, ap₂, ◌∙◌, subst}
use borrow.Author.Tests.{le-leb, lt-leb}
use Rattle.numbers.specs.Bytes.{ends}
use Rattle.colours.specs.declared.Palette.{Palette}
use Rattle.frame.specs.declared.Frame.{Frame}
use Rattle.frame.specs.declared.Ground.{Ground}
use Rattle.frame.specs.declared.Outcome.{Outcome}
use Rattle.frame.specs.declared.Outcome.TheVariants as outcomes
use Rattle.frame.specs.declared.Refusal.{Refusal}
use Rattle.frame.specs.Numbers.{number_of}
use Rattle.reference.specs.Step.{Reached}
use Rattle.reference.specs.Feed.{byte_step, reached_as, go_on, feed_from}
use Rattle.meaning.specs.Drawing.{Setting}
use Rattle.meaning.specs.Reader.{Step, next, halt, refuse, How, stopped, is_refused, Run, still, after, follow, call}
use Rattle.meaning.specs.Commands.{closed}
use Rattle.meaning.specs.Sessions.{Reading, settled, rested, ended_at, read_byte, payload_step}
use Rattle.meaning.specs.Tellings.{Shortage, Telling, told_at, first_shortage, first_refused, byte_shortage, pending_telling}
use Rattle.agreement.specs.Same.{Same}
use Rattle.agreement.proofs.Bytes.{byte-agrees}
use Rattle.agreement.proofs.Data.{Agrees, reads, stops, halts, refuses}
use Rattle.explain.specs.Explained.{told_for, explained_in}
use Rattle.explain.specs.Meant.{place_meant, need_meant, telling_meant, explained_meant}
use Rattle.explain.specs.Need.{need_of}
use Rattle.explain.proofs.NeedAgrees.{byte-need}

-- where the code came to, told; its bytes stand at a place
abbrev pub told_of : Ground → ℕ → Reached → Option Telling
told_of g from t = explained_meant (explained_in t.progress.outcome t.progress.frame g (from + t.progress.consumed))

-- a refusal with its place and its need
pub refused-told : {n : ℕ} {need : Option Shortage} (why : Refusal) (g : Ground) (f : Frame) (at : ℕ) → number_of why ≡ n → need ≡ need_meant (need_of f g)
    → some (told_at at n need) ≡ explained_meant (explained_in (outcomes.Refused why) f g at)
unfolding explained_meant explained_in told_for telling_meant told_at place_meant
refused-told why g f at m k =
    ap₂ (λ (x : ℕ) (y : Option Shortage). some (record { number = x; place = some at; need = y })) (sym m) k

-- a call of the definition with what is left, and its telling
abbrev pub call_of : Setting → ℕ → Reading → List ℕ → Run Reading
call_of s left r bs = call (payload_step s) (rested s) left r bs

abbrev pub first_of : Setting → ℕ → Reading → List ℕ → Option Telling
first_of s at r bs = first_refused (payload_step s) (byte_shortage s) at r bs

abbrev pub told_if : How → Option Telling → Option Telling
told_if how t = cond (is_refused how) t none

-- a call's bytes stand at a place
module _ (s : Setting) (opening : List ℕ) (g : Ground) (a from : ℕ) where
  -- the later bytes agree, from any state on
  abbrev Later : List ℕ → Type 0
  Later bs = (n i : ℕ) (r : Reading) (f : Frame) (p : Palette) (l : List ℕ) → i ≤ a → Same s opening r g f p l → r.over ≡ none
      → told_if (call_of s (a - i) r bs).how (first_of s (from + n) r bs) ≡ told_of g from (feed_from g a bs n i f p l)

  module _ (n i b : ℕ) (r : Reading) (bs : List ℕ) (within : i ≤ a) (later : Later bs) where
    -- the definition's run and telling, and the code's run, from a byte on
    follows : Step Reading → Run Reading
    unfolding follow
    follows x = follow x (λ u j. cond (leb j (a - i)) (after 1 j (call_of s (a - i - j) u bs)) (still (rested s r) stopped))

    tells : Step Reading → Option Telling
    unfolding told_at
    tells x =
        elim x [
          | next t j ↦ first_of s (suc (from + n)) t bs
          | halt t ↦ none
          | refuse t m ↦ some (told_at (from + n) m (byte_shortage s r b))
        ]

    goes_on : Outcome → Reached → Reached
    unfolding go_on
    goes_on o t = go_on o t n i (λ n' i' f' p' l'. feed_from g a bs n' i' f' p' l')

    -- the byte was read
    reads-tell : {u : Reading} {j : ℕ} (t : Reached) → j ≤ a - i → u.over ≡ none → t.progress.ink ≡ j
        → Same s opening u g t.progress.frame t.palette t.canvas
        → told_if (call_of s (a - i - j) u bs).how (first_of s (suc (from + n)) u bs) ≡ told_of g from (goes_on outcomes.Read t)
    unfolding goes_on
    reads-tell {u} {j} t h over ink same =
        let rest : a - (i + j) ≡ a - i - j = omega arith in
        let place : from + (n + 1) ≡ suc (from + n) = omega arith in
        ap₂ (λ (k m : ℕ). told_if (call_of s k u bs).how (first_of s m u bs)) (sym rest) (sym place)
        ∙ later (n + 1) (i + j) u t.progress.frame t.palette t.canvas (omega arith) same over
        ∙ ap (λ (k : ℕ). told_of g from (feed_from g a bs (n + 1) (i + k) t.progress.frame t.palette t.canvas)) (sym ink)

    module _ (t : Reached)
        (need : (why : Refusal) → t.progress.outcome ≡ outcomes.Refused why → byte_shortage s r b ≡ need_meant (need_of t.progress.frame g)) where
      known : {o : Outcome} {told : Option Telling} → t.progress.outcome ≡ o → told ≡ told_of g from (goes_on o t)
          → told ≡ told_of g from (goes_on t.progress.outcome t)
      known {told = told} e = subst (λ (o : Outcome). told ≡ told_of g from (goes_on o t)) (sym e)

      byte-tells : {x : Step Reading} → Agrees s opening r g b (a - i) x t
          → told_if (follows x).how (tells x) ≡ told_of g from (goes_on t.progress.outcome t)
      unfolding follows tells goes_on reached_as after still is_refused explained_meant explained_in
      byte-tells (reads {i = j} h over e one ink same) = known e (rw (le-leb j (a - i) h) (reads-tell t h over ink same))
      byte-tells (stops {i = j} h e same) = known e (rw (lt-leb j (a - i) h))
      byte-tells (halts over e same) = known e refl
      byte-tells (refuses why m e same) = known e (refused-told why g t.progress.frame (from + n) m (need why e))

  pub call-tells : (bs : List ℕ) → Later bs
  unfolding call feed_from first_refused follows tells goes_on reached_as still is_refused explained_meant explained_in
  call-tells [] n i r f p l within same going = refl
  call-tells (b ∷ bs) n i r f p l within same going =
      byte-tells n i b r bs within (call-tells bs) (byte_step f g b (a - i) p l) (λ why. byte-need same b (a - i)) (byte-agrees same going b (a - i))

-- ---- the pending command

-- the reading with no end
abbrev unended : Reading → Reading
unended r = record { parameters = r.parameters; passed = r.passed; begun = r.begun; drawing = r.drawing; over = none }

-- a byte that ends the payload: what it comes to is what the pending command does
ending-step : (s : Setting) (r : Reading) → payload_step s (unended r) 0x1B ≡ ended_at 0x1B (unended r) (settled s r)
unfolding payload_step read_byte settled ends
ending-step s r = refl

ending-need : (s : Setting) (r : Reading) → byte_shortage s (unended r) 0x1B ≡ first_shortage s (closed r.begun) r.drawing
unfolding byte_shortage ends
ending-need s r = refl

module _ {s : Setting} {opening : List ℕ} {r : Reading} {g : Ground} {f : Frame} {p : Palette} {l : List ℕ} (same : Same s opening r g f p l) (at : ℕ) where
  -- where the byte leads, and what is told of it at a place
  abbrev there : Reached
  there = byte_step f g 0x1B 0 p l

  told_in : Outcome → Option Telling
  told_in o = explained_meant (explained_in o there.progress.frame g at)

  needs : (why : Refusal) → there.progress.outcome ≡ outcomes.Refused why
      → first_shortage s (closed r.begun) r.drawing ≡ need_meant (need_of there.progress.frame g)
  needs why e = sym (ending-need s r) ∙ byte-need {r = unended r} (record { drawing = same.drawing; begun = same.begun }) 0x1B 0 e

  halted-told : {u : Reading} → Agrees s opening (unended r) g 0x1B 0 (halt u) there → none ≡ told_in there.progress.outcome
  unfolding told_in explained_meant explained_in
  halted-told (halts over e same) = ap told_in (sym e)

  turned-told : {u : Reading} {n : ℕ} → Agrees s opening (unended r) g 0x1B 0 (refuse u n) there
      → some (told_at at n (first_shortage s (closed r.begun) r.drawing)) ≡ told_in there.progress.outcome
  unfolding told_in
  turned-told (refuses why m e same) = refused-told why g there.progress.frame at m (needs why e) ∙ ap told_in (sym e)

  -- what the definition tells of the pending command is what the code tells of a byte that ends it
  pub pending-tells : pending_telling s at r ≡ explained_meant (explained_in there.progress.outcome there.progress.frame g at)
  unfolding pending_telling ended_at told_in
  pending-tells = go (settled s r).refusal agrees
    where
      step : Option ℕ → Step Reading
      step o =
          elim o [
            | none ↦
                halt
                (record {
                  parameters = r.parameters;
                  passed = r.passed;
                  begun = none;
                  drawing = (settled s r).drawing;
                  over = some 0x1B;
                })
            | some n ↦
                refuse
                (record { parameters = r.parameters; passed = r.passed; begun = none; drawing = (settled s r).drawing; over = none })
                n
          ]

      told : Option ℕ → Option Telling
      told o = elim o [ none ↦ none | some n ↦ some (told_at at n (first_shortage s (closed r.begun) r.drawing)) ]

      agrees : Agrees s opening (unended r) g 0x1B 0 (step (settled s r).refusal) there
      agrees =
          subst (λ (x : Step Reading). Agrees s opening (unended r) g 0x1B 0 x there) (ending-step s r)
          (byte-agrees {r = unended r} (record { drawing = same.drawing; begun = same.begun }) refl 0x1B 0)

      go : (o : Option ℕ) → Agrees s opening (unended r) g 0x1B 0 (step o) there → told o ≡ told_in there.progress.outcome
      go none h = halted-told h
      go (some n) h = turned-told h
