-- A byte does in the code what it does in the definition.
use Prim.Native.Nat.{ℕ, ◌≤◌}
use native.Mathlib.Omega.{arith}
use mathlib.Core.Path.{◌≡◌, refl, sym, ap, ◌∙◌, subst}
use mathlib.Core.Bool.{Bool, true, false, ◌&&◌, ◌||◌, and-true, true≢false}
use mathlib.Core.Option.{Option, none, some}
use mathlib.Core.List.{List, [], ◌∷◌, ◌++◌}
use borrow.Author.Tests.{leb-true, eqb-true, eq-eqb, ne_eqb, lt-leb}
use lib.Dec.{leb, eqb}
use Rattle.numbers.specs.Bytes.{skipped, digit, ends, semicolon}
use Rattle.numbers.specs.Read.{Read}
use Rattle.numbers.proofs.Laws.{cond_yes, cond_no, digit-least, digit-top}
use Rattle.numbers.proofs.Fields.{unskipped}
use Rattle.numbers.proofs.Reading.{read-digit, read-semicolon}
use Rattle.numbers.proofs.Repeat.{counted-more}
use Rattle.colours.specs.declared.Palette.{Palette}
use Rattle.canvas.proofs.Covers.{and_left, and_right, or_case}
use Rattle.frame.specs.declared.Command as code_command
use Rattle.frame.specs.declared.Frame.{Frame}
use Rattle.frame.specs.declared.Ground.{Ground}
use Rattle.frame.specs.declared.Kind as code_kind
use Rattle.frame.specs.declared.Kind.TheVariants as kinds
use Rattle.frame.specs.Commands.{with_command, by_digit_in, by_digit, by_semicolon}
use Rattle.reference.specs.Step.{Reached, read_as, data_step, takes_semicolon, argument_step, step_in, step_of}
use Rattle.reference.specs.Feed.{then_data, byte_step}
use Rattle.meaning.specs.Commands.{Kind, repeat, colour, raster, Begun, of_values, lengthens, taken, longer, closed}
use Rattle.meaning.specs.Drawing.{Setting, Drawing, draw_all, ink_of_all, strokes_since}
use Rattle.meaning.specs.Reader.{Step, next}
use Rattle.meaning.specs.Sessions.{Reading, settled, rested, payload_step}
use Rattle.meaning.proofs.AreaLaws.{cond-case}
use Rattle.agreement.specs.Same.{frame_of, SameDrawing, SameBegun, Same}
use Rattle.agreement.proofs.Settle.{same-fact, same-drawing, Settling, settling, refusing, settle-agrees}
use Rattle.agreement.proofs.Data.{Agrees, reads, stops, halts, refuses, plain, quietly, unended, data-agrees}
use Rattle.agreement.proofs.Own.{turned_at, payload-settles, payload-turns, passed_with, payload-skips, payload-takes}

-- ---- kinds of bytes

-- a skipped byte does not end the payload
skipped_ends : (b : ℕ) → skipped b ≡ true → ends b ≡ false
unfolding skipped ends
skipped_ends b e =
    or_case (leb b 0x17) _ e (λ e. low (omega (arith, leb-true b 0x17 e)) (λ q. omega (arith, leb-true b 0x17 e)))
    λ e. or_case (eqb b 0x19) _ e (λ e. low (omega (arith, eqb-true b 0x19 e)) (λ q. omega (arith, eqb-true b 0x19 e)))
    λ e. or_case (leb 0x1C b && leb b 0x1F) _ e
    (λ e. unended b (leb-true 0x1C b (and_left _ _ e)) (omega (arith, leb-true b 0x1F (and_right (leb 0x1C b) _ e))))
    (λ e. unended b (omega (arith, eqb-true b 0x7F e)) (omega (arith, eqb-true b 0x7F e)))
  where
    low : b ≤ 0x19 → (b ≡ 0x18 → ⊥) → ends b ≡ false
    low h k = simp (ne_eqb b 0x18 k, lt-leb 0x1A b (omega arith), lt-leb 0x80 b (omega arith))

-- nor does a digit, and it is not skipped
digit-ends : (b : ℕ) → digit b ≡ true → ends b ≡ false
digit-ends b e = unended b (omega (arith, digit-least b e)) (omega (arith, digit-top b e))

digit-skipped : (b : ℕ) → digit b ≡ true → skipped b ≡ false
digit-skipped b e = unskipped b (omega (arith, digit-least b e)) (omega (arith, digit-top b e))

-- ---- the begun command goes on

-- a digit is taken by every command
digit-taken : (k : Begun) (b : ℕ) → digit b ≡ true → taken (some k) b ≡ true
unfolding taken lengthens of_values
digit-taken k b e = go k.kind
  where
    go : (x : Kind) → lengthens x b ≡ true
    go repeat = e
    go colour = rw e
    go raster = rw e

-- and lengthens it in the code
digit-begun : (k : Begun) (c : code_command.Command) (b : ℕ) → digit b ≡ true → SameBegun (some k) c → SameBegun (longer (some k) b) (by_digit c b)
unfolding longer by_digit
digit-begun k c b e h = go k.kind h
  where
    longest : Kind → Option Begun
    longest x = some (record { place = k.place; kind = x; argument = k.argument ++ b ∷ [] })

    go : (x : Kind) → SameBegun (some (record { place = k.place; kind = x; argument = k.argument })) c
        → SameBegun (longest x) (by_digit_in c.kind c b)
    go repeat h = subst (λ y. SameBegun (longest repeat) (by_digit_in y c b)) (sym h.0) (h.0, counted-more b h.1)
    go colour h = subst (λ y. SameBegun (longest colour) (by_digit_in y c b)) (sym h.0) (h.0, read-digit b e h.1)
    go raster h = subst (λ y. SameBegun (longest raster) (by_digit_in y c b)) (sym h.0) (h.0, read-digit b e h.1)

-- a begun command, whichever it is
begun-case : (P : Kind → Type 0) (k : Begun) (c : code_command.Command) → SameBegun (some k) c
    → (c.kind ≡ kinds.Repeat → P repeat)
    → (c.kind ≡ kinds.Color → Read 5 k.argument c.parameters → P colour)
    → (c.kind ≡ kinds.Raster → Read 4 k.argument c.parameters → P raster)
    → P k.kind
begun-case P k c h rep col ras = go k.kind h
  where
    go : (x : Kind) → SameBegun (some (record { place = k.place; kind = x; argument = k.argument })) c → P x
    go repeat h = rep h.0
    go colour h = col h.0 h.1
    go raster h = ras h.0 h.1

-- a `;` that the code takes is taken
semicolon-taken : (k : Begun) (c : code_command.Command) → SameBegun (some k) c → takes_semicolon c.kind ≡ true → taken (some k) semicolon ≡ true
unfolding taken lengthens of_values takes_semicolon digit
semicolon-taken k c h t =
    begun-case (λ x. lengthens x semicolon ≡ true) k c h (λ e. absurd (true≢false (sym t ∙ ap takes_semicolon e))) (λ _ _. refl) (λ _ _. refl)

-- and lengthens the values in the code
semicolon-begun : (k : Begun) (c : code_command.Command) → SameBegun (some k) c → takes_semicolon c.kind ≡ true
    → SameBegun (longer (some k) semicolon) (by_semicolon c)
unfolding longer takes_semicolon by_semicolon
semicolon-begun k c h t =
    begun-case (λ x. SameBegun (some (record { place = k.place; kind = x; argument = k.argument ++ semicolon ∷ [] })) (by_semicolon c)) k c h
    (λ e. absurd (true≢false (sym t ∙ ap takes_semicolon e)))
    (λ e r. (e, read-semicolon r))
    (λ e r. (e, read-semicolon r))

-- what the code does not take is not taken
pub untaken : (k : Begun) (c : code_command.Command) (b : ℕ) → SameBegun (some k) c → digit b ≡ false
    → (eqb b semicolon && takes_semicolon c.kind) ≡ false → taken (some k) b ≡ false
unfolding taken lengthens of_values takes_semicolon
untaken k c b h d e =
    begun-case (λ x. lengthens x b ≡ false) k c h (λ _. d) (λ q _. parted (ap takes_semicolon q)) (λ q _. parted (ap takes_semicolon q))
  where
    parted : takes_semicolon c.kind ≡ true → (digit b || eqb b semicolon) ≡ false
    parted t = rw d (sym (and-true (eqb b semicolon)) ∙ ap (λ (u : Bool). eqb b semicolon && u) (sym t) ∙ e)

-- the code steps by the argument
pub argument-step : (k : Begun) (f : Frame) (g : Ground) (b left : ℕ) (p : Palette) (l : List ℕ) → SameBegun (some k) f.command
    → step_of f g b left p l ≡ argument_step f g b p l
unfolding step_of step_in
argument-step k f g b left p l h =
    begun-case (λ _. step_in f.command.kind f g b left p l ≡ argument_step f g b p l) k f.command h
    (λ e. ap known e)
    (λ e _. ap known e)
    (λ e _. ap known e)
  where
    known : code_kind.Kind → Reached
    known x = step_in x f g b left p l

-- ---- the byte

-- the frame with another command
with-command : {s : Setting} {opening : List ℕ} {d : Drawing} {g : Ground} {f : Frame} {p : Palette} {l : List ℕ} (c : code_command.Command)
    → SameDrawing s opening d g f p l → SameDrawing s opening d g (with_command f c) p l
unfolding with_command frame_of
with-command c same =
    record {
      bounded = same.bounded;
      sound = same.sound;
      rated = same.rated;
      ground = same.ground;
      frame = ap (λ (f : Frame). with_command f c) same.frame;
      palette = same.palette;
      canvas = same.canvas;
    }

-- a byte while no command is pending, of any reading
idle-agrees : {s : Setting} {opening : List ℕ} {r : Reading} {g : Ground} {f : Frame} {p : Palette} {l : List ℕ} → Same s opening r g f p l
    → r.begun ≡ none → r.over ≡ none → (b left : ℕ) → Agrees s opening r g b left (payload_step s r b) (data_step f g b left p l)
idle-agrees {s} {opening} {r} {g} {f} {p} {l} same none-begun going b left =
    subst (λ (u : Reading). Agrees s opening u g b left (payload_step s u b) (data_step f g b left p l)) (sym is_plain)
    (same-fact (λ g f p l. Agrees s opening at_rest g b left (payload_step s at_rest b) (data_step f g b left p l)) same.drawing
    (data-agrees same.drawing.bounded opening r.parameters r.passed same.drawing.sound same.drawing.rated f.command kind b left))
  where
    at_rest : Reading
    at_rest = plain r.parameters r.passed r.drawing

    is_plain : r ≡ at_rest
    is_plain = λ i. record { parameters = r.parameters; passed = r.passed; begun = none-begun i; drawing = r.drawing; over = going i }

    kind : f.command.kind ≡ kinds.Data
    kind = subst (λ (o : Option Begun). SameBegun o f.command) none-begun same.begun

-- what a byte came to after the command was carried out, it came to before
from-rested : {s : Setting} {opening : List ℕ} {r : Reading} {g : Ground} {b left : ℕ} {x : Step Reading} {t : Reached}
    → Agrees s opening (rested s r) g b left x t → Agrees s opening r g b left x t
unfolding rested settled closed draw_all
from-rested (reads h over e one ink same) = reads h over e one ink same
from-rested (stops h e same) = stops h e same
from-rested (halts over e same) = halts over e same
from-rested (refuses why n e same) = refuses why n e same

-- a step that settled nothing is the byte's
then-itself : {s : Setting} {opening : List ℕ} {r : Reading} {g : Ground} {b left : ℕ} {x : Step Reading} {t : Reached}
    → Agrees s opening r g b left x t → then_data t.progress.outcome t g b left ≡ t
unfolding then_data
then-itself {g = g} {b} {left} {t = t} (reads h over e one ink same) =
    ap (λ o. then_data o t g b left) e ∙ cond_no _ _ (ne_eqb _ _ (λ none. let z : ◌≡◌ {A = ℕ} 1 0 = sym one ∙ none in omega arith))
then-itself {g = g} {b} {left} {t = t} (stops h e same) = ap (λ o. then_data o t g b left) e
then-itself {g = g} {b} {left} {t = t} (halts over e same) = ap (λ o. then_data o t g b left) e
then-itself {g = g} {b} {left} {t = t} (refuses why n e same) = ap (λ o. then_data o t g b left) e

-- the byte ends the begun command and is then read itself
settled-agrees : {s : Setting} {opening : List ℕ} {r : Reading} {g : Ground} {o : Option ℕ} {t : Reached} (b left : ℕ) → r.over ≡ none
    → skipped b ≡ false → taken r.begun b ≡ false → (settled s r).refusal ≡ o → Settling s opening r g o t
    → Agrees s opening r g b left (payload_step s r b) (then_data t.progress.outcome t g b left)
unfolding then_data rested turned_at
settled-agrees {s} {opening} {r} {g} {t = t} b left going e₁ e₂ q (settling e unread same) =
    subst (Agrees s opening r g b left (payload_step s r b)) (sym (ap (λ o. then_data o t g b left) e ∙ cond_yes _ _ (eq-eqb _ _ unread)))
    (subst (λ (x : Step Reading). Agrees s opening r g b left x (data_step t.progress.frame g b left t.palette t.canvas))
    (sym (payload-settles s r b going e₁ e₂ q))
    (from-rested (idle-agrees same refl going b left)))
settled-agrees {s} {opening} {r} {g} {t = t} b left going e₁ e₂ q (refusing why n e kept same) =
    subst (λ o. Agrees s opening r g b left (payload_step s r b) (then_data o t g b left)) (sym e)
    (subst (λ (x : Step Reading). Agrees s opening r g b left x t) (sym (payload-turns s r b going e₁ e₂ q))
    (refuses why n e (same-drawing kept same)))

module _ {s : Setting} {opening : List ℕ} {r : Reading} {g : Ground} {f : Frame} {p : Palette} {l : List ℕ} (same : Same s opening r g f p l)
    (going : r.over ≡ none) (b left : ℕ) where
  -- what a step comes to once the byte is read
  abbrev Then : Reached → Type 0
  Then t = Agrees s opening r g b left (payload_step s r b) (then_data t.progress.outcome t g b left)

  -- no command is pending
  data-then : r.begun ≡ none → Then (step_of f g b left p l)
  unfolding step_of step_in
  data-then e =
      let kind : f.command.kind ≡ kinds.Data = subst (λ (o : Option Begun). SameBegun o f.command) e same.begun in
      let agrees : Agrees s opening r g b left (payload_step s r b) (data_step f g b left p l) = idle-agrees same e going b left in
      subst (λ x. Then (step_in x f g b left p l)) (sym kind)
      (subst (Agrees s opening r g b left (payload_step s r b)) (sym (then-itself agrees)) agrees)

  -- a byte that is read and ends no command
  reads_on : (c : code_command.Command) (k : Option Begun)
      → payload_step s r b ≡ next (passed_with r k) (ink_of_all (strokes_since r.drawing r.drawing)) → SameBegun k c
      → Agrees s opening r g b left (payload_step s r b) (record { progress = read_as (with_command f c) 0; palette = p; canvas = l })
  unfolding read_as passed_with with_command
  reads_on c k e begun =
      subst (λ (x : Step Reading). Agrees s opening r g b left x (record { progress = read_as (with_command f c) 0; palette = p; canvas = l })) (sym e)
      (quietly _ _ refl refl refl refl refl (record { drawing = with-command c same.drawing; begun = begun }))

  module _ {k : Begun} (has : r.begun ≡ some k) where
    begun-as : SameBegun (some k) f.command
    begun-as = subst (λ (o : Option Begun). SameBegun o f.command) has same.begun

    -- what is known of the begun command is known of the reading's
    of-begun : {t : Bool} → taken (some k) b ≡ t → taken r.begun b ≡ t
    of-begun e = ap (λ (o : Option Begun). taken o b) has ∙ e

    digit-then : digit b ≡ true → Then (record { progress = read_as (with_command f (by_digit f.command b)) 0; palette = p; canvas = l })
    unfolding then_data read_as
    digit-then e =
        reads_on (by_digit f.command b) (longer r.begun b)
        (payload-takes s r b going (digit-ends b e) (digit-skipped b e) (of-begun (digit-taken k b e)))
        (subst (λ (o : Option Begun). SameBegun (longer o b) (by_digit f.command b)) (sym has) (digit-begun k f.command b e begun-as))

    skipped-then : skipped b ≡ true → Then (record { progress = read_as f 0; palette = p; canvas = l })
    unfolding then_data read_as with_command
    skipped-then e = reads_on f.command r.begun (payload-skips s r b going (skipped_ends b e) e) same.begun

    semicolon-then : (eqb b semicolon && takes_semicolon f.command.kind) ≡ true
        → Then (record { progress = read_as (with_command f (by_semicolon f.command)) 0; palette = p; canvas = l })
    unfolding then_data read_as
    semicolon-then e =
        let is : b ≡ semicolon = eqb-true b semicolon (and_left (eqb b semicolon) _ e) in
        let takes : takes_semicolon f.command.kind ≡ true = and_right (eqb b semicolon) _ e in
        reads_on (by_semicolon f.command) (longer r.begun b)
        (payload-takes s r b going (unended b (omega arith) (omega arith)) (unskipped b (omega arith) (omega arith))
        (of-begun (subst (λ (m : ℕ). taken (some k) m ≡ true) (sym is) (semicolon-taken k f.command begun-as takes))))
        (subst (λ (o : Option Begun). SameBegun (longer o b) (by_semicolon f.command)) (sym has)
        (subst (λ (m : ℕ). SameBegun (longer (some k) m) (by_semicolon f.command)) (sym is) (semicolon-begun k f.command begun-as takes)))

    -- a command is pending
    argument-then : Then (step_of f g b left p l)
    unfolding argument_step
    argument-then =
        subst Then (sym (argument-step k f g b left p l begun-as))
        (cond-case Then (digit b) digit-then
        λ e₁. cond-case Then (skipped b) skipped-then
        λ e₂. cond-case Then (eqb b semicolon && takes_semicolon f.command.kind) semicolon-then
        λ e₃. settled-agrees b left going e₂ (of-begun (untaken k f.command b begun-as e₁ e₃)) refl (settle-agrees same))

-- a byte does the same in the code and in the definition
pub byte-agrees : {s : Setting} {opening : List ℕ} {r : Reading} {g : Ground} {f : Frame} {p : Palette} {l : List ℕ} → Same s opening r g f p l
    → r.over ≡ none → (b left : ℕ) → Agrees s opening r g b left (payload_step s r b) (byte_step f g b left p l)
unfolding byte_step
byte-agrees {s} {opening} {r} {g} {f} {p} {l} same going b left = go r.begun refl
  where
    go : (o : Option Begun) → r.begun ≡ o → Agrees s opening r g b left (payload_step s r b) (byte_step f g b left p l)
    go none e = data-then same going b left e
    go (some k) e = argument-then same going b left e
