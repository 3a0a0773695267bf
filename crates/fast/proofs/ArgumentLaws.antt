-- Laws of an argument that is read whole: its bytes one by one, and the paths through the functions of `argument`.
use Prim.Native.Nat.{ℕ, ◌+◌, ◌-◌, ◌*◌, ◌≤◌, ◌<◌, min}
use mathlib.Core.Bool.{Bool, true, false, ◌&&◌}
use mathlib.Core.List.{List, ◌∷◌}
use mathlib.Core.Path.{◌≡◌, refl, sym, ap, ◌∙◌, subst}
use native.Mathlib.Nat.{add-zero}
use native.Mathlib.Numerals.{add-one}
use native.Mathlib.Omega.{arith}
use borrow.Author.Tests.{ne_eqb, eqb-true, leb-true}
use lib.Dec.{leb, eqb}
use lib.ListN.{length, get_or, drop}
use lib.Seq.{drop-cons}
use Rattle.numbers.specs.Bytes.{between, skipped, digit, sixel, semicolon}
use Rattle.numbers.specs.Values.{held}
use Rattle.numbers.specs.Step.{opened, with_digit, with_semicolon, stored, marked, room, repeated}
use Rattle.numbers.specs.declared.Parameters.{Parameters}
use Rattle.numbers.proofs.Laws.{cond_yes, cond_no, digit-top}
use Rattle.colours.specs.declared.Palette.{Palette}
use Rattle.canvas.proofs.Covers.{and_left, and_right, or_case, no_test}
use Rattle.frame.specs.declared.Command.{Command}
use Rattle.frame.specs.declared.Frame.{Frame}
use Rattle.frame.specs.declared.Ground.{Ground}
use Rattle.fast.specs.declared.argument.Number.{Number}
use Rattle.fast.specs.declared.argument.Definition.{Definition}
use Rattle.frame.specs.Commands.{with_command, by_digit, by_digit_in, values_longer, number_longer, by_semicolon}
use Rattle.reference.specs.Step.{Reached, read_as, takes_semicolon, argument_step, step_in, step_of}
use Rattle.reference.specs.Feed.{then_data, byte_step, go_on, feed_from}
use Rattle.fast.specs.Argument.{onwards, Passes, coloring, counting, holding, closing, Written, Last, Parted, defining, Defined}

-- ---- one byte

-- a step that reads a byte leads on
pub read-on : (f next : Frame) (p q : Palette) (l m : List ℕ) (ink : ℕ) (g : Ground) (allowance : ℕ) (bytes : List ℕ) (i spent : ℕ) → i < length bytes
    → step_of f g (get_or bytes i 0) (allowance - spent) p l ≡ record { progress = read_as next ink; palette = q; canvas = m }
    → onwards g allowance bytes (i + 1) (spent + ink) next q m ≡ onwards g allowance bytes i spent f p l
unfolding feed_from byte_step then_data go_on read_as
read-on f next p q l m ink g allowance bytes i spent more e =
    let b : ℕ = get_or bytes i 0 in
    let here : drop i bytes ≡ b ∷ drop (i + 1) bytes = rw add-one (drop-cons bytes i 0 more) in
    let whole : Reached → Reached = λ t. then_data t.progress.outcome t g b (allowance - spent) in
    sym
    (ap (λ (bs : List ℕ). feed_from g allowance bs i spent f p l) here
    ∙ ap
    (λ (t : Reached).
    go_on (whole t).progress.outcome (whole t) i spent (λ n' i' f' p' l'. feed_from g allowance (drop (i + 1) bytes) n' i' f' p' l'))
    e)

-- a byte that a pending command takes
pub byte-passes : (bytes : List ℕ) (i : ℕ) (c d : Command) → i < length bytes
    → ((g : Ground) (left : ℕ) (f : Frame) (p : Palette) (l : List ℕ)
    → step_of (with_command f c) g (get_or bytes i 0) left p l ≡ record { progress = read_as (with_command f d) 0; palette = p; canvas = l })
    → Passes bytes i (i + 1) c d
byte-passes bytes i c d more step =
    record {
      onward = omega arith;
      within = omega arith;
      same = λ g allowance spent f p l.
          ap (λ (n : ℕ). onwards g allowance bytes (i + 1) n (with_command f d) p l) (sym (add-zero spent))
          ∙ read-on (with_command f c) (with_command f d) p p l l 0 g allowance bytes i spent more (step g (allowance - spent) f p l);
    }

pub passes_then : {bytes : List ℕ} {i j k : ℕ} {c d e : Command} → Passes bytes i j c d → Passes bytes j k d e → Passes bytes i k c e
passes_then x y =
    record {
      onward = omega (arith, x.onward, y.onward);
      within = y.within;
      same = λ g allowance spent f p l. y.same g allowance spent f p l ∙ x.same g allowance spent f p l;
    }

pub passes-as : {bytes : List ℕ} {i j : ℕ} {c d e : Command} → d ≡ e → Passes bytes i j c d → Passes bytes i j c e
passes-as {bytes} {i} {j} {c} q x = subst (λ (d : Command). Passes bytes i j c d) q x

-- a digit in a colour, and in a repeat
color-digit : (bytes : List ℕ) (i : ℕ) (v : Parameters) → i < length bytes → digit (get_or bytes i 0) ≡ true
    → Passes bytes i (i + 1) (coloring v) (coloring (with_digit v (get_or bytes i 0)))
unfolding coloring with_command step_of step_in argument_step by_digit by_digit_in values_longer
color-digit bytes i v more e = byte-passes bytes i _ _ more (λ g left f p l. cond_yes _ _ e)

repeat-digit : (bytes : List ℕ) (i n : ℕ) → i < length bytes → digit (get_or bytes i 0) ≡ true
    → Passes bytes i (i + 1) (counting n) (counting (repeated n (get_or bytes i 0)))
unfolding counting with_command step_of step_in argument_step by_digit by_digit_in number_longer
repeat-digit bytes i n more e = byte-passes bytes i _ _ more (λ g left f p l. cond_yes _ _ e)

-- a `;` in a colour
color-semicolon : (bytes : List ℕ) (i : ℕ) (v : Parameters) → i < length bytes → get_or bytes i 0 ≡ semicolon
    → Passes bytes i (i + 1) (coloring v) (coloring (with_semicolon v))
unfolding coloring with_command step_of step_in argument_step by_semicolon takes_semicolon digit skipped
color-semicolon bytes i v more e = byte-passes bytes i _ _ more (λ g left f p l. rw e)

-- ---- a number

digit-held : (v : Parameters) (n b : ℕ) → digit b ≡ true → v.current ≡ n → n ≤ 100000000 → with_digit v b ≡ holding v (n * 10 + (b - 0x30))
unfolding with_digit holding held
digit-held v n b t e small =
    let top : b ≤ 0x39 = digit-top b t in
    cond_yes _ _ t ∙ rw e (let k : min (n * 10 + (b - 0x30)) 2147483647 ≡ n * 10 + (b - 0x30) = omega arith in rw k)

digit-counted : (n b : ℕ) → digit b ≡ true → n ≤ 100000000 → repeated n b ≡ n * 10 + (b - 0x30)
unfolding repeated
digit-counted n b t small = let top : b ≤ 0x39 = digit-top b t in cond_yes _ _ t ∙ omega arith

-- its first digit
pub written-first : (bytes : List ℕ) (i : ℕ) → i < length bytes → digit (get_or bytes i 0) ≡ true
    → Written bytes i (record { value = get_or bytes i 0 - 0x30; end = i + 1 })
written-first bytes i more t =
    let b : ℕ = get_or bytes i 0 in
    let one : 0 * 10 + (b - 0x30) ≡ b - 0x30 = omega arith in
    record {
      small = omega (arith, digit-top b t);
      color = λ v e. passes-as (ap coloring (digit-held v 0 b t e (omega arith) ∙ ap (holding v) one)) (color-digit bytes i v more t);
      repeat = passes-as (ap counting (digit-counted 0 b t (omega arith) ∙ one)) (repeat-digit bytes i 0 more t);
    }

-- one digit more
pub written-more : {n end : ℕ} (bytes : List ℕ) (i : ℕ) → Written bytes i (record { value = n; end = end }) → end < length bytes
    → digit (get_or bytes end 0) ≡ true → n ≤ 100000000
    → Written bytes i (record { value = n * 10 + (get_or bytes end 0 - 0x30); end = end + 1 })
unfolding holding
written-more {n} {end} bytes i w more t few =
    record {
      small = omega (arith, digit-top (get_or bytes end 0) t);
      color = λ v e.
          passes_then (w.color v e)
          (passes-as (ap coloring (digit-held (holding v n) n (get_or bytes end 0) t refl few)) (color-digit bytes end (holding v n) more t));
      repeat = passes_then w.repeat (passes-as (ap counting (digit-counted n (get_or bytes end 0) t few)) (repeat-digit bytes end n more t));
    }

-- ---- the paths through the functions of `argument`

-- what is no digit, is not skipped and is no `;` ends an argument
pub closing-other : {s t : Bool} (b : ℕ) → s ≡ digit b → s ≡ false → t ≡ skipped b → t ≡ false → (b ≡ semicolon → ⊥) → true ≡ closing b
unfolding closing
closing-other b e h k m q = sym (cond_no _ _ (sym e ∙ h) ∙ cond_no _ _ (sym k ∙ m) ∙ cond_no _ _ (ne_eqb _ _ q))

-- a sixel ends an argument
pub closing-sixel : (b : ℕ) → sixel b ≡ true → closing b ≡ true
unfolding sixel digit skipped between
closing-sixel b t =
    let low : 63 ≤ b = leb-true 63 b (and_left (leb 63 b) (leb b 126) t) in
    let high : b ≤ 126 = leb-true b 126 (and_right (leb 63 b) (leb b 126) t) in
    let no_digit : digit b ≡ false = no_test _ (λ h. let z : b ≤ 57 = leb-true b 57 (and_right (leb 48 b) (leb b 57) h) in omega (arith, z)) in
    let no-skip : skipped b ≡ false =
    no_test _
    (λ h.
    or_case (leb b 0x17) _ h (λ u. omega (arith, leb-true b 0x17 u))
    (λ u.
    or_case (eqb b 0x19) _ u (λ v. omega (arith, eqb-true b 0x19 v))
    (λ v.
    or_case (leb 0x1C b && leb b 0x1F) _ v (λ w. omega (arith, leb-true b 0x1F (and_right (leb 0x1C b) (leb b 0x1F) w)))
    (λ w. omega (arith, eqb-true b 0x7F w)))))
    in
    sym (closing-other b refl no_digit refl no-skip (λ e. omega (arith, e)))

-- a number that is followed by `;`
pub written-parted : {r : Number} (bytes : List ℕ) (i : ℕ) → Written bytes i r → r.end < length bytes → get_or bytes r.end 0 ≡ semicolon
    → Parted bytes i (record { value = r.value; end = r.end + 1 })
written-parted {r} bytes i w more e =
    record {
      small = w.small;
      color = λ v k. passes_then (w.color v k) (color-semicolon bytes r.end (holding v r.value) more e);
    }

-- five numbers
module _ {a s x y z : Number} (bytes : List ℕ) (i : ℕ) (pa : Parted bytes i a) (ps : Parted bytes a.end s) (px : Parted bytes s.end x)
    (py : Parted bytes x.end y) (pz : Last bytes y.end z) where
  five : Definition
  five = record { first = a.value; space = s.value; x = x.value; y = y.value; z = z.value; end = z.end }

  five-pass : Passes bytes i z.end (coloring (opened 5)) (coloring (defining five))
  unfolding five coloring opened with_semicolon holding stored marked room defining
  five-pass =
      passes_then (pa.color (opened 5) refl)
      (passes_then (ps.color _ refl)
      (passes_then (px.color _ refl)
      (passes_then (py.color _ refl) (pz.written.color _ refl))))

  pub five-defined : Defined bytes i (record { first = a.value; space = s.value; x = x.value; y = y.value; z = z.value; end = z.end })
  unfolding five
  five-defined =
      record {
        passes = five-pass;
        more = pz.more;
        closes = pz.closes;
        first = pa.small;
        space = ps.small;
        x = px.small;
        y = py.small;
        z = pz.written.small;
      }
