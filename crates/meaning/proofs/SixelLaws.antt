-- Laws of sixels: which bytes they are, what one comes to after the begun command, and that its stroke has an ink of at most 6W.
use Prim.Native.Nat.{ℕ, ◌+◌, ◌-◌, ◌*◌, ◌≤◌}
use native.Mathlib.Nat.{zero-add, add_assoc, mul-le-mul}
use native.Mathlib.Omega.{arith}
use mathlib.Core.Path.{◌≡◌, refl, sym, ap, ◌∙◌, subst}
use mathlib.Core.Bool.{Bool, true, false, ◌||◌, true≢false}
use mathlib.Core.Option.{Option, none, some}
use mathlib.Core.List.{List, [], ◌∷◌, ◌++◌, append-nil}
use borrow.Author.Tests.{leb-true, le-leb, lt-leb, ne_eqb}
use lib.Count.{ones, ones-le}
use lib.Dec.{leb, eqb}
use lib.ListN.{length, drop}
use lib.Seq.{drop-append_seam}
use Rattle.numbers.specs.Bytes.{skipped, digit, sixel, ends, semicolon, bang, quote, hash, dollar, dash}
use Rattle.canvas.specs.Picture.{Stroke}
use Rattle.meaning.specs.Commands.{Kind, repeat, colour, raster, Command, argued, return, line, draw, Placed, Begun, lengthens, taken, Scanned, closed, does, own, scan_byte}
use Rattle.meaning.specs.Drawing.{Setting, Drawing, stroke_of, stroked, sixelled, draw_command, Outcome, and_then, draw_all, ink_of, ink_of_all, strokes_since}
use Rattle.meaning.specs.Reader.{Step}
use Rattle.meaning.specs.Sessions.{Reading, settled, ended_at, went_on, read_byte}
use Rattle.meaning.proofs.AreaLaws.{both, cond-case, option-case, draw_on, draw_all-append, unless-case, Quiet, AllOf, AllQuiet, quiet-strokes}

-- ---- sums

-- the ink of strokes after others is added
pub ink-append : (xs ys : List Stroke) → ink_of_all (xs ++ ys) ≡ ink_of_all xs + ink_of_all ys
unfolding ink_of_all
ink-append [] ys = sym (zero-add _)
ink-append (k ∷ xs) ys = rw (ink-append xs ys) (sym (add_assoc (ink_of k) (ink_of_all xs) (ink_of_all ys)))

-- the strokes since an earlier drawing are those that were appended to its own
pub since-appended : (before now : Drawing) (more : List Stroke) → now.strokes ≡ before.strokes ++ more → strokes_since before now ≡ more
unfolding strokes_since
since-appended before now more e = ap (drop (length before.strokes)) e ∙ drop-append_seam before.strokes more

-- and their ink is added to its own
pub since-adds : (before now : Drawing) (more : List Stroke) → now.strokes ≡ before.strokes ++ more
    → ink_of_all now.strokes ≡ ink_of_all before.strokes + ink_of_all (strokes_since before now)
since-adds before now more e =
    ap ink_of_all e ∙ ink-append before.strokes more
    ∙ ap (λ (ks : List Stroke). ink_of_all before.strokes + ink_of_all ks) (sym (since-appended before now more e))

-- without a stroke more there is no ink
pub since-same : (before now : Drawing) → now.strokes ≡ before.strokes → ink_of_all (strokes_since before now) ≡ 0
unfolding ink_of_all
since-same before now e = ap ink_of_all (since-appended before now [] (e ∙ sym (append-nil _)))

-- ---- sixels among the bytes

-- a sixel is 3F to 7E
pub sixel-range : (b : ℕ) → sixel b ≡ true → (63 ≤ b) × (b ≤ 126)
unfolding sixel
sixel-range b e =
    let p : (leb 0x3F b ≡ true) × (leb b 0x7E ≡ true) = both (leb 0x3F b) (leb b 0x7E) e in
    (leb-true 63 b p.0, leb-true b 126 p.1)

-- it has at most six ones
pub ones-sixel : (b : ℕ) → sixel b ≡ true → ones (b - 63) ≤ 6
ones-sixel b e =
    let p : (63 ≤ b) × (b ≤ 126) = sixel-range b e in
    ones-le 6 (b - 63) (omega arith)

-- a sixel is none of the other bytes
sixel-skipped : (b : ℕ) → sixel b ≡ true → skipped b ≡ false
unfolding skipped
sixel-skipped b e =
    let p : (63 ≤ b) × (b ≤ 126) = sixel-range b e in
    simp (
      lt-leb b 0x17 (omega arith),
      ne_eqb b 0x19 (omega arith),
      le-leb 0x1C b (omega arith),
      lt-leb b 0x1F (omega arith),
      ne_eqb b 0x7F (omega arith),
    )

pub sixel-ends : (b : ℕ) → sixel b ≡ true → ends b ≡ false
unfolding ends
sixel-ends b e =
    let p : (63 ≤ b) × (b ≤ 126) = sixel-range b e in
    simp (ne_eqb b 0x18 (omega arith), le-leb 0x1A b (omega arith), lt-leb b 0x1B (omega arith), lt-leb 0x80 b (omega arith))

sixel-digit : (b : ℕ) → sixel b ≡ true → digit b ≡ false
unfolding digit
sixel-digit b e =
    let p : (63 ≤ b) × (b ≤ 126) = sixel-range b e in
    simp (le-leb 0x30 b (omega arith), lt-leb b 0x39 (omega arith))

sixel-taken : (c : Option Begun) (b : ℕ) → sixel b ≡ true → taken c b ≡ false
unfolding taken
sixel-taken none b e = refl
sixel-taken (some c) b e = go c.kind
  where
    more : (digit b || eqb b semicolon) ≡ false
    more = let p : (63 ≤ b) × (b ≤ 126) = sixel-range b e in simp (sixel-digit b e, ne_eqb b semicolon (omega arith))

    go : (k : Kind) → lengthens k b ≡ false
    go repeat = sixel-digit b e
    go colour = more
    go raster = more

-- a sixel ends the begun command and is drawn
pub scan-sixel : (at : ℕ) (c : Option Begun) (b : ℕ) → sixel b ≡ true → scan_byte at c b ≡ does at (closed c) (draw (b - 63))
unfolding scan_byte own
scan-sixel at c b e =
    let p : (63 ≤ b) × (b ≤ 126) = sixel-range b e in
    simp (
      sixel-skipped b e,
      sixel-taken c b e,
      ne_eqb b bang (omega arith),
      ne_eqb b hash (omega arith),
      ne_eqb b quote (omega arith),
      ne_eqb b dollar (omega arith),
      ne_eqb b dash (omega arith),
      e,
    )

-- a fact of each of some commands, and of each after them
pub append-each : (P : Command → Type 0) (xs ys : List Placed) → AllOf P xs → AllOf P ys → AllOf P (xs ++ ys)
append-each P [] ys p q = q
append-each P (x ∷ xs) ys p q = (p.0, append-each P xs ys p.1 q)

-- a fact of the commands that end at a byte: of the begun one, and of what the byte is
module _ (P : Command → Type 0) (argument : (k : Kind) (bs : List ℕ) → P (argued k bs)) (left : P return) (down : P line) where
  pub closed-each : (c : Option Begun) → AllOf P (closed c)
  unfolding closed
  closed-each none = tt
  closed-each (some c) = (argument c.kind c.argument, tt)

  does-each : (at : ℕ) (before : List Placed) (c : Command) → AllOf P before → P c → AllOf P (does at before c).ended
  unfolding does
  does-each at before c q h = append-each P before _ q (h, tt)

  own-each : (at b : ℕ) (before : List Placed) → (sixel b ≡ true → P (draw (b - 63))) → AllOf P before → AllOf P (own at b before).ended
  unfolding own
  own-each at b before h q =
      cond-case Good (eqb b bang) (λ _. q)
      λ _. cond-case Good (eqb b hash) (λ _. q)
      λ _. cond-case Good (eqb b quote) (λ _. q)
      λ _. cond-case Good (eqb b dollar) (λ _. does-each at before return q left)
      λ _. cond-case Good (eqb b dash) (λ _. does-each at before line q down)
      λ _. cond-case Good (sixel b) (λ t. does-each at before (draw (b - 63)) q (h t)) (λ _. q)
    where
      Good : Scanned → Type 0
      Good x = AllOf P x.ended

  pub scan-each : (at : ℕ) (c : Option Begun) (b : ℕ) → (sixel b ≡ true → P (draw (b - 63))) → AllOf P (scan_byte at c b).ended
  unfolding scan_byte
  scan-each at c b h =
      cond-case (λ (x : Scanned). AllOf P x.ended) (skipped b) (λ _. tt)
      λ _. cond-case (λ (x : Scanned). AllOf P x.ended) (taken c b) (λ _. tt) (λ _. own-each at b (closed c) h (closed-each c))

-- a begun command is no sixel, and any other byte ends none
closed-quiet : (c : Option Begun) → AllQuiet (closed c)
closed-quiet = closed-each Quiet (λ k bs. tt) tt tt

pub scan-quiet : (at : ℕ) (c : Option Begun) (b : ℕ) → sixel b ≡ false → AllQuiet (scan_byte at c b).ended
scan-quiet at c b e = scan-each Quiet (λ k bs. tt) tt tt at c b (λ t. true≢false (sym t ∙ e))

-- ---- what a byte does to a payload

-- the begun command carried out leaves the strokes
pub settled-strokes : (s : Setting) (r : Reading) → (settled s r).drawing.strokes ≡ r.drawing.strokes
unfolding settled
settled-strokes s r = quiet-strokes s (closed r.begun) r.drawing (closed-quiet r.begun)

-- a sixel's byte as a command at its place
abbrev pub sixel_at : Reading → ℕ → List Placed
sixel_at r b = record { place = r.passed; command = draw (b - 63) } ∷ []

-- the begun command, and then the sixel
unfoldable pub sixel_outcome : Setting → Reading → ℕ → Outcome
unfolding settled draw_on
sixel_outcome s r b = draw_on s (settled s r) (sixel_at r b)

-- that is what a sixel's byte comes to
pub sixel-outcome : (s : Setting) (r : Reading) (b : ℕ) → sixel b ≡ true
    → draw_all s (scan_byte r.passed r.begun b).ended r.drawing ≡ sixel_outcome s r b
unfolding sixel_outcome settled does
sixel-outcome s r b e =
    ap (λ (x : Scanned). draw_all s x.ended r.drawing) (scan-sixel r.passed r.begun b e)
    ∙ draw_all-append s (closed r.begun) (sixel_at r b) r.drawing

-- and no command is begun after it
pub sixel-begun : (at : ℕ) (c : Option Begun) (b : ℕ) → sixel b ≡ true → (scan_byte at c b).begun ≡ none
unfolding does
sixel-begun at c b e = ap (λ (x : Scanned). x.begun) (scan-sixel at c b e)

-- a payload's byte ends it, or is no sixel, or is one
pub read_byte-case : (P : Step Reading → Type 0) (s : Setting) (r : Reading) (b : ℕ) → P (ended_at b r (settled s r))
    → ((c : Scanned) → AllQuiet c.ended → P (went_on r c (draw_all s c.ended r.drawing)))
    → ((c : Scanned) → c.begun ≡ none → sixel b ≡ true → P (went_on r c (sixel_outcome s r b))) → P (read_byte s r b)
unfolding read_byte
read_byte-case P s r b ended quiet inked = cond-case P (ends b) (λ _. ended) (λ _. go (sixel b) refl)
  where
    c : Scanned
    c = scan_byte r.passed r.begun b

    go : (t : Bool) → sixel b ≡ t → P (went_on r c (draw_all s c.ended r.drawing))
    go false e = quiet c (scan-quiet r.passed r.begun b e)
    go true e =
        subst (λ (out : Outcome). P (went_on r c out)) (sym (sixel-outcome s r b e))
        (inked c (sixel-begun r.passed r.begun b e) e)

-- a sixel's stroke comes after those of a payload, and its repeat is at most W
pub record Drew (s : Setting) (r : Reading) (b : ℕ) (e : Drawing) : Type 0 where
  pub strokes : e.strokes ≡ r.drawing.strokes ++ (stroke_of (b - 63) (settled s r).drawing ∷ [])
  pub repeats : (settled s r).drawing.pen.repeats ≤ s.limits.width

-- a sixel's byte is refused and leaves what the begun command has made, or it draws
pub outcome-case : (P : Outcome → Type 0) (s : Setting) (r : Reading) (b : ℕ)
    → ((n : ℕ) → P (record { drawing = (settled s r).drawing; refusal = some n }))
    → ((e : Drawing) → Drew s r b e → P (record { drawing = e; refusal = none })) → P (sixel_outcome s r b)
unfolding sixel_outcome draw_all draw_command sixelled stroke_of stroked
outcome-case P s r b stop go = option-case P (settled s r).refusal (λ _. drawing) stopped-before
  where
    k : Stroke
    k = stroke_of (b - 63) (settled s r).drawing

    drew : (settled s r).drawing.pen.column + (settled s r).drawing.pen.repeats ≤ s.limits.width
        → Drew s r b (stroked (settled s r).drawing k)
    drew h = record { strokes = ap (λ (ks : List Stroke). ks ++ (k ∷ [])) (settled-strokes s r); repeats = omega arith }

    drawing : P (draw_all s (sixel_at r b) (settled s r).drawing)
    drawing =
        unless-case (λ x. P (and_then (settled s r).drawing x (draw_all s []))) s _ _ _ _ (λ n _ _. stop n)
        (λ allowed. go _ (drew allowed.width))

    stopped-before : (n : ℕ) → (settled s r).refusal ≡ some n → P (settled s r)
    stopped-before n e = subst (λ (o : Option ℕ). P (record { drawing = (settled s r).drawing; refusal = o })) (sym e) (stop n)

-- its ink is at most 6W
pub drew-ink : {s : Setting} {r : Reading} {b : ℕ} {e : Drawing} → sixel b ≡ true → Drew s r b e
    → ink_of_all (strokes_since r.drawing e) ≤ 6 * s.limits.width
unfolding ink_of_all stroke_of
drew-ink {s} {r} {b} {e} x drew =
    let k : Stroke = stroke_of (b - 63) (settled s r).drawing in
    let own : ink_of_all (strokes_since r.drawing e) ≡ k.repeat * ones (b - 63) + 0 =
    ap ink_of_all (since-appended r.drawing e (k ∷ []) drew.strokes) in
    let most : k.repeat * ones (b - 63) ≤ s.limits.width * 6 = mul-le-mul drew.repeats (ones-sixel b x) in
    omega arith
