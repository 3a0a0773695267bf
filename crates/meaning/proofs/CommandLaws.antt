-- Laws of commands: what each makes of a drawing and leaves as it was. The area never shrinks, strokes are only appended and lie
-- inside it, and sizes stay within W, H, M, the stride and the rows.
use Prim.Native.Nat.{ℕ, ◌+◌, ◌≤◌, max}
use native.Mathlib.Nat.{le_refl, le_trans}
use native.Mathlib.Omega.{arith}
use mathlib.Core.Path.{◌≡◌, refl, sym, ap, ◌∙◌, subst}
use mathlib.Core.Bool.{Bool, true, ◌||◌}
use mathlib.Core.Option.{Option, none, some}
use mathlib.Core.List.{List, [], ◌∷◌, ◌++◌, append-nil, append_assoc}
use borrow.Author.Tests.{ltb-false, leb-true, le-leb}
use lib.Dec.{leb, ltb, eqb, lit≤}
use Rattle.numbers.specs.Values.{decimal, values}
use Rattle.canvas.specs.Picture.{Stroke, Area, inside, all_inside, grown_to, reach}
use Rattle.meaning.specs.Commands.{repeat, colour, raster, Command, argued, return, line, draw, Placed}
use Rattle.meaning.specs.Drawing.{Setting, Raster, raster_after, Drawing, Drawn, drawn, refused, with_pen, with_repeats, repeated, pixels_of, size_refusal, unless, with_raster, stretched, rastered, stroke_of, stroked, sixelled, draw_command, Outcome, and_then, draw_all}
use Rattle.meaning.specs.Sizes.{Fits}
use Rattle.meaning.proofs.Cases.{cond-case, neither-exceeds, both, and_both}

-- ---- commands one after the other

-- more commands after an outcome, where it was not refused
unfoldable pub draw_on : Setting → Outcome → List Placed → Outcome
unfolding draw_all
draw_on s out cs = elim out.refusal [ none ↦ draw_all s cs out.drawing | some n ↦ out ]

-- after no refusal they are drawn
pub draw_on-none : (s : Setting) (out : Outcome) (cs : List Placed) → out.refusal ≡ none → draw_on s out cs ≡ draw_all s cs out.drawing
unfolding draw_on
draw_on-none s out cs e = ap on e
  where
    on : Option ℕ → Outcome
    on o = elim o [ none ↦ draw_all s cs out.drawing | some n ↦ out ]

-- and after one they are not
pub draw_on-some : (s : Setting) (out : Outcome) (cs : List Placed) {n : ℕ} → out.refusal ≡ some n → draw_on s out cs ≡ out
unfolding draw_on
draw_on-some s out cs e = ap on e
  where
    on : Option ℕ → Outcome
    on o = elim o [ none ↦ draw_all s cs out.drawing | some n ↦ out ]

-- drawing xs and then ys is drawing xs ++ ys
pub draw_all-append : (s : Setting) (xs ys : List Placed) (d : Drawing) → draw_all s (xs ++ ys) d ≡ draw_on s (draw_all s xs d) ys
unfolding draw_all and_then draw_on
draw_all-append s [] ys d = refl
draw_all-append s (c ∷ cs) ys d = go (draw_command s c.command d) (draw_all-append s cs ys)
  where
    go : (x : Drawn) → ((e : Drawing) → draw_all s (cs ++ ys) e ≡ draw_on s (draw_all s cs e) ys)
        → and_then d x (draw_all s (cs ++ ys)) ≡ draw_on s (and_then d x (draw_all s cs)) ys
    go (drawn e) h = h e
    go (refused n) h = refl

-- ---- sizes

-- a size that is not refused
pub record Allowed (s : Setting) (a : Area) (w h : ℕ) : Type 0 where
  pub width : w ≤ s.limits.width
  pub height : h ≤ s.limits.height
  pub pixels : pixels_of (grown_to a w h) ≤ s.limits.pixels
  pub stride : w ≤ s.stride
  pub rows : h ≤ s.rows

-- a size is refused, with a number of 4 to 7, or it is allowed
pub unless-case : (P : Drawn → Type 0) (s : Setting) (a : Area) (w h : ℕ) (e : Drawing) → ((n : ℕ) → 4 ≤ n → n ≤ 7 → P (refused n))
    → (Allowed s a w h → P (drawn e)) → P (unless (size_refusal s a w h) e)
unfolding size_refusal unless
unless-case P s a w h e stop go =
    let Q : Option ℕ → Type 0 = λ o. P (unless o e) in
    cond-case Q (ltb s.limits.width w || ltb s.limits.height h) (λ _. stop 5 (lit≤ tt) (lit≤ tt))
    λ five. cond-case Q (ltb s.limits.pixels (pixels_of (grown_to a w h))) (λ _. stop 6 (lit≤ tt) (lit≤ tt))
    λ six. cond-case Q (ltb s.stride w || ltb s.rows h) (λ _. stop 7 (lit≤ tt) (lit≤ tt))
    λ seven.
    let within : (w ≤ s.limits.width) × (h ≤ s.limits.height) = neither-exceeds _ w _ h five in
    let canvas : (w ≤ s.stride) × (h ≤ s.rows) = neither-exceeds _ w _ h seven in
    go (record { width = within.0; height = within.1; pixels = ltb-false _ _ six; stride = canvas.0; rows = canvas.1 })

-- an area fits still when it has grown to an allowed size
pub grown-fits : {s : Setting} {a : Area} {w h : ℕ} → Fits s a → Allowed s a w h → Fits s (grown_to a w h)
unfolding grown_to
grown-fits f h =
    record {
      wide = omega (arith, f.wide);
      tall = omega (arith, f.tall);
      width = omega (arith, f.width, h.width);
      height = omega (arith, f.height, h.height);
      pixels = h.pixels;
      stride = omega (arith, f.stride, h.stride);
      rows = omega (arith, f.rows, h.rows);
    }

-- ---- strokes inside an area

-- a stroke's columns and rows lie in an area
pub record Within (a : Area) (k : Stroke) : Type 0 where
  pub columns : k.column + k.repeat ≤ a.width
  pub bottom : k.row + 6 ≤ a.height

-- it does where the test holds
pub within_of : (a : Area) (k : Stroke) → inside a k ≡ true → Within a k
unfolding inside
within_of a k e =
    let wide : Bool = leb (k.column + k.repeat) a.width in
    let tall : Bool = leb (k.row + 6) a.height in
    let p : (wide ≡ true) × (tall ≡ true) = both wide tall e in
    record { columns = leb-true _ _ p.0; bottom = leb-true _ _ p.1 }

-- and the test holds where it does
pub inside_of : {a : Area} {k : Stroke} → Within a k → inside a k ≡ true
unfolding inside
inside_of h = and_both _ _ (le-leb _ _ h.columns) (le-leb _ _ h.bottom)

-- of strokes that lie inside, the first does and the later ones do
pub all-parts : (a : Area) (k : Stroke) (ks : List Stroke) → all_inside a (k ∷ ks) ≡ true → (inside a k ≡ true) × (all_inside a ks ≡ true)
unfolding all_inside
all-parts a k ks = both (inside a k) (all_inside a ks)

-- and the other way round
all_cons : (a : Area) (k : Stroke) (ks : List Stroke) → inside a k ≡ true → all_inside a ks ≡ true → all_inside a (k ∷ ks) ≡ true
unfolding all_inside
all_cons a k ks = and_both (inside a k) (all_inside a ks)

-- strokes inside an area are inside the grown one
all_grown : (a : Area) (w h : ℕ) (ks : List Stroke) → all_inside a ks ≡ true → all_inside (grown_to a w h) ks ≡ true
unfolding all_inside grown_to
all_grown a w h [] e = refl
all_grown a w h (k ∷ ks) e = all_cons (grown_to a w h) k ks (inside_of grown) (all_grown a w h ks (all-parts a k ks e).1)
  where
    grown : Within (grown_to a w h) k
    grown =
        let f : Within a k = within_of a k (all-parts a k ks e).0 in
        record { columns = omega (arith, f.columns); bottom = omega (arith, f.bottom) }

-- one stroke more
all_append : (a : Area) (ks : List Stroke) (k : Stroke) → all_inside a ks ≡ true → inside a k ≡ true → all_inside a (ks ++ (k ∷ [])) ≡ true
unfolding all_inside
all_append a [] k e h = all_cons a k [] h refl
all_append a (j ∷ ks) k e h = all_cons a j (ks ++ (k ∷ [])) (all-parts a j ks e).0 (all_append a ks k (all-parts a j ks e).1 h)

-- an area reaches the stroke that it grew to
inside-reach : (a : Area) (k : Stroke) → inside (reach a k) k ≡ true
unfolding reach grown_to
inside-reach a k = inside_of (record { columns = omega arith; bottom = omega arith })

-- ---- what holds of a drawing

-- a fact of each stroke
abbrev pub Each : (Stroke → Type 0) → List Stroke → Type 0
Each P [] = Unit {0}
Each P (k ∷ ks) = P k × Each P ks

-- one stroke more
pub each_append : (P : Stroke → Type 0) (ks : List Stroke) (k : Stroke) → Each P ks → P k → Each P (ks ++ (k ∷ []))
each_append P [] k h q = (q, tt)
each_append P (j ∷ ks) k h q = (h.0, each_append P ks k h.1 q)

-- each takes a column at least
abbrev pub AllOnce : List Stroke → Type 0
AllOnce = Each (λ k. 1 ≤ k.repeat)

-- its area fits, every stroke lies inside the area and takes a column at least, and so will the next
pub record Sound (s : Setting) (d : Drawing) : Type 0 where
  pub fits : Fits s d.area
  pub strokes : all_inside d.area d.strokes ≡ true
  pub once : AllOnce d.strokes
  pub repeats : 1 ≤ d.pen.repeats

-- what commands make of a drawing: the area never shrinks, strokes are only appended, the background stays, and a sound drawing stays sound
pub record Follows (s : Setting) (d e : Drawing) : Type 0 where
  pub wider : d.area.width ≤ e.area.width
  pub taller : d.area.height ≤ e.area.height
  pub added : List Stroke
  pub appended : e.strokes ≡ d.strokes ++ added
  pub background : e.background ≡ d.background
  pub sound : Sound s d → Sound s e

-- a drawing follows from itself
pub follows-refl : (s : Setting) (d : Drawing) → Follows s d d
follows-refl s d =
    record { wider = le_refl _; taller = le_refl _; added = []; appended = sym (append-nil _); background = refl; sound = λ h. h }

-- and from what the one before it follows from
pub follows-trans : {s : Setting} {d e f : Drawing} → Follows s d e → Follows s e f → Follows s d f
follows-trans {d = d} {f = f} p q =
    record {
      wider = le_trans p.wider q.wider;
      taller = le_trans p.taller q.taller;
      added = p.added ++ q.added;
      appended = rw (q.appended, p.appended) (append_assoc d.strokes p.added q.added);
      background = q.background ∙ p.background;
      sound = λ h. q.sound (p.sound h);
    }

-- a drawing with the same area, strokes and background
same-follows : {s : Setting} {d e : Drawing} → e.area ≡ d.area → e.strokes ≡ d.strokes → e.background ≡ d.background
    → (1 ≤ d.pen.repeats → 1 ≤ e.pen.repeats) → Follows s d e
same-follows {s} {d} {e} a k b r =
    record {
      wider = rw a (le_refl _);
      taller = rw a (le_refl _);
      added = [];
      appended = k ∙ sym (append-nil _);
      background = b;
      sound = λ h.
          record {
            fits = rw a h.fits;
            strokes = rw (a, k) h.strokes;
            once = subst AllOnce (sym k) h.once;
            repeats = r h.repeats;
          };
    }

-- ---- what each command does

-- a drawing of which a fact holds, or a refusal of 4 to 7
abbrev pub Gives : (Drawing → Type 0) → Drawn → Type 0
Gives P (drawn e) = P e
Gives P (refused n) = (4 ≤ n) × (n ≤ 7)

-- a fact that follows from another
pub gives-map : {P Q : Drawing → Type 0} → ((e : Drawing) → P e → Q e) → (x : Drawn) → Gives P x → Gives Q x
gives-map f (drawn e) h = f e h
gives-map f (refused n) h = h

-- the drawing that was given
pub given : (P : Drawing → Type 0) {x : Drawn} {e : Drawing} → Gives P x → x ≡ drawn e → P e
given P h q = subst (Gives P) q h

-- the refusal that was given
pub given-refusal : (P : Drawing → Type 0) {x : Drawn} {n : ℕ} → Gives P x → x ≡ refused n → (4 ≤ n) × (n ≤ 7)
given-refusal P h q = subst (Gives P) q h

-- whether or not a raster command grows the area
pub rastered-gives : (P : Drawing → Type 0) (s : Setting) (r : Raster) (d : Drawing) → ((a : Area) → P (with_raster d r a))
    → Gives P (rastered s r d)
unfolding rastered stretched
rastered-gives P s r d h =
    cond-case (Gives P) (eqb (r.width + r.height) 0) (λ _. h d.area)
    (λ _. unless-case (Gives P) s d.area (max 1 r.width) (max 1 r.height) _ (λ n low high. (low, high)) (λ _. h _))

-- growing to an allowed raster size
stretched-follows : (s : Setting) (r : Raster) (d : Drawing) → Gives (Follows s d) (stretched s r d)
unfolding stretched with_raster grown_to
stretched-follows s r d =
    unless-case (Gives (Follows s d)) s d.area w h _ (λ n low high. (low, high))
    λ allowed.
    record {
      wider = omega arith;
      taller = omega arith;
      added = [];
      appended = sym (append-nil _);
      background = refl;
      sound = λ q.
          record {
            fits = grown-fits q.fits allowed;
            strokes = all_grown d.area w h d.strokes q.strokes;
            once = q.once;
            repeats = q.repeats;
          };
    }
  where
    w : ℕ
    w = max 1 r.width

    h : ℕ
    h = max 1 r.height

rastered-follows : (s : Setting) (r : Raster) (d : Drawing) → Gives (Follows s d) (rastered s r d)
unfolding rastered with_raster
rastered-follows s r d =
    cond-case (Gives (Follows s d)) (eqb (r.width + r.height) 0)
    (λ _. same-follows refl refl refl (λ h. h))
    (λ _. stretched-follows s r d)

-- a stroke more, where its size is allowed
stroked-follows : (s : Setting) (d : Drawing) (k : Stroke) → k.repeat ≡ d.pen.repeats
    → Allowed s d.area (k.column + k.repeat) (k.row + 6) → Follows s d (stroked d k)
unfolding stroked reach grown_to with_repeats
stroked-follows s d k same allowed =
    record {
      wider = omega arith;
      taller = omega arith;
      added = k ∷ [];
      appended = refl;
      background = refl;
      sound = λ q.
          record {
            fits = grown-fits q.fits allowed;
            strokes = all_append (reach d.area k) d.strokes k
                (all_grown d.area (k.column + k.repeat) (k.row + 6) d.strokes q.strokes)
                (inside-reach d.area k);
            once = each_append (λ j. 1 ≤ j.repeat) d.strokes k q.once (omega (arith, q.repeats));
            repeats = le_refl 1;
          };
    }

sixelled-follows : (s : Setting) (bits : ℕ) (d : Drawing) → Gives (Follows s d) (sixelled s bits d)
unfolding sixelled stroke_of
sixelled-follows s bits d =
    unless-case (Gives (Follows s d)) s d.area _ _ _ (λ n low high. (low, high)) (stroked-follows s d (stroke_of bits d) refl)

repeated-follows : (s : Setting) (n : ℕ) (d : Drawing) → Gives (Follows s d) (repeated s n d)
unfolding repeated with_pen with_repeats
repeated-follows s n d =
    cond-case (Gives (Follows s d)) (ltb s.limits.repeats n) (λ _. (lit≤ tt, lit≤ tt))
    (λ _. same-follows refl refl refl (λ _. omega arith))

-- every command gives a drawing that follows from the one before
pub command-follows : (s : Setting) (c : Command) (d : Drawing) → Gives (Follows s d) (draw_command s c d)
unfolding draw_command
command-follows s (argued repeat bs) d = repeated-follows s (decimal bs) d
command-follows s (argued colour bs) d = same-follows refl refl refl (λ h. h)
command-follows s (argued raster bs) d = rastered-follows s (raster_after d.raster (values 4 bs)) d
command-follows s return d = same-follows refl refl refl (λ h. h)
command-follows s line d = same-follows refl refl refl (λ h. h)
command-follows s (draw bits) d = sixelled-follows s bits d

-- the drawing that a command gives follows from the one before: area, strokes, background and soundness
pub command-drawn : (s : Setting) (c : Command) (d : Drawing) {e : Drawing} → draw_command s c d ≡ drawn e → Follows s d e
command-drawn s c d = given (Follows s d) (command-follows s c d)

-- ---- commands in their order

-- what commands come to follows from the drawing before them, refused or not
pub draw_all-follows : (s : Setting) (cs : List Placed) (d : Drawing) → Follows s d (draw_all s cs d).drawing
unfolding draw_all and_then
draw_all-follows s [] d = follows-refl s d
draw_all-follows s (c ∷ cs) d = go (draw_command s c.command d) (command-follows s c.command d) (draw_all-follows s cs)
  where
    go : (x : Drawn) → Gives (Follows s d) x → ((e : Drawing) → Follows s e (draw_all s cs e).drawing)
        → Follows s d (and_then d x (draw_all s cs)).drawing
    go (drawn e) p later = follows-trans p (later e)
    go (refused n) p later = follows-refl s d

-- commands keep a drawing sound
pub draw_all-sound : {s : Setting} {d : Drawing} (cs : List Placed) → Sound s d → Sound s (draw_all s cs d).drawing
draw_all-sound {s} {d} cs = (draw_all-follows s cs d).sound

-- the number of a refusal that may be is 4 to 7
abbrev pub FourToSeven : Option ℕ → Type 0
FourToSeven none = Unit {0}
FourToSeven (some n) = (4 ≤ n) × (n ≤ 7)

-- commands are refused with 4 to 7 alone
pub draw_all-numbers : (s : Setting) (cs : List Placed) (d : Drawing) → FourToSeven (draw_all s cs d).refusal
unfolding draw_all and_then
draw_all-numbers s [] d = tt
draw_all-numbers s (c ∷ cs) d = go (draw_command s c.command d) (command-follows s c.command d) (draw_all-numbers s cs)
  where
    go : (x : Drawn) → Gives (Follows s d) x → ((e : Drawing) → FourToSeven (draw_all s cs e).refusal)
        → FourToSeven (and_then d x (draw_all s cs)).refusal
    go (drawn e) p later = later e
    go (refused n) p later = p

-- a fact of each of some commands
abbrev pub AllOf : (Command → Type 0) → List Placed → Type 0
AllOf P [] = Unit {0}
AllOf P (c ∷ cs) = P c.command × AllOf P cs

-- what such commands keep one by one, they keep in their order, refused or not
pub draw_all-keeps : (Q : Command → Type 0) (P : Drawing → Type 0) (s : Setting)
    → ((c : Command) (d : Drawing) → Q c → P d → Gives P (draw_command s c d)) → (cs : List Placed) (d : Drawing) → AllOf Q cs → P d
    → P (draw_all s cs d).drawing
unfolding draw_all and_then
draw_all-keeps Q P s keep [] d q h = h
draw_all-keeps Q P s keep (c ∷ cs) d q h =
    go (draw_command s c.command d) (keep c.command d q.0 h) (λ e. draw_all-keeps Q P s keep cs e q.1)
  where
    go : (x : Drawn) → Gives P x → ((e : Drawing) → P e → P (draw_all s cs e).drawing) → P (and_then d x (draw_all s cs)).drawing
    go (drawn e) g later = later e g
    go (refused n) g later = h

-- ---- commands that draw nothing

-- every command but a sixel
abbrev pub Quiet : Command → Type 0
Quiet (argued k bs) = Unit {0}
Quiet return = Unit {0}
Quiet line = Unit {0}
Quiet (draw bits) = ⊥

-- no sixel is among some commands
abbrev pub AllQuiet : List Placed → Type 0
AllQuiet = AllOf Quiet

-- the strokes are those of a drawing
abbrev pub StrokesOf : Drawing → Drawing → Type 0
StrokesOf d e = e.strokes ≡ d.strokes

-- such a command adds no stroke
pub quiet-command : (s : Setting) (c : Command) (d : Drawing) → Quiet c → Gives (StrokesOf d) (draw_command s c d)
unfolding draw_command repeated with_raster
quiet-command s (argued repeat bs) d q =
    cond-case (Gives (StrokesOf d)) (ltb s.limits.repeats (decimal bs)) (λ _. (lit≤ tt, lit≤ tt)) (λ _. refl)
quiet-command s (argued colour bs) d q = refl
quiet-command s (argued raster bs) d q = rastered-gives (StrokesOf d) s (raster_after d.raster (values 4 bs)) d (λ a. refl)
quiet-command s return d q = refl
quiet-command s line d q = refl
quiet-command s (draw bits) d q = absurd q

-- the drawing that it gives has the same strokes
pub quiet-drawn : (s : Setting) (c : Command) (d : Drawing) {e : Drawing} → Quiet c → draw_command s c d ≡ drawn e → e.strokes ≡ d.strokes
quiet-drawn s c d q = given (StrokesOf d) (quiet-command s c d q)

-- nor do several of them add one
pub quiet-strokes : (s : Setting) (cs : List Placed) (d : Drawing) → AllQuiet cs → (draw_all s cs d).drawing.strokes ≡ d.strokes
unfolding draw_all and_then
quiet-strokes s [] d q = refl
quiet-strokes s (c ∷ cs) d q = go (draw_command s c.command d) (quiet-command s c.command d q.0) (λ e. quiet-strokes s cs e q.1)
  where
    go : (x : Drawn) → Gives (StrokesOf d) x → ((e : Drawing) → (draw_all s cs e).drawing.strokes ≡ e.strokes)
        → (and_then d x (draw_all s cs)).drawing.strokes ≡ d.strokes
    go (drawn e) p later = later e ∙ p
    go (refused n) p later = refl
