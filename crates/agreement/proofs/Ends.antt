-- A command that ends does in the code what it does in the definition.
use Prim.Native.Nat.{ℕ, ◌+◌, ◌*◌, min, max}
use native.Mathlib.Omega.{arith}
use mathlib.Core.Path.{◌≡◌, refl, sym, ap, ap₂, ◌∙◌, subst}
use mathlib.Core.Bool.{Bool, true, false, cond, ◌&&◌}
use mathlib.Core.Option.{Option, none, some}
use mathlib.Core.List.{List}
use borrow.Author.Tests.{ltb-true, ltb-false, eqb-true, eqb-false, le-leb, lt-leb, lt-ltb, le-ltb, eq-eqb, ne_eqb}
use lib.Dec.{leb, ltb, eqb, lit≤}
use lib.ListN.{length, get_or}
use Rattle.numbers.specs.declared.Parameters.{Parameters}
use Rattle.numbers.specs.Read.{Read, Counted}
use Rattle.numbers.specs.Step as numbers
use Rattle.numbers.specs.Values.{decimal, values}
use Rattle.numbers.proofs.Reading.{read_count, read-value}
use Rattle.numbers.proofs.Repeat.{counted-above, counted-exact}
use Rattle.colours.specs.declared.Palette.{Palette}
use Rattle.colours.specs.Palette.{register_of}
use Rattle.canvas.specs.Picture.{grown_to}
use Rattle.frame.specs.declared.Command.{Command}
use Rattle.frame.specs.declared.Ground.{Ground}
use Rattle.frame.specs.declared.Kind as code_kind
use Rattle.frame.specs.declared.Kind.TheVariants as kinds
use Rattle.frame.specs.declared.Outcome.TheVariants as outcomes
use Rattle.frame.specs.declared.Refusal.{Refusal}
use Rattle.frame.specs.declared.Refusal.TheVariants as refusals
use Rattle.std.specs.Prelude.{Result}
use Rattle.frame.specs.declared.VisibleArea.{VisibleArea}
use Rattle.frame.specs.Numbers.{number_of}
use Rattle.frame.specs.Sizes.{raster_area}
use Rattle.frame.specs.Commands as coded
use Rattle.frame.specs.Commands.{held_by, more_held}
use Rattle.frame.specs.Commands.{no_command, settled_as, unread_as, refused_as, with_repeat, defined_by, redefined_by, register_in, with_color, quotient_of, ratio_by, kept_size, raster_by, raster_grown, raster_ended_by, Ended, ended_in, ended}
use Rattle.meaning.specs.Commands.{Kind, repeat, colour, raster, argued}
use Rattle.meaning.specs.Drawing.{holds, held_in}
use Rattle.meaning.specs.Payload.{largest_count}
use Rattle.meaning.specs.Drawing.{Setting, Raster, Drawing, Drawn, drawn, refused, with_pen, with_repeats, repeated, selected, redefined, coloured, unless, quotient, ratio_after, kept, raster_after, with_raster, stretched, rastered, draw_command}
use Rattle.meaning.proofs.AreaLaws.{Sound}
use Rattle.agreement.specs.Same.{ground_of, pen_of, code_area, code_extent, ratio_number, raster_of, code_held, frame_of, Bounded, SameBegun}
use Rattle.agreement.proofs.Sizes.{Sized, allows, turns, raster-sized}

-- no command is pending any more, and the frame is that of a drawing
unfoldable pub settled_to : Drawing → Command → Ended
unfolding frame_of unread_as
settled_to e c = record { progress = unread_as (frame_of e c) outcomes.Read; palette = e.palette }

-- what a command comes to in the definition and in the code: the frame of the drawing that it gives, or one refusal
pub data Ends (d : Drawing) (c : Command) : Drawn → Ended → Type 0 where
  gives : (e : Drawing) → Ends d c (drawn e) (settled_to e no_command)
  turned : (why : Refusal) {n : ℕ} → number_of why ≡ n → Ends d c (refused n) (record { progress = refused_as (frame_of d c) why; palette = d.palette })

-- ---- repeat

module _ {s : Setting} (bounded : Bounded s) (d : Drawing) (background : List ℕ) (c : Command) where
  repeat-ends : {bs : List ℕ} → Counted bs c.number
      → Ends d c (repeated s (decimal bs) d) (ended_in kinds.Repeat (frame_of d c) (ground_of s background) d.palette)
  unfolding repeated ended_in ground_of frame_of settled_to no_command number_of
  repeat-ends {bs} h = rw (sym (counted-above s.limits.repeats bounded.repeats h)) (go (ltb s.limits.repeats c.number) refl)
    where
      go : (t : Bool) → ltb s.limits.repeats c.number ≡ t
          → Ends d c (cond t (refused 4) (drawn (with_pen d (with_repeats d.pen (max 1 (decimal bs))))))
          (record {
            progress =
                cond t (refused_as (frame_of d c) refusals.Repeat)
                (settled_as (with_repeat (pen_of d.palette d.pen) (max 1 c.number)) (code_area d) (code_extent d) (raster_of d.raster) (code_held d));
            palette = d.palette;
          })
      go true e = turned refusals.Repeat refl
      go false e = rw (counted-exact (omega (arith, ltb-false s.limits.repeats c.number e, bounded.repeats)) h) (gives _)

-- ---- colour

-- what a record has read redefines the same register in the same way
redefines : (p : Palette) (n : ℕ) {bs : List ℕ} {v : Parameters} → Read 5 bs v → redefined_by p n (numbers.finished v) ≡ redefined p n (values 5 bs)
unfolding redefined_by defined_by redefined
redefines p n h =
    simp (read_count (lit≤ tt) h, read-value 1 (lit≤ tt) h, read-value 2 (lit≤ tt) h, read-value 3 (lit≤ tt) h, read-value 4 (lit≤ tt) h)

-- and selects the same
selects : {bs : List ℕ} {v : Parameters} → Read 5 bs v → register_in (numbers.finished v) ≡ selected (values 5 bs)
unfolding register_in selected
selects h = rw (read-value 0 (lit≤ tt) h)

-- and holds the same values
holds_same : {bs : List ℕ} {v : Parameters} → Read 5 bs v → coded.held_in (numbers.finished v) ≡ holds (values 5 bs)
unfolding coded.held_in held_by holds
holds_same h =
    simp (read_count (lit≤ tt) h, read-value 1 (lit≤ tt) h, read-value 2 (lit≤ tt) h, read-value 3 (lit≤ tt) h, read-value 4 (lit≤ tt) h)

-- one more, as large as a number gets
counts-on : (n : ℕ) (t : Bool) → more_held (min n largest_count) t ≡ min (n + cond t 1 0) largest_count
unfolding more_held
counts-on n true = omega arith
counts-on n false = omega arith

color-ends : (d : Drawing) (g : Ground) (c : Command) {bs : List ℕ} → Read 5 bs c.parameters
    → Ends d c (drawn (coloured (values 5 bs) d)) (ended_in kinds.Color (frame_of d c) g d.palette)
unfolding ended_in coloured frame_of settled_to no_command code_held held_in
color-ends d g c {bs} h =
    let p : Palette = d.palette in
    let n : ℕ = selected (values 5 bs) in
    let counted : more_held (code_held d) (coded.held_in (numbers.finished c.parameters)) ≡ min (d.held + held_in (values 5 bs)) largest_count =
    ap (more_held (code_held d)) (holds_same h) ∙ counts-on d.held (holds (values 5 bs)) in
    subst (Ends d c (drawn (coloured (values 5 bs) d)))
    (sym (ap₂ (λ (m : ℕ) (q : Palette). colored_to m q (more_held (code_held d) (coded.held_in (numbers.finished c.parameters)))) (selects h)
    (ap (λ (m : ℕ). redefined_by p m (numbers.finished c.parameters)) (selects h) ∙ redefines p n h)
    ∙ ap (colored_to n (redefined p n (values 5 bs))) counted))
    (gives (coloured (values 5 bs) d))
  where
    colored_to : ℕ → Palette → ℕ → Ended
    colored_to n after held =
        record {
          progress = settled_as (with_color (pen_of d.palette d.pen) n (register_of after n)) (code_area d) (code_extent d) (raster_of d.raster) held;
          palette = after;
        }

-- ---- raster

quotients : (v h : ℕ) → quotient_of v h ≡ ratio_number (quotient v h)
unfolding quotient_of quotient ratio_number
quotients v h = go (eqb v h) (eqb v (2 * h)) (eqb v (3 * h)) (eqb v (5 * h))
  where
    go : (a b c d : Bool)
        → cond a 1 (cond b 2 (cond c 3 (cond d 5 0)))
        ≡ ratio_number (cond a (some 1) (cond b (some 2) (cond c (some 3) (cond d (some 5) none))))
    go true b c d = refl
    go false true c d = refl
    go false false true d = refl
    go false false false true = refl
    go false false false false = refl

-- a ratio stays where there are fewer than two values
ratios : (old : Option ℕ) {bs : List ℕ} {v : Parameters} → Read 4 bs v
    → ratio_by (ratio_number old) (numbers.finished v) ≡ ratio_number (ratio_after old (values 4 bs))
unfolding ratio_by ratio_after
ratios old {bs} h =
    rw (read-value 0 (lit≤ tt) h, read-value 1 (lit≤ tt) h, read_count (lit≤ tt) h) (go (ltb (length vs) 2) refl)
  where
    vs : List ℕ
    vs = values 4 bs

    v : ℕ
    v = max 1 (get_or vs 0 0)

    w : ℕ
    w = max 1 (get_or vs 1 0)

    go : (t : Bool) → ltb (length vs) 2 ≡ t → cond t (ratio_number old) (quotient_of v w) ≡ ratio_number (cond (leb 2 (length vs)) (quotient v w) old)
    go true e = rw (lt-leb 2 (length vs) (ltb-true _ _ e))
    go false e = rw (le-leb 2 (length vs) (ltb-false _ _ e)) (quotients v w)

keeps : (old n : ℕ) → kept_size old n ≡ kept old n
unfolding kept_size kept
keeps old n = go (eqb n 0) refl
  where
    go : (t : Bool) → eqb n 0 ≡ t → cond t old n ≡ cond (ltb 0 n) n old
    go true e = rw (le-ltb 0 n (omega (arith, eqb-true n 0 e)))
    go false e = rw (lt-ltb 0 n (omega (arith, eqb-false n 0 e)))

-- what a record has read leaves the same raster
pub rasters : (r : Raster) {bs : List ℕ} {v : Parameters} → Read 4 bs v
    → raster_by (raster_of r) (numbers.finished v) ≡ raster_of (raster_after r (values 4 bs))
unfolding raster_by raster_of raster_after
rasters r {bs} {v} h = λ i. record { ratio = ratios r.ratio h i; width = sides 2 r.width i; height = sides 3 r.height i }
  where
    sides : (n old : ℕ) → kept_size old (numbers.value_at (numbers.finished v) n) ≡ kept old (get_or (values 4 bs) n 0)
    sides n old = ap (kept_size old) (read-value n (lit≤ tt) h) ∙ keeps old (get_or (values 4 bs) n 0)

-- a kept width or height, in one test or in two
neither-kept : (w h : ℕ) → (eqb w 0 && eqb h 0) ≡ eqb (w + h) 0
neither-kept w h = go (eqb w 0) (eqb h 0) refl refl
  where
    go : (t u : Bool) → eqb w 0 ≡ t → eqb h 0 ≡ u → (t && u) ≡ eqb (w + h) 0
    go true true e₁ e₂ = sym (eq-eqb (w + h) 0 (omega (arith, eqb-true w 0 e₁, eqb-true h 0 e₂)))
    go true false e₁ e₂ = sym (ne_eqb (w + h) 0 (λ q. eqb-false h 0 e₂ (omega arith)))
    go false u e₁ e₂ = sym (ne_eqb (w + h) 0 (λ q. eqb-false w 0 e₁ (omega arith)))

module _ {s : Setting} {d : Drawing} (sound : Sound s d) (background : List ℕ) (c : Command) where
  -- the area grows to a raster's size, or the size is refused
  grown-ends : (r : Raster) {x : Result VisibleArea Refusal} {o : Option ℕ} → Sized s d.area (max 1 r.width) (max 1 r.height) x o
      → Ends d c (unless o (with_raster d r (grown_to d.area (max 1 r.width) (max 1 r.height))))
      (record { progress = raster_grown (frame_of d c) (raster_of r) x; palette = d.palette })
  unfolding unless raster_grown with_raster frame_of settled_to no_command
  grown-ends r (allows k p q) = rw (p, q) (gives _)
  grown-ends r (turns why e) = turned why e

  -- it does so if a width or a height is kept
  kept-ends : (r : Raster)
      → Ends d c (rastered s r d) (record { progress = raster_ended_by (frame_of d c) (ground_of s background) (raster_of r); palette = d.palette })
  unfolding rastered stretched raster_ended_by frame_of raster_of settled_to with_raster
  kept-ends r = rw (neither-kept r.width r.height) (go (eqb (r.width + r.height) 0))
    where
      go : (t : Bool)
          → Ends d c (cond t (drawn (with_raster d r d.area)) (stretched s r d))
          (record {
            progress =
                cond t (settled_as (pen_of d.palette d.pen) (code_area d) (code_extent d) (raster_of r) (code_held d))
                (raster_grown (frame_of d c) (raster_of r) (raster_area (code_area d) (ground_of s background) (max 1 r.width) (max 1 r.height)));
            palette = d.palette;
          })
      go true = gives (with_raster d r d.area)
      go false = grown-ends r (raster-sized sound background (max 1 r.width) (max 1 r.height))

  raster-ends : {bs : List ℕ} → Read 4 bs c.parameters
      → Ends d c (rastered s (raster_after d.raster (values 4 bs)) d) (ended_in kinds.Raster (frame_of d c) (ground_of s background) d.palette)
  unfolding ended_in frame_of
  raster-ends {bs} h =
      subst
      (λ r. Ends d c (rastered s (raster_after d.raster (values 4 bs)) d)
      (record { progress = raster_ended_by (frame_of d c) (ground_of s background) r; palette = d.palette }))
      (sym (rasters d.raster h))
      (kept-ends (raster_after d.raster (values 4 bs)))

-- ---- whichever is pending

-- a begun command that ends does the same in the code and in the definition
pub command-ends : {s : Setting} {d : Drawing} → Bounded s → Sound s d → (background : List ℕ) (c : Command) (at : ℕ) (k : Kind) (bs : List ℕ)
    → SameBegun (some (record { place = at; kind = k; argument = bs })) c
    → Ends d c (draw_command s (argued k bs) d) (ended (frame_of d c) (ground_of s background) d.palette)
unfolding draw_command ended frame_of
command-ends {s} {d} bounded sound background c at k bs h = go k h
  where
    known : {x : Drawn} {e k : code_kind.Kind} → e ≡ k → Ends d c x (ended_in k (frame_of d c) (ground_of s background) d.palette)
        → Ends d c x (ended_in e (frame_of d c) (ground_of s background) d.palette)
    known {x} q = subst (λ k. Ends d c x (ended_in k (frame_of d c) (ground_of s background) d.palette)) (sym q)

    go : (k : Kind) → SameBegun (some (record { place = at; kind = k; argument = bs })) c
        → Ends d c (draw_command s (argued k bs) d) (ended_in c.kind (frame_of d c) (ground_of s background) d.palette)
    go repeat h = known h.0 (repeat-ends bounded d background c h.1)
    go colour h = known h.0 (color-ends d (ground_of s background) c h.1)
    go raster h = known h.0 (raster-ends sound background c h.1)
