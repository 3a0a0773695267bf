-- What a refused command or sixel needed is in the code what it is in the definition.
use Rattle.std.specs.Prelude.{Some}
use Rattle.std.specs.Prelude.{◌≡◌, ℕ, ◌+◌, ◌*◌, ◌<◌, min, max, Bool, true, ltb, List}
use mathlib.Core.Option.{Option, some}
use mathlib.Core.Path.{refl, sym, ap, ap₂, ◌∙◌}
use native.Mathlib.Omega.{arith}
use borrow.Author.Tests.{ltb-true, ltb-false, lt-ltb, le-ltb}
use Rattle.numbers.specs.Read.{Read, Counted}
use Rattle.numbers.specs.Step.{ceiling}
use Rattle.numbers.specs.Values.{decimal, values}
use Rattle.numbers.proofs.Laws.{cond_yes, cond_no}
use Rattle.canvas.specs.Picture.{Area, grown_to}
use Rattle.canvas.proofs.Covers.{by-test}
use Rattle.frame.specs.declared.Command.{Command}
use Rattle.frame.specs.declared.Kind as code_kind
use Rattle.frame.specs.declared.Kind.TheVariants as kinds
use Rattle.frame.specs.declared.Raster as code_raster
use Rattle.frame.specs.Commands.{finished_of}
use Rattle.reference.specs.Step.{row_ceiling}
use Rattle.meaning.specs.Commands.{Kind, repeat, colour, raster, Begun, argued, draw}
use Rattle.meaning.specs.Drawing.{Setting, Drawing, pixels_of, raster_after}
use Rattle.meaning.specs.Tellings.{Shortage, short, most_of_side, most_of_all, size_shortage, raster_shortage, command_shortage, repeats, columns, rows}
use Rattle.meaning.specs.Tellings as tellings
use Rattle.agreement.specs.Same.{ground_of, pen_of, code_area, raster_of, frame_of, Bounded, SameBegun}
use Rattle.agreement.proofs.Ends.{rasters}
use Rattle.words.specs.declared.Thing.{Thing}
use Rattle.explain.specs.Meant.{thing_meant, shortage_meant, need_meant}
use Rattle.explain.specs.Need.{largest, short_of, pixels_short, size_short, sixel_short, raster_short, repeat_short, need_in, need_of}

-- ---- a number that was held says the same

-- a test of a held number below its ceiling
held_test : (most n m : ℕ) → most < m → ltb most (min n m) ≡ ltb most n
held_test most n m h =
    by-test (ltb most n)
    (λ t. lt-ltb most (min n m) (omega (arith, ltb-true most n t)) ∙ sym t)
    (λ t. le-ltb most (min n m) (omega (arith, ltb-false most n t)) ∙ sym t)

-- a shortage of a number that is held above the ceiling of what is told
held-short : (most : ℕ) (t : tellings.Thing) (n m allowed : ℕ) → most < m → short most t (min n m) allowed ≡ short most t n allowed
unfolding short
held-short most t n m allowed h =
    ap₂
    (λ (k : ℕ) (more : Bool). record { thing = t; needed = k; more = more; allowed = allowed })
    (omega arith)
    (held_test most n m h)

-- ---- sizes

short-meant : (most : ℕ) (t : Thing) (n allowed : ℕ) → shortage_meant (short_of most t n allowed) ≡ short most (thing_meant t) n allowed
unfolding shortage_meant short_of short
short-meant most t n allowed = refl

module _ (s : Setting) (d : Drawing) (background : List ℕ) where
  pub size-meant : (w h : ℕ) → shortage_meant (size_short (code_area d) (ground_of s background) w h) ≡ size_shortage s d.area w h
  unfolding size_short size_shortage shortage_meant thing_meant short_of pixels_short short code_area ground_of pixels_of grown_to
  size-meant w h =
      by-test (ltb s.limits.width w) (λ a. rw a)
      (λ a. by-test (ltb s.limits.height h) (λ b. rw (a, b))
      (λ b. by-test (ltb s.limits.pixels (max d.area.width w * max d.area.height h)) (λ c. rw (a, b, c))
      (λ c. by-test (ltb s.stride w) (λ e. rw (a, b, c, e)) (λ e. rw (a, b, c, e)))))

-- a sixel's size, its sums held and its row saturated
pub size-held : {s : Setting} → Bounded s → (a : Area) (w row : ℕ)
    → size_shortage s a (min w largest) (min (min row row_ceiling + 6) largest) ≡ size_shortage s a w (row + 6)
unfolding size_shortage
size-held {s} bounded a w row =
    by-test (ltb s.limits.width w)
    (λ t. cond_yes _ _ (held_test s.limits.width w largest (omega (arith, bounded.width)) ∙ t)
    ∙ held-short most_of_side columns w largest s.limits.width (omega arith)
    ∙ sym (cond_yes _ _ t))
    (λ t. let all : min w largest ≡ w = omega (arith, ltb-false s.limits.width w t, bounded.width) in
    by-test (ltb s.limits.height (row + 6))
    (λ u. cond_no _ _ (ap (ltb s.limits.width) all ∙ t)
    ∙ cond_yes _ _ (above (ltb-true s.limits.height (row + 6) u))
    ∙ low (ltb-true s.limits.height (row + 6) u)
    ∙ sym (cond_no _ _ t ∙ cond_yes _ _ u))
    (λ u. let same : min (min row row_ceiling + 6) largest ≡ row + 6 = omega (arith, ltb-false s.limits.height (row + 6) u, bounded.height) in
    ap₂ (λ (x y : ℕ). size_shortage s a x y) all same))
  where
    cut : min (min row row_ceiling + 6) largest ≡ min (row + 6) (row_ceiling + 6)
    cut = omega arith

    above : s.limits.height < row + 6 → ltb s.limits.height (min (min row row_ceiling + 6) largest) ≡ true
    above k = lt-ltb s.limits.height (min (min row row_ceiling + 6) largest) (omega (arith, bounded.height))

    low : s.limits.height < row + 6
        → short most_of_side rows (min (min row row_ceiling + 6) largest) s.limits.height ≡ short most_of_side rows (row + 6) s.limits.height
    low k =
        ap (λ (n : ℕ). short most_of_side rows n s.limits.height) cut
        ∙ held-short most_of_side rows (row + 6) (row_ceiling + 6) s.limits.height (omega arith)

-- ---- the sixel, the repeat, the raster

module _ {s : Setting} (bounded : Bounded s) (d : Drawing) (background : List ℕ) (c : Command) where
  sixel-meant : (bits : ℕ) → need_meant (Some (sixel_short (frame_of d c) (ground_of s background))) ≡ command_shortage s (draw bits) d
  unfolding need_meant sixel_short frame_of pen_of command_shortage
  sixel-meant bits =
      ap (λ (k : Shortage). some k)
      (size-meant s d background (min (d.pen.column + d.pen.repeats) largest) (min (min d.pen.row row_ceiling + 6) largest)
      ∙ size-held bounded d.area (d.pen.column + d.pen.repeats) d.pen.row)

  repeat-meant : {bs : List ℕ} → Counted bs c.number
      → need_meant (Some (repeat_short (frame_of d c) (ground_of s background))) ≡ command_shortage s (argued repeat bs) d
  unfolding need_meant shortage_meant thing_meant repeat_short short_of frame_of ground_of command_shortage short
  repeat-meant {bs} h =
      ap (λ (k : Shortage). some k)
      (ap (λ (n : ℕ). short most_of_all repeats n s.limits.repeats) h.same
      ∙ held-short most_of_all repeats (decimal bs) ceiling s.limits.repeats (omega arith))

  raster-meant : {bs : List ℕ} → Read 4 bs c.parameters
      → need_meant (Some (raster_short (frame_of d c) (ground_of s background))) ≡ command_shortage s (argued raster bs) d
  unfolding need_meant raster_short finished_of frame_of raster_of command_shortage raster_shortage
  raster-meant {bs} h =
      ap (λ (k : Shortage). some k)
      (ap
      (λ (r : code_raster.Raster). shortage_meant (size_short (code_area d) (ground_of s background) (max 1 r.width) (max 1 r.height)))
      (rasters d.raster h)
      ∙ size-meant s d background (max 1 (raster_after d.raster (values 4 bs)).width) (max 1 (raster_after d.raster (values 4 bs)).height))

  known : {k : code_kind.Kind} {o : Option Shortage} → c.kind ≡ k → need_meant (need_in k (frame_of d c) (ground_of s background)) ≡ o
      → need_meant (need_of (frame_of d c) (ground_of s background)) ≡ o
  unfolding need_of frame_of
  known e h = ap (λ (k : code_kind.Kind). need_meant (need_in k (frame_of d c) (ground_of s background))) e ∙ h

  -- where no command is pending, what the next sixel needs
  pub idle-meant : (bits : ℕ) → c.kind ≡ kinds.Data → need_meant (need_of (frame_of d c) (ground_of s background)) ≡ command_shortage s (draw bits) d
  unfolding need_in
  idle-meant bits e = known e (sixel-meant bits)

  -- and else what the pending one does
  pub pending-meant : (k : Begun) → SameBegun (some k) c
      → need_meant (need_of (frame_of d c) (ground_of s background)) ≡ command_shortage s (argued k.kind k.argument) d
  unfolding need_in need_meant command_shortage
  pending-meant k h = go k.kind h
    where
      go : (x : Kind) → SameBegun (some (record { place = k.place; kind = x; argument = k.argument })) c
          → need_meant (need_of (frame_of d c) (ground_of s background)) ≡ command_shortage s (argued x k.argument) d
      go repeat h = known h.0 (repeat-meant h.1)
      go colour h = known h.0 refl
      go raster h = known h.0 (raster-meant h.1)
