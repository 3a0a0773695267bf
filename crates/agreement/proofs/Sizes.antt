-- The sizes that the code allows and refuses are those of the definition.
use Prim.Native.Nat.{ℕ, ◌+◌, ◌≤◌, ◌<◌, min, max}
use native.Mathlib.Omega.{arith}
use mathlib.Core.Path.{◌≡◌, refl, sym, ap, ap₂, subst}
use mathlib.Core.Bool.{Bool, true, false, cond, ◌&&◌, ◌||◌, or-true}
use mathlib.Core.Option.{Option, none, some}
use mathlib.Core.List.{List}
use borrow.Author.Tests.{ltb-true, ltb-false, leb-true, leb-false, lt-ltb, le-ltb, le-leb, lt-leb}
use lib.Dec.{leb, ltb}
use Rattle.canvas.specs.Picture.{Area, area_of, grown_to}
use Rattle.frame.specs.declared.Refusal.{Refusal}
use Rattle.frame.specs.declared.Refusal.TheVariants as refusals
use Rattle.frame.specs.declared.VisibleArea.{VisibleArea}
use Rattle.std.specs.Prelude.{Result, Ok, Err}
use Rattle.frame.specs.Numbers.{number_of}
use Rattle.frame.specs.Sizes.{room_for, grown_area, raster_area, sixel_area}
use Rattle.reference.specs.Step.{row_ceiling}
use Rattle.meaning.specs.Drawing.{Setting, Pen, Drawing, pixels_of, size_refusal}
use Rattle.meaning.specs.Sizes.{Fits}
use Rattle.meaning.proofs.AreaLaws.{both, cond-case, Allowed, Sound}
use Rattle.agreement.specs.Same.{ground_of, pen_of, code_area, Bounded}

-- what a size comes to in the code and in the definition: the area grown to it, where it is allowed, or one refusal
pub data Sized (s : Setting) (a : Area) (w h : ℕ) : Result VisibleArea Refusal → Option ℕ → Type 0 where
  allows : {m n : ℕ} → Allowed s a w h → m ≡ (grown_to a w h).width → n ≡ (grown_to a w h).height → Sized s a w h (Ok (record { width = m; height = n })) none
  turns : (why : Refusal) {n : ℕ} → number_of why ≡ n → Sized s a w h (Err why) (some n)

-- a test of a grown side is a test of the size where the area has passed it
max-test : (m a w : ℕ) → a ≤ m → ltb m (max a w) ≡ ltb m w
max-test m a w h = go (ltb m w) refl
  where
    go : (t : Bool) → ltb m w ≡ t → ltb m (max a w) ≡ t
    go true e = lt-ltb m (max a w) (omega (arith, ltb-true m w e))
    go false e = le-ltb m (max a w) (omega (arith, ltb-false m w e))

module _ (s : Setting) (a : Area) (w h : ℕ) where
  -- the tests of the definition, one by one
  sized-by : (wide high many far low : Bool) → ltb s.limits.width w ≡ wide → ltb s.limits.height h ≡ high
      → ltb s.limits.pixels (pixels_of (grown_to a w h)) ≡ many → ltb s.stride w ≡ far → ltb s.rows h ≡ low
      → Sized s a w h
      (cond wide (Err refusals.Size)
      (cond high (Err refusals.Size)
      (cond many (Err refusals.Pixels)
      (cond far (Err refusals.Room)
      (cond low (Err refusals.Room) (Ok (record { width = max a.width w; height = max a.height h })))))))
      (cond (wide || high) (some 5) (cond many (some 6) (cond (far || low) (some 7) none)))
  unfolding number_of grown_to
  sized-by true high many far low e₁ e₂ e₃ e₄ e₅ = turns refusals.Size refl
  sized-by false true many far low e₁ e₂ e₃ e₄ e₅ = turns refusals.Size refl
  sized-by false false true far low e₁ e₂ e₃ e₄ e₅ = turns refusals.Pixels refl
  sized-by false false false true low e₁ e₂ e₃ e₄ e₅ = turns refusals.Room refl
  sized-by false false false false true e₁ e₂ e₃ e₄ e₅ = turns refusals.Room refl
  sized-by false false false false false e₁ e₂ e₃ e₄ e₅ =
      allows
      (record {
        width = ltb-false _ _ e₁;
        height = ltb-false _ _ e₂;
        pixels = ltb-false _ _ e₃;
        stride = ltb-false _ _ e₄;
        rows = ltb-false _ _ e₅;
      })
      refl
      refl

-- growing to a size within the area leaves it
grown-same : (a : Area) (w h : ℕ) → w ≤ a.width → h ≤ a.height → grown_to a w h ≡ a
unfolding grown_to
grown-same a w h p q = ap₂ area_of (omega arith) (omega arith)

-- such a size is allowed
within-allowed : {s : Setting} {a : Area} (w h : ℕ) → Fits s a → w ≤ a.width → h ≤ a.height → Allowed s a w h
within-allowed {s} {a} w h f p q =
    record {
      width = omega (arith, f.width);
      height = omega (arith, f.height);
      pixels = subst (λ (b : Area). pixels_of b ≤ s.limits.pixels) (sym (grown-same a w h p q)) f.pixels;
      stride = omega (arith, f.stride);
      rows = omega (arith, f.rows);
    }

-- an allowed size is not refused
pub allowed-none : {s : Setting} {a : Area} {w h : ℕ} → Allowed s a w h → size_refusal s a w h ≡ none
unfolding size_refusal
allowed-none k = simp (le-ltb _ _ k.width, le-ltb _ _ k.height, le-ltb _ _ k.pixels, le-ltb _ _ k.stride, le-ltb _ _ k.rows)

-- a limit kept is a limit not exceeded
cond-kept : {A : Type 0} (w m h n : ℕ) (x y : A) → cond (leb w m && leb h n) x y ≡ cond (ltb m w) y (cond (ltb n h) y x)
cond-kept w m h n x y = go (ltb m w) (ltb n h) refl refl
  where
    go : (t u : Bool) → ltb m w ≡ t → ltb n h ≡ u → cond (leb w m && leb h n) x y ≡ cond t y (cond u y x)
    go true u e₁ e₂ = rw (lt-leb w m (ltb-true m w e₁))
    go false true e₁ e₂ = rw (le-leb w m (ltb-false m w e₁), lt-leb h n (ltb-true n h e₂))
    go false false e₁ e₂ = rw (le-leb w m (ltb-false m w e₁), le-leb h n (ltb-false n h e₂))

-- one refusal of two sizes
same-refusal : {s : Setting} {a : Area} {w h j n : ℕ} {x : Result VisibleArea Refusal} {o : Option ℕ} → Sized s a w h x o → o ≡ some n
    → Sized s a w j x (some n)
same-refusal (allows k p q) e = absurd (let z : ◌≡◌ {A = ℕ} 0 1 = cc in omega arith)
same-refusal {n} (turns why q) e = turns why {n = n} (cc)

module _ {s : Setting} {d : Drawing} (sound : Sound s d) (background : List ℕ) where
  -- a raster's size
  pub raster-sized : (w h : ℕ) → Sized s d.area w h (raster_area (code_area d) (ground_of s background) w h) (size_refusal s d.area w h)
  unfolding raster_area grown_area room_for size_refusal ground_of code_area pixels_of grown_to
  raster-sized w h =
      rw (max-test s.stride d.area.width w sound.fits.stride, max-test s.rows d.area.height h sound.fits.rows)
      (sized-by s d.area w h _ _ _ _ _ refl refl refl refl refl)

  -- a size that is visible
  seen-sized : (w h : ℕ) → w ≤ d.area.width → h ≤ d.area.height
      → Sized s d.area w h (Ok (record { width = d.area.width; height = d.area.height })) (size_refusal s d.area w h)
  seen-sized w h p q =
      let k : Allowed s d.area w h = within-allowed w h sound.fits p q in
      let same : d.area ≡ grown_to d.area w h = sym (grown-same d.area w h p q) in
      subst (Sized s d.area w h (Ok (record { width = d.area.width; height = d.area.height }))) (sym (allowed-none k))
      (allows k (ap (λ (a : Area). a.width) same) (ap (λ (a : Area). a.height) same))

  -- a sixel's size, its row as the code has it
  sixel-row : (p : Pen) (row : ℕ) → min p.row row_ceiling ≡ row
      → Sized s d.area (p.column + p.repeats) (row + 6) (sixel_area (pen_of d.palette p) (code_area d) (ground_of s background))
      (size_refusal s d.area (p.column + p.repeats) (row + 6))
  unfolding sixel_area raster_area pen_of code_area ground_of
  sixel-row p row e =
      let w : ℕ = p.column + p.repeats in
      rw (e, cond-kept w s.limits.width (row + 6) s.limits.height)
      (cond-case (λ (x : Result VisibleArea Refusal). Sized s d.area w (row + 6) x (size_refusal s d.area w (row + 6)))
      (leb w d.area.width && leb (row + 6) d.area.height)
      (λ seen.
      let fits : (leb w d.area.width ≡ true) × (leb (row + 6) d.area.height ≡ true) = both _ _ seen in
      seen-sized w (row + 6) (leb-true _ _ fits.0) (leb-true _ _ fits.1))
      (λ _. raster-sized w (row + 6)))

  -- a row above the height limit is refused, saturated or not
  low-refused : (a : Area) (w h : ℕ) → s.limits.height < h → size_refusal s a w h ≡ some 5
  unfolding size_refusal
  low-refused a w h k = rw (lt-ltb _ _ k, or-true)

  -- a sixel's size
  pub sixel-sized : Bounded s → (p : Pen)
      → Sized s d.area (p.column + p.repeats) (p.row + 6) (sixel_area (pen_of d.palette p) (code_area d) (ground_of s background))
      (size_refusal s d.area (p.column + p.repeats) (p.row + 6))
  sixel-sized bounded p = go (leb p.row row_ceiling) refl
    where
      w : ℕ
      w = p.column + p.repeats

      go : (t : Bool) → leb p.row row_ceiling ≡ t
          → Sized s d.area w (p.row + 6) (sixel_area (pen_of d.palette p) (code_area d) (ground_of s background))
          (size_refusal s d.area w (p.row + 6))
      go true e = sixel-row p p.row (omega (arith, leb-true p.row row_ceiling e))
      go false e =
          let low : row_ceiling < p.row = leb-false p.row row_ceiling e in
          subst (Sized s d.area w (p.row + 6) _) (sym (low-refused d.area w (p.row + 6) (omega (arith, bounded.height))))
          (same-refusal (sixel-row p row_ceiling (omega arith)) (low-refused d.area w (row_ceiling + 6) (omega (arith, bounded.height))))
