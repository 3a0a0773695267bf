-- Laws of a run: one for each path through a function of `run`, and that a run leads where its sixels lead one by one.
use Prim.Native.Nat.{ℕ, zero, suc, ◌+◌, ◌-◌, ◌*◌, ◌≤◌, ◌<◌}
use mathlib.Core.Bool.{Bool, true, false, true≢false}
use mathlib.Core.List.{List}
use mathlib.Core.Path.{◌≡◌, refl, sym, ap, ap₂, ◌∙◌, subst}
use native.Mathlib.Nat.{add-zero, add-suc, add_assoc, not-suc-le-zero}
use native.Mathlib.Omega.{arith}
use borrow.Author.Tests.{le-leb}
use lib.Count.{ones}
use lib.ListN.{length, get_or, take, drop}
use Rattle.numbers.specs.Bytes.{sixel}
use Rattle.colours.specs.declared.Palette.{Palette}
use Rattle.canvas.specs.Picture.{area_of, rows_of}
use Rattle.canvas.specs.Paint.{sixel_painted}
use Rattle.canvas.proofs.Covers.{and_both, split}
use Rattle.canvas.proofs.Grid.{rows-room, rows_few}
use Rattle.canvas.proofs.Pictures.{grown-none}
use Rattle.frame.specs.declared.Extent.{Extent}
use Rattle.frame.specs.declared.Frame.{Frame}
use Rattle.frame.specs.declared.Ground.{Ground}
use Rattle.frame.specs.declared.Kind.TheVariants as kinds
use Rattle.fast.specs.declared.Advance.{Advance}
use Rattle.frame.specs.declared.VisibleArea.{VisibleArea}
use Rattle.frame.specs.declared.Refusal.{Refusal}
use Rattle.std.specs.Prelude.{Result}
use Rattle.frame.specs.Sizes.{sized, sixel_area}
use Rattle.frame.specs.Commands.{with_repeat}
use Rattle.reference.specs.Step.{Fits, Holds, area_grown, passed_to}
use Rattle.fast.specs.Argument.{onwards}
use Rattle.fast.specs.Advance.{advance_to, after_advance, Advances}
use Rattle.fast.specs.Blend.{four_ink, four_painted, sixels_at}
use Rattle.fast.specs.Run.{Sixels, Laid, planned, run_ink, run_painted, run_extent, ran, run_advance, run_canvas}
use Rattle.frame.proofs.SizeLaws.{sixel-visible, sixel-reach}
use Rattle.reference.proofs.StepLaws.{sixel-bits, needed-holds}
use Rattle.reference.proofs.FeedLaws.{Going}
use Rattle.fast.proofs.BlendLaws.{blank-painted}
use Rattle.fast.proofs.ReachLaws.{part-at}
use Rattle.fast.proofs.RunSteps.{ink-few, going-as, ran_frame, ran_canvas, run-going}

-- ---- a run that was painted

pub going-here : (g : Ground) (allowance : ℕ) (bytes : List ℕ) (p : Palette) (l : List ℕ) (f : Frame) (i spent : ℕ) → i ≤ length bytes
    → spent ≤ allowance → Fits f g (length l) → Going g allowance bytes (onwards g allowance bytes i spent f p l) (length l) p l f i spent
going-here g allowance bytes p l f i spent within few fits =
    record { same = refl; within = within; spent = few; fits = fits; long = refl }

-- while no command is pending and no repeat was given
module _ (f : Frame) (g : Ground) (bytes : List ℕ) (i : ℕ) (l : List ℕ) (p : Palette) (fits : Fits f g (length l))
    (none : f.command.kind ≡ kinds.Data) (once : f.pen.repeat ≡ 1) where
  run-after : (n w h : ℕ) → Sixels bytes i (i + n) → 1 ≤ n → sixel_area (with_repeat f.pen n) f.area g ≡ sized w h
      → (allowance spent : ℕ) → spent + 6 * n ≤ allowance
      → Going g allowance bytes (onwards g allowance bytes i spent f p l) (length l) p (run_canvas (planned f n) g w h bytes i l)
      (ran (planned f n) w h bytes i)
      (i + n)
      (spent + run_ink bytes i n)
  unfolding planned with_repeat run_canvas ran_canvas ran_frame area_grown
  run-after zero w h s some area allowance spent enough = absurd (not-suc-le-zero some)
  run-after (suc n) w h s some area allowance spent enough =
      let reach = sixel-reach (with_repeat f.pen (suc n)) f.area g w h area in
      let here = going-here g allowance bytes p l f i spent (omega (arith, s.within)) (omega arith) fits in
      going-as (sym (ap₂ (λ (x y : ℕ). run_canvas (planned f (suc n)) g x y bytes i l) reach.0 reach.1))
      (sym (ap₂ (λ (x y : ℕ). ran (planned f (suc n)) x y bytes i) reach.0 reach.1))
      refl
      refl
      (run-going here (suc n) none once s enough area n (omega arith))

  run-advances : (n w h left : ℕ) → Sixels bytes i (i + n) → 1 ≤ n → sixel_area (with_repeat f.pen n) f.area g ≡ sized w h → 6 * n ≤ left
      → Advances g bytes i left f p l (run_advance (planned f n) w h bytes i) p (run_canvas (planned f n) g w h bytes i l)
  unfolding planned with_repeat run_advance advance_to after_advance ran passed_to
  run-advances n w h left s some area enough =
      record {
        onward = omega arith;
        within = s.within;
        ink = omega (arith, ink-few bytes i n s);
        fits = (run-after n w h s some area (6 * n) 0 (omega arith)).fits;
        same = λ allowance spent few. (run-after n w h s some area allowance spent (omega arith)).same;
      }

-- the same of the frame that was planned
module _ {x : Result VisibleArea Refusal} {whole : Frame} (f : Frame) (g : Ground) (bytes : List ℕ) (i n w h room : ℕ) (plan : whole ≡ planned f n)
    (fits : Fits f g room) (s : Sixels bytes i (i + n)) (needed : x ≡ sixel_area whole.pen whole.area g) (area : x ≡ sized w h) where
  planned-area : sixel_area (planned f n).pen (planned f n).area g ≡ sized w h
  planned-area = ap (λ (y : Frame). sixel_area y.pen y.area g) (sym plan) ∙ sym needed ∙ area

  pub planned-holds : Fits whole g room × Holds whole g w h × Sixels bytes i (i + whole.pen.repeat)
  unfolding planned with_repeat
  planned-holds =
      let same : Fits (planned f n) g room = record { rows = fits.rows; width = fits.width; height = fits.height } in
      let both = needed-holds (planned f n) g room w h same refl planned-area in
      subst (λ (y : Frame). Fits y g room × Holds y g w h × Sixels bytes i (i + y.pen.repeat)) (sym plan) (both.0, both.1, s)

pub painted-advances : {x : Result VisibleArea Refusal} {whole : Frame} {l l' : List ℕ} {r : Advance} (f : Frame) (g : Ground) (bytes : List ℕ) (i n w h : ℕ)
    → whole ≡ planned f n → Fits f g (length l) → f.command.kind ≡ kinds.Data → f.pen.repeat ≡ 1 → Sixels bytes i (i + n) → 1 ≤ n
    → x ≡ sixel_area whole.pen whole.area g → x ≡ sized w h
    → (r ≡ run_advance whole w h bytes i) × (l' ≡ run_canvas whole g w h bytes i l)
    → (p : Palette) (left : ℕ) → 6 * n ≤ left → Advances g bytes i left f p l r p l'
unfolding planned
painted-advances {l = l} f g bytes i n w h plan fits none once s some needed area done p left enough =
    let room = planned-area f g bytes i n w h (length l) plan fits s needed area in
    rw (done.0, done.1, plan) (run-advances f g bytes i l p fits none once n w h left s some room enough)

-- nothing was taken
pub nothing-advances : {r : Advance} (f : Frame) (g : Ground) (bytes : List ℕ) (i left : ℕ) (p : Palette) (l : List ℕ) → Fits f g (length l)
    → i ≤ length bytes → r ≡ advance_to f false i 0 → Advances g bytes i left f p l r p l
unfolding after_advance advance_to
nothing-advances f g bytes i left p l fits within e =
    rw e
    (record {
      onward = omega arith;
      within = within;
      ink = omega arith;
      fits = record { rows = fits.rows; width = fits.width; height = fits.height };
      same = λ allowance spent few. rw (add-zero spent);
    })

-- ---- the paths through a run's functions

pub sixels-none : (bytes : List ℕ) (i : ℕ) → i ≤ length bytes → Sixels bytes i (i + 0)
sixels-none bytes i h = record { within = omega arith; each = λ k h₁ h₂. absurd (let z : k < k = omega arith in omega (arith, z)) }

-- as many as were counted among the bytes from there on
pub sixels-counted : (bytes : List ℕ) (i n count : ℕ) → i + n ≤ length bytes → count ≤ n
    → ((k : ℕ) → k < count → sixel (get_or (take (i + n - i) (drop i bytes)) k 0) ≡ true) → (count ≤ n) × Sixels bytes i (i + count)
sixels-counted bytes i n count within few all =
    let at : (k : ℕ) → i ≤ k → k < i + count → sixel (get_or bytes k 0) ≡ true = λ k h₁ h₂.
    let there : i + (k - i) ≡ k = omega arith in
    ap (λ (j : ℕ). sixel (get_or bytes j 0)) (sym there)
    ∙ ap sixel (sym (part-at bytes i n (k - i) (omega arith)))
    ∙ all (k - i) (omega arith)
    in (few, record { within = omega arith; each = at })

pub sixels-more : {t : Bool} (bytes : List ℕ) (i n : ℕ) → Sixels bytes i (i + n) → i + n < length bytes → t ≡ sixel (get_or bytes (i + n) 0) → t ≡ true
    → Sixels bytes i (i + (n + 1))
sixels-more bytes i n s more e t =
    record {
      within = omega arith;
      each = λ k h₁ h₂. split k (i + n) (λ below. s.each k h₁ below)
          (λ above. let here : k ≡ i + n = omega arith in ap (λ (j : ℕ). sixel (get_or bytes j 0)) here ∙ sym e ∙ t);
    }

-- the sixel before them is one too
pub sixels-before : (bytes : List ℕ) (i n : ℕ) → sixel (get_or bytes i 0) ≡ true → Sixels bytes (i + 1) (i + 1 + n) → Sixels bytes i (i + (n + 1))
sixels-before bytes i n six s =
    record {
      within = omega (arith, s.within);
      each = λ k h₁ h₂. split k (i + 1)
          (λ below. let here : k ≡ i = omega arith in ap (λ (j : ℕ). sixel (get_or bytes j 0)) here ∙ six)
          (λ above. s.each k above (omega arith));
    }

-- ---- stretches of sixels that were painted

ink-joined : (bytes : List ℕ) (i n m : ℕ) → run_ink bytes i n + run_ink bytes (i + n) m ≡ run_ink bytes i (n + m)
unfolding run_ink
ink-joined bytes i n zero = rw (add-zero n) (add-zero (run_ink bytes i n))
ink-joined bytes i n (suc m) = rw (add-suc n m, sym (add_assoc i n m)) (omega (arith, ink-joined bytes i n m))

painted-joined : (stride column row : ℕ) (px bytes : List ℕ) (i n m : ℕ) (l : List ℕ)
    → run_painted stride (column + n) row px bytes (i + n) m (run_painted stride column row px bytes i n l)
    ≡ run_painted stride column row px bytes i (n + m) l
unfolding run_painted
painted-joined stride column row px bytes i n zero l = rw (add-zero n)
painted-joined stride column row px bytes i n (suc m) l =
    rw (add-suc n m, sym (add_assoc i n m), sym (add_assoc column n m))
    (ap (sixel_painted stride (column + n + m) row 1 (get_or bytes (i + n + m) 0 - 63) px) (painted-joined stride column row px bytes i n m l))

module _ (stride column row : ℕ) (px bytes : List ℕ) (i : ℕ) where
  -- none
  pub laid_none : (l : List ℕ) → i ≤ length bytes → Laid stride column row px bytes i 0 0 l l
  unfolding run_ink run_painted
  laid_none l h = record { sixels = sixels-none bytes i h; inked = refl; canvas = refl }

  -- one
  pub laid_one : {t : Bool} {ink : ℕ} {after : List ℕ} (l : List ℕ) → i < length bytes → t ≡ sixel (get_or bytes i 0) → t ≡ true
      → ink ≡ ones (get_or bytes i 0 - 63) → after ≡ sixel_painted stride column row 1 (get_or bytes i 0 - 63) px l
      → Laid stride column row px bytes i 1 ink l after
  unfolding run_ink run_painted
  laid_one l h e t x p =
      record {
        sixels = sixels-more bytes i 0 (sixels-none bytes i (omega arith)) (omega arith) (rw (add-zero i) e) t;
        inked = rw (add-zero i) (omega (arith, x));
        canvas = rw (add-zero i, add-zero column) p;
      }

  -- a blank one, which leaves the canvas, and a full one
  pub laid-blank : (l : List ℕ) → i < length bytes → get_or bytes i 0 ≡ 63 → Laid stride column row px bytes i 1 0 l l
  unfolding sixel ones
  laid-blank l h e = laid_one l h refl (ap sixel e) (sym (ap (λ (b : ℕ). ones (b - 63)) e)) (blank-painted stride column row _ px l (ap (λ (b : ℕ). b - 63) e))

  pub laid-full : {after : List ℕ} (l : List ℕ) → i < length bytes → get_or bytes i 0 ≡ 126 → after ≡ sixel_painted stride column row 1 63 px l
      → Laid stride column row px bytes i 1 6 l after
  unfolding sixel ones
  laid-full l h e p =
      laid_one l h refl (ap sixel e) (sym (ap (λ (b : ℕ). ones (b - 63)) e))
      (p ∙ sym (ap (λ (b : ℕ). sixel_painted stride column row 1 (b - 63) px l) e))

  -- four
  pub laid-four : {four : List ℕ} {ink : ℕ} {after : List ℕ} (l : List ℕ) → Sixels bytes i (i + 4) → four ≡ sixels_at bytes i → ink ≡ four_ink four
      → after ≡ four_painted stride column row four px l
      → Laid stride column row px bytes i 4 ink l after
  unfolding run_ink run_painted four_ink four_painted sixels_at
  laid-four l s e x p =
      record {
        sixels = s;
        inked = x ∙ ap four_ink e ∙ rw (add-zero i) (omega arith);
        canvas = p ∙ ap (λ (y : List ℕ). four_painted stride column row y px l) e ∙ rw (add-zero i, add-zero column);
      }

  -- two of them side by side
  pub laid-joined : {n m x y : ℕ} {l between after : List ℕ} → Laid stride column row px bytes i n x l between
      → Laid stride (column + n) row px bytes (i + n) m y between after
      → Laid stride column row px bytes i (n + m) (x + y) l after
  laid-joined {n} {m} {x} {y} {l} a b =
      record {
        sixels = record {
          within = omega (arith, b.sixels.within);
          each = λ k h₁ h₂. split k (i + n) (λ below. a.sixels.each k h₁ below) (λ above. b.sixels.each k above (omega arith));
        };
        inked = ap₂ (λ (u v : ℕ). u + v) a.inked b.inked ∙ ink-joined bytes i n m;
        canvas = b.canvas
            ∙ ap (run_painted stride (column + n) row px bytes (i + n) m) a.canvas
            ∙ painted-joined stride column row px bytes i n m l;
      }

  -- on a canvas that has room their ink is at most its bytes
  pub laid-few : {n x : ℕ} {l after : List ℕ} (room : ℕ) → Laid stride column row px bytes i n x l after → column + n ≤ stride
      → row + 6 ≤ rows_of room stride
      → x ≤ room
  laid-few {n} room a columns rows =
      let six : 6 ≤ rows_of room stride = omega arith in
      omega (arith, a.inked, ink-few bytes i n a.sixels, rows-room room stride 6 six)

-- where the first is a sixel and all were taken that are, one was
pub first_taken : (bytes : List ℕ) (i n most : ℕ) → sixel (get_or bytes i 0) ≡ true → 1 ≤ most
    → (n < most → sixel (get_or bytes (i + n) 0) ≡ false)
    → 1 ≤ n
first_taken bytes i n most six some rest =
    split n 1
    (λ below.
    let here : i + n ≡ i = omega arith in
    absurd (true≢false (sym six ∙ ap (λ (j : ℕ). sixel (get_or bytes j 0)) (sym here) ∙ rest (omega arith))))
    (λ above. above)

-- where all are sixels, all were taken
pub all-taken : (bytes : List ℕ) (i n most : ℕ) → Sixels bytes i (i + most) → n ≤ most → (n < most → sixel (get_or bytes (i + n) 0) ≡ false)
    → n ≡ most
all-taken bytes i n most s few rest =
    split n most
    (λ below. absurd (true≢false (sym (s.each (i + n) (omega arith) (omega arith)) ∙ rest below)))
    (λ above. omega arith)

-- the bits of each are six
pub four-few : {four : List ℕ} (bytes : List ℕ) (i : ℕ) → Sixels bytes i (i + 4) → four ≡ sixels_at bytes i
    → (get_or four 0 0 < 64) × (get_or four 1 0 < 64) × (get_or four 2 0 < 64) × (get_or four 3 0 < 64)
unfolding sixels_at
four-few bytes i s e =
    let few : (k : ℕ) → i ≤ k → k < i + 4 → get_or bytes k 0 - 63 < 64 = λ k h₁ h₂. sixel-bits (get_or bytes k 0) (s.each k h₁ h₂) in
    rw e (
      few i (omega arith) (omega arith),
      few (i + 1) (omega arith) (omega arith),
      few (i + 2) (omega arith) (omega arith),
      few (i + 3) (omega arith) (omega arith),
    )

-- the frame after a run, by the extent that was found
pub painted-as : {next : Frame} {r : Advance} {l₁ l₂ : List ℕ} {e : Extent} {ink : ℕ} (f : Frame) (g : Ground) (w h : ℕ) (bytes : List ℕ) (i : ℕ)
    (l : List ℕ)
    → l₁ ≡ area_grown f g w h l
    → Laid g.stride f.pen.column f.pen.row f.pen.color bytes i f.pen.repeat ink l₁ l₂
    → e ≡ run_extent f.extent f.pen.column f.pen.row bytes i f.pen.repeat
    → next ≡ passed_to f (record { right = e.right; bottom = e.bottom }) w h → r ≡ advance_to next false (i + f.pen.repeat) ink
    → (r ≡ run_advance f w h bytes i) × (l₂ ≡ run_canvas f g w h bytes i l)
unfolding run_advance ran run_canvas
painted-as f g w h bytes i l e₁ e₂ x e₃ e₄ =
    let after = e₃ ∙ ap (λ (y : Extent). passed_to f y w h) x in (
      e₄ ∙ ap₂ (λ (y : Frame) (z : ℕ). advance_to y false (i + f.pen.repeat) z) after e₂.inked,
      e₂.canvas ∙ ap (run_painted g.stride f.pen.column f.pen.row f.pen.color bytes i f.pen.repeat) e₁,
    )

-- ---- a run on the visible area as it is

-- an area that did not grow
pub still-grown : (f : Frame) (g : Ground) (l : List ℕ) → area_grown f g f.area.width f.area.height l ≡ l
unfolding area_grown
still-grown f g l = grown-none g.stride (area_of f.area.width f.area.height) g.background l

pub visible-advances : {whole next : Frame} {l l' : List ℕ} {r : Advance} {e : Extent} {ink : ℕ} (f : Frame) (g : Ground) (bytes : List ℕ) (i n : ℕ)
    → Fits f g (length l) → f.command.kind ≡ kinds.Data → f.pen.repeat ≡ 1 → 1 ≤ n
    → f.pen.column + n ≤ f.area.width → f.pen.row + 6 ≤ f.area.height
    → Laid g.stride f.pen.column f.pen.row f.pen.color bytes i n ink l l'
    → e ≡ run_extent whole.extent whole.pen.column whole.pen.row bytes i whole.pen.repeat
    → whole ≡ planned f n → next ≡ passed_to whole (record { right = e.right; bottom = e.bottom }) f.area.width f.area.height
    → r ≡ advance_to next false (i + n) ink
    → (p : Palette) (left : ℕ) → 6 * n ≤ left → Advances g bytes i left f p l r p l'
unfolding planned with_repeat
visible-advances {l = l} {e = e} f g bytes i n fits none once some columns rows laid x plan e₃ e₄ =
    let w : ℕ = f.area.width in
    let h : ℕ = f.area.height in
    let area : sized w h ≡ sixel_area (planned f n).pen (planned f n).area g =
    sixel-visible (planned f n).pen f.area g (sym (and_both (le-leb _ _ columns) (le-leb _ _ rows))) refl
    in
    painted-advances f g bytes i n w h refl fits none once laid.sixels some area refl
    (painted-as (planned f n) g w h bytes i l (sym (still-grown (planned f n) g l)) laid
    (x ∙ ap (λ (z : Frame). run_extent z.extent z.pen.column z.pen.row bytes i z.pen.repeat) plan)
    (e₃ ∙ ap (λ (z : Frame). passed_to z (record { right = e.right; bottom = e.bottom }) w h) plan) e₄)

-- it ends below what a number can hold, by the frame and by the one that is planned
pub visible-room : (f : Frame) (g : Ground) (n room : ℕ) → Fits f g room → room < 18446744073709551616
    → f.pen.column + n ≤ f.area.width → f.pen.row + 6 ≤ f.area.height
    → (f.pen.column + n < 18446744073709551616) × (f.pen.row + 6 < 18446744073709551616)
visible-room f g n room fits small columns rows =
    let one : 1 ≤ rows_of room g.stride = omega (arith, fits.rows, fits.height) in
    (omega (arith, fits.width, rows-room room g.stride 1 one), omega (arith, fits.rows, fits.height, rows_few room g.stride))

pub planned-run : {whole : Frame} (f : Frame) (bytes : List ℕ) (i n most : ℕ) → whole ≡ planned f n → Sixels bytes i (i + n)
    → (f.pen.column + n < most) × (f.pen.row + 6 < most)
    → Sixels bytes i (i + whole.pen.repeat) × (whole.pen.column + whole.pen.repeat < most) × (whole.pen.row + 6 < most)
unfolding planned with_repeat
planned-run f bytes i n most plan s room = rw plan (s, room.0, room.1)
