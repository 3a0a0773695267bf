-- Laws of a run: so many sixels side by side, painted on an area that was grown at once, come to as many steps of the reference machine.
use Prim.Native.Nat.{ℕ, zero, suc, ◌+◌, ◌-◌, ◌*◌, ◌≤◌, ◌<◌, max}
use mathlib.Core.Bool.{true}
use mathlib.Core.List.{List}
use mathlib.Core.Path.{◌≡◌, refl, sym, ap, ap₂, ◌∙◌, subst}
use native.Mathlib.Nat.{add-zero}
use native.Mathlib.Omega.{arith}
use lib.Count.{ones, ones-le}
use lib.ListN.{length, get_or}
use Rattle.numbers.specs.Bytes.{sixel}
use Rattle.colours.specs.declared.Palette.{Palette}
use Rattle.canvas.specs.Picture.{Stroke, Area, area_of, inside}
use Rattle.canvas.specs.Paint.{grown, sixel_painted}
use Rattle.canvas.proofs.Bytes.{length-painted}
use Rattle.canvas.proofs.Pictures.{grown-stroked, grown-twice}
use Rattle.canvas.proofs.Shows.{sixel-stroked}
use Rattle.canvas.proofs.Strokes.{Within, inside-in}
use Rattle.frame.specs.declared.Frame.{Frame}
use Rattle.frame.specs.declared.Ground.{Ground}
use Rattle.frame.specs.declared.Kind.TheVariants as kinds
use Rattle.frame.specs.Sizes.{sized, sixel_area}
use Rattle.frame.specs.Commands.{with_repeat}
use Rattle.reference.specs.Step.{Reached, read_as, area_grown, pen_after, extent_after, passed_to, inked, canvas_after}
use Rattle.fast.specs.Run.{Sixels, planned, run_ink, run_painted, run_right, run_bottom, run_extent, ran}
use Rattle.frame.proofs.SizeLaws.{sixel-reach, sixel-part}
use Rattle.reference.proofs.StepLaws.{sixel-bits, painted-read, drawn-area, data-sixel, step-data}
use Rattle.reference.proofs.FeedLaws.{Going, going-read}
use Rattle.fast.proofs.ReachLaws.{sixels-fewer}

-- ---- the ink of sixels

pub sixel-ones : (b : ℕ) → sixel b ≡ true → ones (b - 63) ≤ 6
sixel-ones b t = ones-le 6 (b - 63) (sixel-bits b t)

pub ink-few : (bytes : List ℕ) (i n : ℕ) → Sixels bytes i (i + n) → run_ink bytes i n ≤ 6 * n
unfolding run_ink
ink-few bytes i zero s = omega arith
ink-few bytes i (suc n) s =
    omega (arith, ink-few bytes i n (sixels-fewer bytes i n s), sixel-ones (get_or bytes (i + n) 0) (s.each (i + n) (omega arith) (omega arith)))

-- ---- one step

pub kept-canvas : (f : Frame) (g : Ground) (bits w h : ℕ) (l : List ℕ) → length (canvas_after f g bits w h l) ≡ length l
unfolding canvas_after area_grown sixel_painted grown
kept-canvas f g bits w h l = length-painted _ _ _ ∙ length-painted _ _ l

module _ {g : Ground} {allowance : ℕ} {bytes : List ℕ} {whole : Reached} {room : ℕ} {p : Palette} where
  going-sixel : {l : List ℕ} {f : Frame} {i spent : ℕ} (w h : ℕ) → Going g allowance bytes whole room p l f i spent → f.command.kind ≡ kinds.Data
      → f.pen.repeat ≡ 1
      → i < length bytes → sixel (get_or bytes i 0) ≡ true → sixel_area f.pen f.area g ≡ sized w h → spent + 6 ≤ allowance
      → Going g allowance bytes whole room p (canvas_after f g (get_or bytes i 0 - 63) w h l) (inked f (get_or bytes i 0 - 63) w h) (i + 1)
      (spent + ones (get_or bytes i 0 - 63) * f.pen.repeat)
  unfolding read_as
  going-sixel {l} {f} {i} {spent} w h going none once more six area enough =
      let b : ℕ = get_or bytes i 0 in
      let left : ℕ = allowance - spent in
      let few : ones (b - 63) * f.pen.repeat ≤ left = rw once (omega (arith, sixel-ones b six)) in
      let drawn = drawn-area f g (b - 63) left p l refl area (painted-read f g (b - 63) left w h p l few refl refl refl) in
      going-read going (step-data f g b left p l none (data-sixel f g b left p l refl six drawn))
      more
      (kept-canvas f g (b - 63) w h l)
      refl
      refl

  pub going-as : {l l' : List ℕ} {f f' : Frame} {i i' spent spent' : ℕ} → l ≡ l' → f ≡ f' → i ≡ i' → spent ≡ spent'
      → Going g allowance bytes whole room p l f i spent → Going g allowance bytes whole room p l' f' i' spent'
  going-as {l' = l'} {f = f} {f' = f'} {i = i} {i' = i'} {spent = spent} e₁ e₂ e₃ e₄ going =
      subst (λ (x : ℕ). Going g allowance bytes whole room p l' f' i' x) e₄
      (subst (λ (x : ℕ). Going g allowance bytes whole room p l' f' x spent) e₃
      (subst (λ (x : Frame). Going g allowance bytes whole room p l' x i spent) e₂
      (subst (λ (x : List ℕ). Going g allowance bytes whole room p x f i spent) e₁ going)))

-- ---- so many steps

-- growing commutes with a run in the area that grows
grown-run : (stride column row : ℕ) (px bytes : List ℕ) (i n : ℕ) (old new : Area) (background l : List ℕ) → column + n ≤ old.width → row + 6 ≤ old.height
    → grown stride old new background (run_painted stride column row px bytes i n l)
    ≡ run_painted stride column row px bytes i n (grown stride old new background l)
unfolding run_painted
grown-run stride column row px bytes i zero old new background l w h = refl
grown-run stride column row px bytes i (suc n) old new background l w h =
    let s : Stroke = record { column = column + n; row = row; repeat = 1; bits = get_or bytes (i + n) 0 - 63; colour = px; register = 0 } in
    let m : List ℕ = run_painted stride column row px bytes i n l in
    let in-old : inside old s ≡ true = inside-in old s (omega arith) h in
    ap (grown stride old new background) (sixel-stroked stride s m)
    ∙ grown-stroked stride old new background s m in-old
    ∙ sym (sixel-stroked stride s _)
    ∙ ap (sixel_painted stride (column + n) row 1 (get_or bytes (i + n) 0 - 63) px) (grown-run stride column row px bytes i n old new background l (omega arith) h)

-- the area, the frame and the canvas after so many sixels
abbrev pub wide : Frame → ℕ → ℕ
wide f n = max f.area.width (f.pen.column + n)

abbrev pub high : Frame → ℕ
high f = max f.area.height (f.pen.row + 6)

unfoldable pub ran_frame : Frame → List ℕ → ℕ → ℕ → Frame
unfolding ran planned
ran_frame f bytes i n = ran (planned f n) (wide f n) (high f) bytes i

unfoldable pub ran_canvas : Frame → Ground → List ℕ → ℕ → ℕ → List ℕ → List ℕ
ran_canvas f g bytes i n l =
    run_painted g.stride f.pen.column f.pen.row f.pen.color bytes i n
    (area_grown f g (wide f n) (high f) l)

frame_same : (f : Frame) {c c' w w' h h' r r' b b' : ℕ} → c ≡ c' → w ≡ w' → h ≡ h' → r ≡ r' → b ≡ b'
    → ◌≡◌ {A = Frame}
    (record {
      pen = record { column = c; row = f.pen.row; repeat = 1; register = f.pen.register; color = f.pen.color };
      area = record { width = w; height = h };
      extent = record { right = r; bottom = b };
      raster = f.raster;
      held = f.held;
      command = f.command;
    })
    (record {
      pen = record { column = c'; row = f.pen.row; repeat = 1; register = f.pen.register; color = f.pen.color };
      area = record { width = w'; height = h' };
      extent = record { right = r'; bottom = b' };
      raster = f.raster;
      held = f.held;
      command = f.command;
    })
frame_same f e₁ e₂ e₃ e₄ e₅ = rw (e₁, e₂, e₃, e₄, e₅)

-- the first sixel, and one sixel more
first_frame : (f : Frame) (bytes : List ℕ) (i : ℕ) → f.pen.repeat ≡ 1
    → inked f (get_or bytes i 0 - 63) (max f.area.width (f.pen.column + f.pen.repeat)) (high f) ≡ ran_frame f bytes i 1
unfolding ran_frame ran inked passed_to planned with_repeat pen_after extent_after run_extent run_right run_bottom
first_frame f bytes i once =
    frame_same f (rw once) (rw once) refl (rw (once, add-zero i, add-zero f.pen.column)) (rw (add-zero i))

next-frame : (f : Frame) (bytes : List ℕ) (i n : ℕ)
    → inked (ran_frame f bytes i n) (get_or bytes (i + n) 0 - 63) (max (wide f n) (f.pen.column + n + 1)) (max (high f) (f.pen.row + 6))
    ≡ ran_frame f bytes i (suc n)
unfolding ran_frame ran inked passed_to planned with_repeat pen_after extent_after run_extent run_right run_bottom
next-frame f bytes i n = frame_same f (omega arith) (omega arith) (omega arith) refl refl

first-canvas : (f : Frame) (g : Ground) (bytes : List ℕ) (i : ℕ) (l : List ℕ) → f.pen.repeat ≡ 1
    → canvas_after f g (get_or bytes i 0 - 63) (max f.area.width (f.pen.column + f.pen.repeat)) (high f) l ≡ ran_canvas f g bytes i 1 l
unfolding canvas_after area_grown ran_canvas run_painted
first-canvas f g bytes i l once = rw (once, add-zero i, add-zero f.pen.column)

next-canvas : (f : Frame) (g : Ground) (bytes : List ℕ) (i n : ℕ) (l : List ℕ)
    → canvas_after (ran_frame f bytes i n) g (get_or bytes (i + n) 0 - 63) (max (wide f n) (f.pen.column + n + 1)) (max (high f) (f.pen.row + 6))
    (ran_canvas f g bytes i n l)
    ≡ ran_canvas f g bytes i (suc n) l
unfolding canvas_after area_grown ran_canvas run_painted ran_frame ran passed_to planned with_repeat pen_after
next-canvas f g bytes i n l =
    let old : Area = area_of f.area.width f.area.height in
    let mid : Area = area_of (wide f n) (high f) in
    let new : Area = area_of (max (wide f n) (f.pen.column + n + 1)) (max (high f) (f.pen.row + 6)) in
    let same : new ≡ area_of (wide f (suc n)) (high f) = ap₂ area_of (omega arith) (omega arith) in
    let v : Within old mid = record { columns = omega arith; rows = omega arith } in
    let w : Within mid new = record { columns = omega arith; rows = omega arith } in
    ap (sixel_painted g.stride (f.pen.column + n) f.pen.row 1 (get_or bytes (i + n) 0 - 63) f.pen.color)
    (grown-run g.stride f.pen.column f.pen.row f.pen.color bytes i n mid new g.background _ (omega arith) (omega arith)
    ∙ ap (run_painted g.stride f.pen.column f.pen.row f.pen.color bytes i n)
    (grown-twice g.stride old mid new g.background l v w ∙ ap (λ (a : Area). grown g.stride old a g.background l) same))

-- so many sixels of a run lead as far as they do one by one
module _ {g : Ground} {allowance : ℕ} {bytes : List ℕ} {whole : Reached} {room : ℕ} {p : Palette} {l : List ℕ} {f : Frame} {i spent : ℕ}
    (going : Going g allowance bytes whole room p l f i spent) (all : ℕ) (none : f.command.kind ≡ kinds.Data) (once : f.pen.repeat ≡ 1)
    (sixels : Sixels bytes i (i + all)) (enough : spent + 6 * all ≤ allowance) {w h : ℕ}
    (area : sixel_area (with_repeat f.pen all) f.area g ≡ sized w h) where
  pub run-going : (n : ℕ) → n < all
      → Going g allowance bytes whole room p (ran_canvas f g bytes i (suc n) l) (ran_frame f bytes i (suc n)) (i + suc n) (spent + run_ink bytes i (suc n))
  unfolding ran_frame ran passed_to planned with_repeat pen_after run_ink
  run-going zero more =
      let six : sixel (get_or bytes i 0) ≡ true = sixels.each i (omega arith) (omega arith) in
      let r = sixel-reach (with_repeat f.pen all) f.area g w h area in
      going-as (first-canvas f g bytes i l once) (first_frame f bytes i once) refl (rw (once, add-zero i) (omega arith))
      (going-sixel _ _ going none once (omega (arith, sixels.within)) six
      (sixel-part (with_repeat f.pen all) f.pen f.area f.area g w h area refl (omega arith) (omega arith) (omega (arith, r.0))
      (omega arith)
      (omega (arith, r.1)))
      (omega arith))
  run-going (suc n) more =
      let before = run-going n (omega arith) in
      let six : sixel (get_or bytes (i + suc n) 0) ≡ true = sixels.each (i + suc n) (omega arith) (omega arith) in
      let s : Sixels bytes i (i + suc n) = record { within = omega (arith, sixels.within); each = λ k h₁ h₂. sixels.each k h₁ (omega arith) } in
      let r = sixel-reach (with_repeat f.pen all) f.area g w h area in
      let x : wide f (suc n) ≤ w = omega (arith, r.0) in
      let y : high f ≤ h = omega (arith, r.1) in
      going-as (next-canvas f g bytes i (suc n) l) (next-frame f bytes i (suc n)) (omega arith) (omega arith)
      (going-sixel _ _ before none refl (omega (arith, sixels.within)) six
      (sixel-part (with_repeat f.pen all) (ran_frame f bytes i (suc n)).pen f.area (ran_frame f bytes i (suc n)).area g w h area refl (omega arith)
      (omega arith)
      x
      (omega arith)
      y)
      (omega (arith, ink-few bytes i (suc n) s)))
