-- Laws of a step: what its functions ask of their callees, and the paths that the fast machine's laws go too.
use Prim.Native.Nat.{ℕ, ◌+◌, ◌-◌, ◌*◌, ◌≤◌, ◌<◌, max}
use mathlib.Core.Bool.{Bool, true, false, ◌&&◌}
use mathlib.Core.List.{List}
use mathlib.Core.Path.{◌≡◌, refl, sym, ap, ap₂, ◌∙◌}
use native.Mathlib.Nat.{mul-le-mul_right}
use native.Mathlib.Omega.{arith}
use borrow.Author.Tests.{le-ltb, eq-eqb, ne_eqb, leb-true}
use lib.Count.{ones, ones-le}
use lib.Dec.{leb, ltb, eqb}
use Rattle.numbers.specs.Bytes.{sixel, ends, between}
use Rattle.numbers.proofs.Laws.{cond_yes, cond_no}
use Rattle.colours.specs.declared.Palette.{Palette}
use Rattle.canvas.specs.Picture.{depth, rows_of}
use Rattle.canvas.specs.Paint.{sixel_painted}
use Rattle.canvas.proofs.Covers.{and_left, and_right, by-test}
use Rattle.canvas.proofs.Depth.{depth-bits}
use Rattle.canvas.proofs.Grid.{rows-room}
use Rattle.frame.specs.declared.Extent.{Extent}
use Rattle.frame.specs.declared.Frame.{Frame}
use Rattle.frame.specs.declared.Ground.{Ground}
use Rattle.frame.specs.declared.Kind.{Kind}
use Rattle.frame.specs.declared.Kind.TheVariants as kinds
use Rattle.frame.specs.declared.Outcome.TheVariants as outcomes
use Rattle.frame.specs.declared.Pen.{Pen}
use Rattle.frame.specs.declared.Progress.{Progress}
use Rattle.frame.specs.declared.Raster.{Raster}
use Rattle.frame.specs.declared.Refusal.{Refusal}
use Rattle.frame.specs.declared.VisibleArea.{VisibleArea}
use Rattle.std.specs.Prelude.{Result, Ok, Err}
use Rattle.frame.specs.Sizes.{raster_area, sixel_area}
use Rattle.frame.specs.Commands.{settled_as, unread_as, refused_as, repeat_ended, color_ended_by, finished_of, raster_by, raster_grown, raster_ended_by, Ended, ended_in, ended}
use Rattle.reference.specs.Step.{Reached, Fits, Holds, read_as, area_grown, painted_to, inked, canvas_after, painted_on, drawn_in, drawn_by, own_of, data_step, settled_step, step_in, step_of}
use Rattle.frame.proofs.SizeLaws.{Roomy, raster-roomy, sixel-roomy}

-- ---- a sixel

-- six bits of which none is 1 have no depth, and others have one
pub to-nowhere : (bits end : ℕ) → bits < 64 → bits ≡ 0 → 0 ≡ painted_to bits end
unfolding painted_to
to-nowhere bits end six e = sym (cond_yes _ _ (eq-eqb (depth 6 bits) 0 (omega (arith, depth-bits bits six))))

pub to_end : (bits end : ℕ) → bits < 64 → (bits ≡ 0 → ⊥) → end ≡ painted_to bits end
unfolding painted_to
to_end bits end six n = sym (cond_no _ _ (ne_eqb (depth 6 bits) 0 (λ (e : depth 6 bits ≡ 0). n (omega (arith, (depth-bits bits six).1)))))

pub to-most : (bits end : ℕ) → painted_to bits end ≤ end
unfolding painted_to
to-most bits end = by-test (eqb (depth 6 bits) 0) (λ t. rw t (omega arith)) (λ t. rw t (omega arith))

-- a side of the extent, its right or its bottom: a blank sixel keeps it, and any other takes the larger of it and the sixel's end. Where that is these
-- laws do not say, so that a wrong end breaks the contract of the function that works it out
pub side-blank : (side bits end : ℕ) → bits < 64 → bits ≡ 0 → side ≡ max side (painted_to bits end)
side-blank side bits end six e = let none = to-nowhere bits end six e in omega arith

pub side-inked : {r : ℕ} (side bits end : ℕ) → bits < 64 → (bits ≡ 0 → ⊥) → r ≡ max side end → r ≡ max side (painted_to bits end)
side-inked side bits end six n e = e ∙ ap (max side) (to_end bits end six n)

-- the same where the number of the sixel's rows has been told
pub rows-inked : {r told : ℕ} (bottom bits row rows : ℕ) → bits < 64 → (bits ≡ 0 → ⊥) → told ≡ rows → r ≡ max bottom (row + told)
    → r ≡ max bottom (painted_to bits (row + rows))
rows-inked bottom bits row rows six n k e = side-inked bottom bits (row + rows) six n (e ∙ ap (λ (x : ℕ). max bottom (row + x)) k)

-- the ink of a sixel that has room is at most the canvas's bytes
pub ink-room : (f : Frame) (g : Ground) (bits w h n : ℕ) → bits < 256 → Fits f g n → Holds f g w h → ones bits * f.pen.repeat ≤ n
ink-room f g bits w h n small fits holds =
    let few : ones bits ≤ 8 = ones-le 8 bits small in
    let six : 6 ≤ rows_of n g.stride = omega (arith, fits.rows, holds.six_rows, holds.height) in
    let columns : f.pen.repeat ≤ g.stride = omega (arith, holds.columns, holds.width) in
    omega (arith, mul-le-mul_right f.pen.repeat few, rows-room n g.stride 6 six)

-- the sixel has room on a canvas that is as long
pub sixel-room : (f : Frame) (g : Ground) (w h n m : ℕ) → m ≡ n → Fits f g n → Holds f g w h
    → (f.pen.column + f.pen.repeat ≤ g.stride) × (f.pen.row + 6 ≤ rows_of m g.stride)
sixel-room f g w h n m e fits holds =
    (omega (arith, holds.columns, holds.width), rw e (omega (arith, fits.rows, holds.six_rows, holds.height)))

-- growing to the area that holds it is what growing asks
pub held-room : (f : Frame) (g : Ground) (w h n : ℕ) → Fits f g n → Holds f g w h
    → (f.area.width ≤ w) × (w ≤ g.stride) × (f.area.height ≤ h) × (h ≤ rows_of n g.stride)
held-room f g w h n fits holds = (holds.wider, holds.width, holds.higher, omega (arith, holds.height, fits.rows))

pub put_as : {l₁ l₂ : List ℕ} (f : Frame) (g : Ground) (bits w h : ℕ) (l : List ℕ)
    → l₁ ≡ area_grown f g w h l
    → l₂ ≡ sixel_painted g.stride f.pen.column f.pen.row f.pen.repeat bits f.pen.color l₁
    → l₂ ≡ canvas_after f g bits w h l
unfolding canvas_after
put_as f g bits w h l e k = k ∙ ap (sixel_painted g.stride f.pen.column f.pen.row f.pen.repeat bits f.pen.color) e

pub painted-read : {s : Progress} {next : Frame} {l₁ : List ℕ} (f : Frame) (g : Ground) (bits left w h : ℕ) (p : Palette) (l : List ℕ)
    → ones bits * f.pen.repeat ≤ left → l₁ ≡ canvas_after f g bits w h l
    → next ≡ inked f bits w h → s ≡ read_as next (ones bits * f.pen.repeat)
    → ◌≡◌ {A = Reached} (record { progress = s; palette = p; canvas = l₁ }) (painted_on f g bits left w h p l)
unfolding painted_on
painted-read f g bits left w h p l k e n r =
    ap₂
    (λ (x : Progress) (y : List ℕ). record { progress = x; palette = p; canvas = y })
    (r ∙ ap (λ (x : Frame). read_as x (ones bits * f.pen.repeat)) n)
    e
    ∙ sym (cond_no _ _ (le-ltb _ _ k))

-- the area that a sixel needs holds it
pub needed-holds : {x : Result VisibleArea Refusal} (f : Frame) (g : Ground) (n w h : ℕ) → Fits f g n → x ≡ sixel_area f.pen f.area g
    → x ≡ Ok (record { width = w; height = h })
    → Fits f g n × Holds f g w h
needed-holds f g n w h fits e k =
    let r = sixel-roomy f.pen f.area g w h fits.width fits.height (sym e ∙ k) in (
      fits,
      record {
        wider = r.0.wider;
        higher = r.0.higher;
        columns = r.1;
        six_rows = r.2;
        width = r.0.width;
        height = r.0.height;
      },
    )

pub drawn-area : {x : Result VisibleArea Refusal} {t : Reached} {w h : ℕ} (f : Frame) (g : Ground) (bits left : ℕ) (p : Palette) (l : List ℕ)
    → x ≡ sixel_area f.pen f.area g → x ≡ Ok (record { width = w; height = h }) → t ≡ painted_on f g bits left w h p l
    → t ≡ drawn_by f g bits left p l
unfolding drawn_by drawn_in
drawn-area f g bits left p l needed k e = e ∙ ap (λ (y : Result VisibleArea Refusal). drawn_in y f g bits left p l) (sym k ∙ needed)

-- ---- a byte while no command is pending

pub sixel-least : {t : Bool} (b : ℕ) → t ≡ sixel b → t ≡ true → 63 ≤ b
unfolding sixel between
sixel-least b e t = leb-true 63 b (and_left (leb 63 b) (leb b 126) (sym e ∙ t))

pub sixel-bits : (b : ℕ) → sixel b ≡ true → b - 63 < 64
unfolding sixel between
sixel-bits b t = omega (arith, leb-true 63 b (and_left (leb 63 b) (leb b 126) t), leb-true b 126 (and_right (leb 63 b) (leb b 126) t))

module _ (f : Frame) (g : Ground) (b left : ℕ) (p : Palette) (l : List ℕ) {s : Bool} (drawn : s ≡ sixel b) where
  pub data-sixel : {t : Reached} → s ≡ true → t ≡ drawn_by f g (b - 63) left p l → t ≡ data_step f g b left p l
  unfolding data_step
  data-sixel h k = k ∙ sym (cond_yes _ _ (sym drawn ∙ h))

  module _ {e : Bool} (no : s ≡ false) (ending : e ≡ ends b) where
    pub data-own : {r : Progress} {next : Frame} → e ≡ false → next ≡ own_of f b → r ≡ read_as next 0
        → ◌≡◌ {A = Reached} (record { progress = r; palette = p; canvas = l }) (data_step f g b left p l)
    unfolding data_step
    data-own h k m =
        ap (λ (x : Progress). record { progress = x; palette = p; canvas = l }) (m ∙ ap (λ (x : Frame). read_as x 0) k)
        ∙ sym (cond_no _ _ (sym drawn ∙ no) ∙ cond_no _ _ (sym ending ∙ h))

-- ---- a byte while a command is pending

-- the visible area as it was, where it has room
pub same-roomy : (f : Frame) (g : Ground) (n : ℕ) → Fits f g n → Roomy f.area g f.area.width f.area.height
same-roomy f g n fits = record { wider = omega arith; higher = omega arith; width = fits.width; height = fits.height }

-- a byte of an argument: the area has room and holds the one before, no ink is spent, and where the byte ended the command
-- and is still to be read, none is pending
pub record Ends (f : Frame) (g : Ground) (s : Progress) : Type 0 where
  pub roomy : Roomy f.area g s.frame.area.width s.frame.area.height
  pub ink : s.ink ≡ 0
  pub few : s.consumed ≤ 1
  pub settled : s.outcome ≡ outcomes.Read → s.consumed ≡ 0 → s.frame.command.kind ≡ kinds.Data

settled-ends : (f : Frame) (g : Ground) (p : Pen) (a : VisibleArea) (x : Extent) (r : Raster) (h : ℕ) → Roomy f.area g a.width a.height
    → Ends f g (settled_as p a x r h)
unfolding settled_as
settled-ends f g p a x r h k = record { roomy = k; ink = refl; few = omega arith; settled = λ e none. refl }

refused-ends : (f : Frame) (g : Ground) (r : Refusal) (n : ℕ) → Fits f g n → Ends f g (refused_as f r)
unfolding refused_as unread_as
refused-ends f g r n fits = record { roomy = same-roomy f g n fits; ink = refl; few = omega arith; settled = λ e none. cc }

repeat-ends : (f : Frame) (g : Ground) (n : ℕ) → Fits f g n → Ends f g (repeat_ended f g)
unfolding repeat_ended
repeat-ends f g n fits =
    by-test (ltb g.limits.repeats f.command.number)
    (λ t. rw t (refused-ends f g _ n fits))
    (λ t. rw t (settled-ends f g _ _ _ _ _ (same-roomy f g n fits)))

needed-ends : (f : Frame) (g : Ground) (r : Raster) (x : Result VisibleArea Refusal) (n a b : ℕ) → Fits f g n → raster_area f.area g a b ≡ x
    → Ends f g (raster_grown f r x)
unfolding raster_grown
needed-ends f g r (Ok s) n a b fits e = settled-ends f g _ _ _ r _ (raster-roomy f.area g a b s.width s.height e)
needed-ends f g r (Err y) n a b fits e = refused-ends f g y n fits

raster-ends : (f : Frame) (g : Ground) (r : Raster) (n : ℕ) → Fits f g n → Ends f g (raster_ended_by f g r)
unfolding raster_ended_by
raster-ends f g r n fits =
    by-test (eqb r.width 0 && eqb r.height 0)
    (λ t. rw t (settled-ends f g _ _ _ r _ (same-roomy f g n fits)))
    (λ t. rw t (needed-ends f g r _ n _ _ fits refl))

ended-in : (k : Kind) (f : Frame) (g : Ground) (p : Palette) (n : ℕ) → Fits f g n → Ends f g (ended_in k f g p).progress
unfolding ended_in color_ended_by
ended-in kinds.Data f g p n fits = settled-ends f g _ _ _ _ _ (same-roomy f g n fits)
ended-in kinds.Repeat f g p n fits = repeat-ends f g n fits
ended-in kinds.Color f g p n fits = settled-ends f g _ _ _ _ _ (same-roomy f g n fits)
ended-in kinds.Raster f g p n fits = raster-ends f g (raster_by f.raster (finished_of f)) n fits

pub ended-ends : (f : Frame) (g : Ground) (p : Palette) (n : ℕ) → Fits f g n → Ends f g (ended f g p).progress
unfolding ended
ended-ends f g p n fits = ended-in f.command.kind f g p n fits

-- what growing to it asks
pub settle-room : {s : Progress} {q : Palette} (f : Frame) (g : Ground) (p : Palette) (n : ℕ) → Fits f g n → record { progress = s; palette = q } ≡ ended f g p
    → (f.area.width ≤ s.frame.area.width)
    × (s.frame.area.width ≤ g.stride)
    × (f.area.height ≤ s.frame.area.height)
    × (s.frame.area.height ≤ rows_of n g.stride)
settle-room {s} f g p n fits e =
    let k : Ends f g s = rw (← ap (λ (x : Ended). x.progress) e) at (ended-ends f g p n fits) in
    (k.roomy.wider, k.roomy.width, k.roomy.higher, omega (arith, k.roomy.height, fits.rows))

pub settled-as : {s : Progress} {q : Palette} {l₁ : List ℕ} (f : Frame) (g : Ground) (p : Palette) (l : List ℕ)
    → record { progress = s; palette = q } ≡ ended f g p → l₁ ≡ area_grown f g s.frame.area.width s.frame.area.height l
    → ◌≡◌ {A = Reached} (record { progress = s; palette = q; canvas = l₁ }) (settled_step f g p l)
unfolding settled_step
settled-as {s} {q} f g p l e k =
    ap (λ (x : List ℕ). record { progress = s; palette = q; canvas = x }) k
    ∙ ap
    (λ (x : Ended).
    record {
      progress = x.progress;
      palette = x.palette;
      canvas = area_grown f g x.progress.frame.area.width x.progress.frame.area.height l;
    })
    e

-- ---- either

module _ (f : Frame) (g : Ground) (b left : ℕ) (p : Palette) (l : List ℕ) {t : Reached} where
  pub step-data : f.command.kind ≡ kinds.Data → t ≡ data_step f g b left p l → t ≡ step_of f g b left p l
  unfolding step_of step_in
  step-data k e = e ∙ ap (λ (j : Kind). step_in j f g b left p l) (sym k)

pub ruleset extents = (side-blank, side-inked, rows-inked)
