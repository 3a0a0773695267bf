-- The definitions that give an answer's number and values are injective: each has a left inverse, so equal meanings are equal answers.
use Rattle.std.specs.Prelude.{Ok, Err, Some, None}
use Prim.Native.Nat.{ℕ}
use mathlib.Core.Bool.{Bool, cond}
use mathlib.Core.Option.{Option, none, some}
use mathlib.Core.List.{List}
use mathlib.Core.Path.{◌≡◌, refl, sym, ap, ap₂, ◌∙◌}
use lib.Dec.{eqb}
use Rattle.colours.specs.declared.Palette.{Palette}
use Rattle.colours.specs.Palette.{of_table}
use Rattle.canvas.specs.Copy as copying
use Rattle.std.specs.Prelude.{Result, Ok, Err}
use Rattle.canvas.specs.declared.Uncopied.{Uncopied}
use Rattle.canvas.specs.declared.Uncopied.TheVariants.{Misfit, Short}
use Rattle.frame.specs.Numbers.{number_of}
use Rattle.frame.specs.declared.Refusal.{Refusal}
use Rattle.frame.specs.declared.Refusal.TheVariants.{Introducer, HeaderEnded, HeaderByte, Repeat, Size, Pixels, Room, Unfinished, Failed, FinalSize, Opening, Canvas, Allowance, Buffer}
use Rattle.meaning.specs.Payload as meant
use Rattle.payload.specs.declared.Finished.{Finished}
use Rattle.payload.specs.Results.{Finishing, Given}
use Rattle.payload.specs.declared.Ratio.{Ratio}
use Rattle.payload.specs.declared.Ratio.TheVariants as ratios
use Rattle.payload.specs.declared.Report.{Report}
use Rattle.payload.specs.Meant.{given_meant, ratio_meant, report_meant, finish_meant}
use Rattle.oneshot.specs.OneShot.{Read, read_meant}

-- with a way back, what is told is known
pub known : {A B : Type 0} {f : A → B} (back : B → A) → ((x : A) → back (f x) ≡ x) → {x y : A} → f x ≡ f y → x ≡ y
known back law {x} {y} e = sym (law x) ∙ ap back e ∙ law y

-- two parts that are equal make equal pairs
pub pair : {A B : Type 0} {x y : A} {u v : B} → x ≡ y → u ≡ v → let p : A × B = (x, u) in let q : A × B = (y, v) in p ≡ q
pair e f = ap₂ (λ a b. (a, b)) e f

-- ---- a refusal by its number

refusal_at : ℕ → Refusal
refusal_at n =
    cond (eqb n 1) Introducer (cond (eqb n 2) HeaderEnded (cond (eqb n 3) HeaderByte (cond (eqb n 4) Repeat
    (cond (eqb n 5) Size (cond (eqb n 6) Pixels (cond (eqb n 7) Room (cond (eqb n 8) Unfinished
    (cond (eqb n 9) Failed (cond (eqb n 10) FinalSize (cond (eqb n 11) Opening (cond (eqb n 12) Canvas
    (cond (eqb n 13) Allowance Buffer))))))))))))

refusal-back : (n : Refusal) → refusal_at (number_of n) ≡ n
unfolding number_of refusal_at
refusal-back Introducer = refl
refusal-back HeaderEnded = refl
refusal-back HeaderByte = refl
refusal-back Repeat = refl
refusal-back Size = refl
refusal-back Pixels = refl
refusal-back Room = refl
refusal-back Unfinished = refl
refusal-back Failed = refl
refusal-back FinalSize = refl
refusal-back Opening = refl
refusal-back Canvas = refl
refusal-back Allowance = refl
refusal-back Buffer = refl

-- Each number is given to one refusal.
pub refusal-known : {x y : Refusal} → number_of x ≡ number_of y → x ≡ y
refusal-known = known refusal_at refusal-back

-- ---- the answer of a copy

copied_at : ℕ → Result (Unit {0}) Uncopied
copied_at n = cond (eqb n 0) (Ok tt) (cond (eqb n 12) (Err Misfit) (Err Short))

copied-back : (c : Result (Unit {0}) Uncopied) → copied_at (copying.number_of c) ≡ c
unfolding copying.number_of copied_at
copied-back (Ok _) = refl
copied-back (Err Misfit) = refl
copied-back (Err Short) = refl

-- The number of a copy's answer and the bytes after it say which answer it was.
pub copied-known : {x y : Result (Unit {0}) Uncopied} {l m : List ℕ} → let a : ℕ × List ℕ = (copying.number_of x, l) in let b : ℕ × List ℕ = (copying.number_of y, m) in a ≡ b
    → let c : Result (Unit {0}) Uncopied × List ℕ = (x, l) in let d : Result (Unit {0}) Uncopied × List ℕ = (y, m) in c ≡ d
copied-known {x} {y} {l} {m} e = pair (known copied_at copied-back (ap (λ (a : ℕ × List ℕ). a.0) e)) (ap (λ (a : ℕ × List ℕ). a.1) e)

-- ---- a palette by its table

-- A table is known by the palette that it makes.
pub table-known : {x y : List ℕ} → of_table x ≡ of_table y → x ≡ y
unfolding of_table
table-known e = ap (λ (p : Palette). p.colors) e

-- and so is one that an answer stands beside
pub told-table-known : {x y : List ℕ} {t u : Bool} → ◌≡◌ {A = Bool × Palette} (t, of_table x) (u, of_table y)
    → ◌≡◌ {A = Bool × List ℕ} (t, x) (u, y)
unfolding of_table
told-table-known e = ap (λ (z : Bool × Palette). (z.0, z.1.colors)) e

-- ---- a finish

given_at : Option ℕ → Given
given_at none = None
given_at (some n) = Some n

given_back : (g : Given) → given_at (given_meant g) ≡ g
unfolding given_meant given_at
given_back None = refl
given_back (Some n) = refl

ratio_at : meant.Ratio → Ratio
ratio_at (meant.by_raster n) = ratios.Raster n
ratio_at (meant.left_to_p1 p1) = ratios.LeftToP1 (given_at p1)

ratio-back : (r : Ratio) → ratio_at (ratio_meant r) ≡ r
unfolding ratio_meant ratio_at
ratio-back (ratios.Raster n) = refl
ratio-back (ratios.LeftToP1 p1) = ap ratios.LeftToP1 (given_back p1)

report_at : meant.Report → Report
report_at r =
    record {
      width = r.size.width;
      height = r.size.height;
      right = r.extent.width;
      bottom = r.extent.height;
      ratio = ratio_at r.ratio;
      transparent = r.clear;
      defined = r.defined;
      declared_width = r.declared.width;
      declared_height = r.declared.height;
      held = r.held;
    }

report-back : (p : Palette) (r : Report) → report_at (report_meant r p) ≡ r
unfolding report_meant report_at
report-back p r =
    ap
    (λ (x : Ratio).
    record {
      width = r.width;
      height = r.height;
      right = r.right;
      bottom = r.bottom;
      ratio = x;
      transparent = r.transparent;
      defined = r.defined;
      declared_width = r.declared_width;
      declared_height = r.declared_height;
      held = r.held;
    })
    (ratio-back r.ratio)

finishing_at : meant.Finished → Finishing
finishing_at (meant.finished r) = Ok (report_at r)
finishing_at (meant.turned_down n) = Err (refusal_at n)

finishing-back : (p : Palette) (x : Finishing) → finishing_at (finish_meant x p) ≡ x
unfolding finish_meant finishing_at
finishing-back p (Ok r) = ap Ok (report-back p r)
finishing-back p (Err n) = ap Err (refusal-back n)

-- ---- a reading all at once

read_at : Read → Finished × List ℕ
read_at r = (record { answer = finishing_at r.answer; palette = r.palette }, r.canvas)

read_back : (x : Finished × List ℕ) → read_at (read_meant x.0 x.1) ≡ x
unfolding read_meant read_at
read_back (f, l) = ap (λ (x : Finishing). (record { answer = x; palette = f.palette }, l)) (finishing-back f.palette f.answer)

pub read_known : {x y : Finished × List ℕ} → read_meant x.0 x.1 ≡ read_meant y.0 y.1 → x ≡ y
read_known = known {f = λ x. read_meant x.0 x.1} read_at read_back
