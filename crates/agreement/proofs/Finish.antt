-- The code's opening and its finish are those of the definition.
use Prim.Native.Nat.{ℕ, ◌≤◌, ◌^◌}
use native.Mathlib.Omega.{arith}
use mathlib.Core.Path.{◌≡◌, refl, sym, ap, ◌∙◌, subst}
use mathlib.Core.Bool.{true, ◌&&◌}
use mathlib.Core.Option.{Option, none, some}
use mathlib.Core.List.{List}
use borrow.Author.Tests.{leb-true, ne_eqb}
use lib.Dec.{leb}
use Rattle.colours.specs.declared.Palette.{Palette}
use Rattle.colours.specs.Marks.{lasting, defined_count}
use Rattle.canvas.specs.Picture.{span, rows_of}
use Rattle.canvas.specs.Paint.{painted}
use Rattle.canvas.proofs.Pictures.{picture-opened}
use Rattle.frame.specs.declared.Frame.{Frame}
use Rattle.frame.specs.declared.Ground.{Ground}
use Rattle.frame.specs.declared.Kind.TheVariants as kinds
use Rattle.frame.specs.declared.Outcome.TheVariants as outcomes
use Rattle.frame.specs.declared.Refusal.{Refusal}
use Rattle.frame.specs.Numbers.{number_of}
use Rattle.reference.specs.Step.{Reached, settled_step}
use Rattle.meaning.specs.Drawing.{Limits, Setting, Drawing, background_of, blank, extent_of}
use Rattle.meaning.specs.Payload.{Parameters, Ratio, ratio_of, declared_of, Report, report_of, Finished, finished, turned_down, finish}
use Rattle.meaning.specs.Sessions.{Reading, opened, settled, rested, finish_reading}
use Rattle.meaning.specs.Calls.{ranges, limits_hold, opens, setting_for}
use Rattle.meaning.proofs.AreaLaws.{both, blank-opens, outcome-reports}
use Rattle.agreement.specs.Same.{ground_of, ratio_number, Rated, code_held, frame_of, blank_frame, canvas_of, Bounded, SameDrawing, Same, ratio_from, report_from}
use Rattle.agreement.proofs.Settle.{same-fact, Settling, settling, refusing, settle-agrees}

-- ---- opening

-- a number in a range up to a largest
ranges-most : (most n : ℕ) → ranges most n ≡ true → n ≤ most
unfolding ranges
ranges-most most n e = leb-true n most (both (leb 1 n) (leb n most) e).1

-- a setting that opens is within what can be opened
pub opens-bounded : (l : Limits) (stride length : ℕ) → opens l stride length ≡ true → Bounded (setting_for l stride length)
unfolding opens limits_hold setting_for
opens-bounded l stride length e =
    let p : (limits_hold l ≡ true) × ((ranges 1000000 stride && leb 1 (rows_of length stride)) ≡ true) = both (limits_hold l) _ e in
    let w : (ranges 1000000 l.width ≡ true) × _ = both (ranges 1000000 l.width) _ p.0 in
    let h : (ranges 1000000 l.height ≡ true) × _ = both (ranges 1000000 l.height) _ w.1 in
    let m : (ranges (10 ^ 12) l.repeats ≡ true) × (ranges (10 ^ 12) l.pixels ≡ true) = both (ranges (10 ^ 12) l.repeats) _ h.1 in
    record {
      width = ranges-most _ _ w.0;
      height = ranges-most _ _ h.0;
      repeats = ranges-most _ _ m.0;
      pixels = ranges-most _ _ m.1;
      stride = ranges-most _ _ (both (ranges 1000000 stride) _ p.1).0;
    }

-- an opened session: the blank frame over the owner's colours and marks, and pixel (0, 0) has the background
pub opened-same : (l : Limits) (stride length : ℕ) → opens l stride length ≡ true → (o : Parameters) (owner : Palette)
    {opening : List ℕ} {g : Ground} {f : Frame} {canvas : List ℕ} → let own : Palette = lasting owner in
    g ≡ ground_of (setting_for l stride length) (background_of own o.p2) → f ≡ blank_frame own f.command → f.command.kind ≡ kinds.Data
    → canvas ≡ painted (span 0 1) (background_of own o.p2) opening
    → Same (setting_for l stride length) opening (opened o owner) g f own canvas
unfolding opened blank blank_frame frame_of canvas_of extent_of
opened-same l stride length e o owner {opening} ground frame kind canvas =
    record {
      drawing = record {
        bounded = opens-bounded l stride length e;
        sound = blank-opens l stride length e owner o.p2;
        rated = tt;
        ground = ground;
        frame = frame;
        palette = refl;
        canvas = canvas ∙ picture-opened _ (background_of (lasting owner) o.p2) opening;
      };
      begun = kind;
    }

-- ---- finishing

-- the code's ratio is the definition's
ratio-same : (p1 o : Option ℕ) → Rated o → ratio_of p1 o ≡ ratio_from p1 (ratio_number o)
unfolding ratio_of ratio_from ratio_number
ratio-same p1 none h = refl
ratio-same p1 (some n) h = rw (ne_eqb n 0 (λ e. omega arith))

-- and so is its report
pub report-same : {s : Setting} {opening : List ℕ} {d : Drawing} {g : Ground} {f : Frame} {p : Palette} {l : List ℕ} (o : Parameters)
    → SameDrawing s opening d g f p l → report_of o d ≡ report_from o f p
unfolding report_of declared_of report_from frame_of code_held
report-same {d = d} {f = f} o same =
    same-fact (λ g f p l. report_of o d ≡ report_from o f p) same (ap rated (ratio-same o.p1 d.raster.ratio same.rated))
  where
    rated : Ratio → Report
    rated x =
        record {
          size = d.area;
          ratio = x;
          clear = (report_of o d).clear;
          extent = extent_of d.strokes;
          defined = defined_count d.palette;
          declared = declared_of d.raster;
          held = code_held d;
          palette = lasting d.palette;
        }

-- what a finish comes to: a report of the frame and the palette with the command carried out, the canvas grown; or one refusal, and all is as it
-- was
pub data Finishing (s : Setting) (opening : List ℕ) (r : Reading) (g : Ground) : Finished → Reached → Type 0 where
  reporting : {answer : Report} {t : Reached} → t.progress.outcome ≡ outcomes.Read
      → answer ≡ report_from r.parameters t.progress.frame t.palette
      → SameDrawing s opening (settled s r).drawing g t.progress.frame t.palette t.canvas → Finishing s opening r g (finished answer) t
  declining : {n : ℕ} {t : Reached} (why : Refusal) → number_of why ≡ n → t.progress.outcome ≡ outcomes.Refused why
      → (settled s r).drawing ≡ r.drawing → SameDrawing s opening r.drawing g t.progress.frame t.palette t.canvas
      → Finishing s opening r g (turned_down n) t

settled-finish : {s : Setting} {opening : List ℕ} {r : Reading} {g : Ground} {o : Option ℕ} {t : Reached} → (settled s r).refusal ≡ o
    → Settling s opening r g o t → Finishing s opening r g (finish_reading s r) t
unfolding finish_reading rested finish
settled-finish {s} {opening} {r} {g} {t = t} q (settling e unread same) =
    let d : SameDrawing s opening (settled s r).drawing g t.progress.frame t.palette t.canvas = same.drawing in
    subst (λ (x : Finished). Finishing s opening r g x t) (sym (outcome-reports r.parameters (settled s r) q))
    (reporting e (report-same r.parameters d) d)
settled-finish {s} {opening} {r} {g} {t = t} q (refusing why n e kept same) =
    subst (λ (x : Finished). Finishing s opening r g x t) (sym (ap turned q)) (declining why n e kept same)
  where
    turned : Option ℕ → Finished
    turned o = finish r.parameters (record { drawing = (settled s r).drawing; refusal = o })

-- a finish of the code, which ends the pending command, is the definition's
pub finish-agrees : {s : Setting} {opening : List ℕ} {r : Reading} {g : Ground} {f : Frame} {p : Palette} {l : List ℕ} → Same s opening r g f p l
    → Finishing s opening r g (finish_reading s r) (settled_step f g p l)
finish-agrees same = settled-finish refl (settle-agrees same)
