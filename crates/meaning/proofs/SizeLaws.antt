-- Laws of whole payloads: their drawing keeps within every limit, the extent lies inside the size, and what a finish reports fits.
use Prim.Native.Nat.{ℕ, ◌^◌, ◌≤◌, max}
use native.Mathlib.Nat.{le_refl}
use native.Mathlib.Omega.{arith}
use mathlib.Core.Path.{◌≡◌, refl, subst}
use mathlib.Core.Bool.{Bool, true, false, cond, ◌&&◌}
use mathlib.Core.Option.{Option, none}
use mathlib.Core.List.{List, [], ◌∷◌}
use mathlib.Core.Logic.{◌↔◌}
use borrow.Author.Tests.{leb-true, eqb-true, eqb-false}
use lib.Dec.{leb, eqb}
use Rattle.colours.specs.declared.Palette.{Palette}
use Rattle.canvas.specs.Picture.{Stroke, Area, depth, rows_of, all_inside}
use Rattle.canvas.proofs.Depth.{depth-most}
use Rattle.meaning.specs.Commands.{Placed, commands}
use Rattle.meaning.specs.Drawing.{Limits, Setting, Drawing, blank, pixels_of, Outcome, draw_all, right_of, bottom_of, columns_painted, rows_painted, extent_of}
use Rattle.meaning.specs.Payload.{Parameters, payload, Finished, finished, turned_down, report_of, finish}
use Rattle.meaning.specs.Sizes.{Roomy, ExtentIn, ReportFits}
use Rattle.meaning.specs.Calls.{opens, limits_hold, ranges, setting_for}
use Rattle.meaning.proofs.Cases.{option-case, both}
use Rattle.meaning.proofs.CommandLaws.{Within, within_of, AllOnce, Sound, draw_all-sound, FourToSeven, draw_all-numbers, all-parts}

-- ---- a whole payload

-- a number in a range from 1
ranges-positive : (most n : ℕ) → ranges most n ≡ true → 1 ≤ n
unfolding ranges
ranges-positive most n e = leb-true 1 n (both (leb 1 n) (leb n most) e).0

-- every setting that opens is so
pub opens-roomy : (l : Limits) (stride length : ℕ) → opens l stride length ≡ true → Roomy (setting_for l stride length)
unfolding opens limits_hold setting_for
opens-roomy l stride length e =
    let p : (limits_hold l ≡ true) × ((ranges 1000000 stride && leb 1 (rows_of length stride)) ≡ true) = both (limits_hold l) _ e in
    let canvas : (ranges 1000000 stride ≡ true) × (leb 1 (rows_of length stride) ≡ true) = both (ranges 1000000 stride) _ p.1 in
    let w : (ranges 1000000 l.width ≡ true) × _ = both (ranges 1000000 l.width) _ p.0 in
    let h : (ranges 1000000 l.height ≡ true) × _ = both (ranges 1000000 l.height) _ w.1 in
    let m : _ × (ranges (10 ^ 12) l.pixels ≡ true) = both (ranges (10 ^ 12) l.repeats) _ h.1 in
    record {
      width = ranges-positive _ _ w.0;
      height = ranges-positive _ _ h.0;
      pixels = ranges-positive _ _ m.1;
      stride = ranges-positive _ _ canvas.0;
      rows = leb-true 1 _ canvas.1;
    }

-- the drawing before the first byte is sound
pub blank-sound : {s : Setting} → Roomy s → (p : Palette) (p2 : Option ℕ) → Sound s (blank p p2)
unfolding blank pixels_of all_inside
blank-sound r p p2 =
    record {
      fits = record {
        wide = le_refl 1;
        tall = le_refl 1;
        width = r.width;
        height = r.height;
        pixels = r.pixels;
        stride = r.stride;
        rows = r.rows;
      };
      strokes = refl;
      once = tt;
      repeats = le_refl 1;
    }

-- so it is for every setting that opens
pub blank-opens : (l : Limits) (stride length : ℕ) → opens l stride length ≡ true → (p : Palette) (p2 : Option ℕ)
    → Sound (setting_for l stride length) (blank p p2)
blank-opens l stride length e = blank-sound (opens-roomy l stride length e)

-- what any payload makes of it is sound
pub payload-sound : {s : Setting} → Roomy s → (o : Parameters) (p : Palette) (bs : List ℕ) → Sound s (payload s o p bs).drawing
unfolding payload
payload-sound r o p bs = draw_all-sound (commands bs) (blank-sound r p o.p2)

-- ---- the extent

-- a stroke paints nothing or something: what holds of its right and its bottom in either case holds of them, whatever numbers they are
pub painted-case : (P : ℕ → ℕ → Type 0) (deep : ℕ) {r₀ b₀ r b : ℕ} → (deep ≡ 0 → P r₀ b₀) → ((deep ≡ 0 → ⊥) → P r b)
    → P (cond (eqb deep 0) r₀ r) (cond (eqb deep 0) b₀ b)
painted-case P deep {r₀} {b₀} {r} {b} blank inked = go (eqb deep 0) refl
  where
    go : (t : Bool) → eqb deep 0 ≡ t → P (cond t r₀ r) (cond t b₀ b)
    go true e = blank (eqb-true _ _ e)
    go false e = inked (eqb-false _ _ e)

-- what strokes inside an area paint lies in the area
painted-inside : (a : Area) (ks : List Stroke) → all_inside a ks ≡ true → (columns_painted ks ≤ a.width) × (rows_painted ks ≤ a.height)
unfolding columns_painted rows_painted right_of bottom_of
painted-inside a [] e = (omega arith, omega arith)
painted-inside a (k ∷ ks) e =
    let first : Within a k = within_of a k (all-parts a k ks e).0 in
    let later : (columns_painted ks ≤ a.width) × (rows_painted ks ≤ a.height) = painted-inside a ks (all-parts a k ks e).1 in
    painted-case (λ r b. (max r (columns_painted ks) ≤ a.width) × (max b (rows_painted ks) ≤ a.height)) (depth 6 k.bits)
    (λ _. (omega arith, omega arith))
    (λ _. (omega (arith, first.columns), omega (arith, first.bottom, depth-most 6 k.bits)))

-- if every stroke takes a column, no column is painted if and only if no row is
neither-painted : (ks : List Stroke) → AllOnce ks → (columns_painted ks ≡ 0) ↔ (rows_painted ks ≡ 0)
unfolding columns_painted rows_painted right_of bottom_of
neither-painted [] h = (λ e. e, λ e. e)
neither-painted (k ∷ ks) h =
    let later : (columns_painted ks ≡ 0) ↔ (rows_painted ks ≡ 0) = neither-painted ks h.1 in
    painted-case (λ r b. (max r (columns_painted ks) ≡ 0) ↔ (max b (rows_painted ks) ≡ 0)) (depth 6 k.bits)
    (λ _. (λ e. omega (arith, later.0 (omega arith)), λ e. omega (arith, later.1 (omega arith))))
    (λ inked. (λ e. omega (arith, h.0), λ e. omega arith))

-- the extent of a sound drawing lies inside its area
pub extent-inside : {s : Setting} {d : Drawing} → Sound s d → ExtentIn (extent_of d.strokes) d.area
unfolding extent_of
extent-inside {d = d} h =
    let inside : (columns_painted d.strokes ≤ d.area.width) × (rows_painted d.strokes ≤ d.area.height) =
    painted-inside d.area d.strokes h.strokes in
    record { width = inside.0; height = inside.1; empty = neither-painted d.strokes h.once }

-- ---- finishing

-- an outcome with no refusal finishes with a report
pub outcome-reports : (o : Parameters) (out : Outcome) → out.refusal ≡ none → finish o out ≡ finished (report_of o out.drawing)
unfolding finish
outcome-reports o out e = rw e refl

-- and of a sound drawing the size that it reports fits, with the extent inside
pub outcome_fits : (s : Setting) (o : Parameters) (out : Outcome) → Sound s out.drawing → ReportFits s (finish o out)
unfolding finish report_of
outcome_fits s o out h = option-case (ReportFits s) out.refusal (λ _. (h.fits, extent-inside h)) (λ n _. tt)

-- a report, or a number of 4 to 7
abbrev pub ReportOr4To7 : Finished → Type 0
ReportOr4To7 (finished r) = Unit {0}
ReportOr4To7 (turned_down n) = (4 ≤ n) × (n ≤ 7)

-- finishing after any commands answers nothing else
pub finish-numbers : (s : Setting) (d : Drawing) (o : Parameters) (cs : List Placed) → ReportOr4To7 (finish o (draw_all s cs d))
unfolding finish
finish-numbers s d o cs =
    option-case ReportOr4To7 (draw_all s cs d).refusal (λ _. tt) (λ n e. subst FourToSeven e (draw_all-numbers s cs d))
