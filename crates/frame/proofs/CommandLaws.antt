-- Laws of commands: what a definition is told, and the two steps in which a raster ends.
use Prim.Native.Nat.{ℕ, ◌≤◌, max}
use mathlib.Core.Bool.{Bool, ◌&&◌}
use mathlib.Core.Path.{◌≡◌, refl, sym, ap, ◌∙◌}
use native.Mathlib.Omega.{arith}
use borrow.Author.Tests.{eq-eqb, ne_eqb}
use lib.Dec.{eqb}
use lib.IntN.{pos}
use Rattle.std.specs.Prelude.{Result, Ok, Err}
use Rattle.numbers.specs.declared.Parameters.{Parameters}
use Rattle.numbers.specs.Step as numbers
use Rattle.numbers.proofs.Laws.{cond_yes, cond_no}
use Rattle.numbers.proofs.Reading.{value-small}
use Rattle.colours.specs.declared.Palette.{Palette}
use Rattle.colours.specs.Marks.{defining_rgb, defining_hls}
use Rattle.colours.proofs.Laws.{passed, passed-pos}
use Rattle.canvas.proofs.Covers.{by-test}
use Rattle.frame.specs.declared.Frame.{Frame}
use Rattle.frame.specs.declared.Ground.{Ground}
use Rattle.frame.specs.declared.Kind.{Kind}
use Rattle.frame.specs.declared.Kind.TheVariants as kinds
use Rattle.frame.specs.declared.Progress.{Progress}
use Rattle.frame.specs.declared.Raster.{Raster}
use Rattle.frame.specs.declared.Refusal.{Refusal}
use Rattle.frame.specs.declared.VisibleArea.{VisibleArea}
use Rattle.frame.specs.declared.rasters.Measured.{Measured}
use Rattle.frame.specs.Sizes.{raster_area}
use Rattle.frame.specs.Commands.{defining_by, held_by, defined_by, kept_size, raster_by, measured_in, measured_by, raster_grown, raster_ended_in, raster_ended_by, finished_of, Ended, ended_in, ended}

-- ---- a colour ends

-- a value fits a signed number
pub value-within : {r : ℕ} (v : Parameters) (i : ℕ) → r ≡ numbers.value_at v i → r ≤ 2147483647
value-within v i e = rw e (omega (arith, value-small v i))

small-passed : (n : ℕ) → n ≤ 2147483647 → passed (pos n) ≡ pos n
small-passed n h = passed-pos n (omega arith)

-- a space defines, and says whether a value was held
module _ (p : Palette) (k s x y z : ℕ) {q : Palette} {t : Bool} (few : (x ≤ 2147483647) × (y ≤ 2147483647) × (z ≤ 2147483647)) where
  pub defined-hls : s ≡ 1 → (t, q) ≡ defining_hls p k (passed (pos x)) (passed (pos y)) (passed (pos z)) → (t, q) ≡ defining_by p k s x y z
  unfolding defining_by held_by defined_by defining_hls
  defined-hls h e =
      e ∙ rw (small-passed x few.0, small-passed y few.1, small-passed z few.2, eq-eqb _ _ h) refl

  pub defined-rgb : (s ≡ 1 → ⊥) → s ≡ 2 → (t, q) ≡ defining_rgb p k (passed (pos x)) (passed (pos y)) (passed (pos z))
      → (t, q) ≡ defining_by p k s x y z
  unfolding defining_by held_by defined_by defining_rgb
  defined-rgb h l e =
      e ∙ rw (small-passed x few.0, small-passed y few.1, small-passed z few.2, ne_eqb _ _ h, eq-eqb _ _ l) refl

-- ---- a raster ends

-- a size above 0 is kept, and else the old one stays
pub kept-old : (old n : ℕ) → n ≡ 0 → old ≡ kept_size old n
unfolding kept_size
kept-old old n e = sym (cond_yes _ _ (eq-eqb _ _ e))

pub kept_new : (old n : ℕ) → (n ≡ 0 → ⊥) → n ≡ kept_size old n
unfolding kept_size
kept_new old n e = sym (cond_no _ _ (ne_eqb _ _ e))

raster-in : (f : Frame) (r : Raster) (n : Result VisibleArea Refusal) → raster_ended_in (measured_in r n) f ≡ raster_grown f r n
unfolding raster_ended_in measured_in raster_grown
raster-in f r (Ok a) = refl
raster-in f r (Err u) = refl

raster-by : (f : Frame) (g : Ground) (r : Raster) → raster_ended_in (measured_by r f.area g) f ≡ raster_ended_by f g r
unfolding measured_by raster_ended_by raster_ended_in
raster-by f g r =
    by-test (eqb r.width 0 && eqb r.height 0)
    (λ t. rw t)
    (λ t. rw t (raster-in f r (raster_area f.area g (max 1 r.width) (max 1 r.height))))

pub ended-raster : {s : Progress} {m : Result Measured Refusal} (f : Frame) (g : Ground) (p : Palette) → f.command.kind ≡ kinds.Raster
    → m ≡ measured_by (raster_by f.raster (numbers.finished f.command.parameters)) f.area g → s ≡ raster_ended_in m f
    → ◌≡◌ {A = Ended} (record { progress = s; palette = p }) (ended f g p)
unfolding ended ended_in finished_of
ended-raster f g p k e h =
    ap (λ (x : Progress). record { progress = x; palette = p })
    (h ∙ ap (λ (x : Result Measured Refusal). raster_ended_in x f) e ∙ raster-by f g (raster_by f.raster (finished_of f)))
    ∙ sym (ap (λ (j : Kind). ended_in j f g p) k)
