-- A stroke's columns and the bins: for a set bit that no later stroke covers, exactly the bins that have one of the stroke's columns show it in
-- that row; they hold its colour there, so that `top` tells that row or one above it.
-- Assumes nothing.
use mathlib.Core.Path.{◌≡◌, refl, ap, ◌∙◌}
use mathlib.Core.Bool.{Bool, true, false}
use mathlib.Core.Logic.{◌↔◌}
use mathlib.Core.Option.{Option, none, some}
use mathlib.Core.List.{List, [], ◌∷◌, ◌++◌, map}
use Prim.Native.Nat.{ℕ, suc, ◌+◌, ◌-◌, ◌*◌, ◌/◌, ◌≤◌, ◌<◌}
use native.Mathlib.Nat.{div-mul-le_self, lt-div-mul-add, le-div_iff_mul-le, mul-le-mul_right}
use native.Mathlib.Omega.{arith}
use lib.ListN.{length, get_or}
use Rattle.canvas.specs.Picture.{Stroke, span, bit, in_sixel, covers, or_here, last_stroke, colour_at, shown_colour}
use Rattle.canvas.proofs.Covers.{and_left, and_both, span-low, span-high, span-in, split}
use Rattle.bins.specs.declared.Shape.{Shape}
use Rattle.bins.specs.declared.Setting.{Setting}
use Rattle.bins.specs.Bins.{bin_of, first_column, last_column, told, asked_top}
use Rattle.bins.specs.Facts.{Holds, Topmost, Tells, Meets, Shows, FourStrokes, Uncovered, NoLower}
use Rattle.bins.proofs.Inverses.{bin-exactly}

-- ---- which stroke is shown

-- one of several strokes whose colours have four bytes
pub stroke-four : (before : List Stroke) (k : Stroke) (later : List Stroke) → FourStrokes (before ++ k ∷ later) → length k.colour ≡ 4
stroke-four [] k later f = f.0
stroke-four (a ∷ before) k later f = stroke-four before k later f.1

-- the first of a list is shown exactly when it covers and no later one does
first-shown : (o : Option ℕ) (t : Bool) → (or_here o t ≡ some 0) ↔ ((t ≡ true) × (o ≡ none))
unfolding or_here
first-shown none true = (λ e. (refl, refl), λ h. refl)
first-shown none false = (λ e. let never : ◌≡◌ {A = ℕ} 0 1 = cc in absurd (omega arith), λ h. let never : ◌≡◌ {A = ℕ} 0 1 = cc in absurd (omega arith))
first-shown (some n) t = (λ e. let never : suc n ≡ 0 = cc in absurd (omega arith), λ h. let never : ◌≡◌ {A = ℕ} 0 1 = cc in absurd (omega arith))

-- a later one is shown exactly when it is among the later ones
later-shown : (o : Option ℕ) (t : Bool) (n : ℕ) → (or_here o t ≡ some (suc n)) ↔ (o ≡ some n)
unfolding or_here
later-shown none true n = (λ e. let never : ◌≡◌ {A = ℕ} 0 (suc n) = cc in absurd (omega arith), λ h. let never : ◌≡◌ {A = ℕ} 0 1 = cc in absurd (omega arith))
later-shown none false n = (λ e. let never : ◌≡◌ {A = ℕ} 0 1 = cc in absurd (omega arith), λ h. let never : ◌≡◌ {A = ℕ} 0 1 = cc in absurd (omega arith))
later-shown (some m) t n = (
  λ e. let one : suc m ≡ suc n = cc in let same : m ≡ n = omega arith in ap some same,
  λ h. let same : m ≡ n = cc in ap (λ (z : ℕ). some (suc z)) same,
)

-- A stroke is shown at a pixel exactly when it covers it and no later one does.
pub stroke-shown : (before : List Stroke) (k : Stroke) (later : List Stroke) (x y : ℕ)
    → (last_stroke (before ++ k ∷ later) x y ≡ some (length before)) ↔ ((covers k x y ≡ true) × (last_stroke later x y ≡ none))
unfolding last_stroke
stroke-shown [] k later x y = first-shown (last_stroke later x y) (covers k x y)
stroke-shown (a ∷ before) k later x y = (
  λ e. (stroke-shown before k later x y).0 ((later-shown (last_stroke (before ++ k ∷ later) x y) (covers a x y) (length before)).0 e),
  λ h. (later-shown (last_stroke (before ++ k ∷ later) x y) (covers a x y) (length before)).1 ((stroke-shown before k later x y).1 h),
)

-- and then its colour is
colour-of : (background : List ℕ) (before : List Stroke) (k : Stroke) (later : List Stroke)
    → get_or (map (λ (s : Stroke). s.colour) (before ++ k ∷ later)) (length before) background ≡ k.colour
colour-of background [] k later = refl
colour-of background (a ∷ before) k later = colour-of background before k later

shown-colour : (background : List ℕ) (before : List Stroke) (k : Stroke) (later : List Stroke) (x y : ℕ)
    → last_stroke (before ++ k ∷ later) x y ≡ some (length before) → shown_colour background (before ++ k ∷ later) x y ≡ k.colour
unfolding shown_colour colour_at
shown-colour background before k later x y e = ap (colour_at background (before ++ k ∷ later)) e ∙ colour-of background before k later

-- ---- a set bit

-- in the row of a set bit a stroke covers exactly its columns
covers-exactly : (k : Stroke) (j x : ℕ) → j < 6 → bit k.bits j ≡ true
    → (covers k x (k.row + j) ≡ true) ↔ ((k.column ≤ x) × (x < k.column + k.repeat))
unfolding covers in_sixel
covers-exactly k j x six set = (
  λ t.
      let columns : span k.column (k.column + k.repeat) x ≡ true = and_left _ _ t in
      (span-low k.column (k.column + k.repeat) x columns, span-high k.column (k.column + k.repeat) x columns),
  λ h.
      let at : (k.row + j) - k.row ≡ j = omega arith in
      and_both (span-in k.column (k.column + k.repeat) x h.0 h.1)
      (and_both (span-in k.row (k.row + 6) (k.row + j) (omega arith) (omega arith)) (ap (bit k.bits) at ∙ set)),
)

module _ (before : List Stroke) (k : Stroke) (later : List Stroke) (j : ℕ) (u : Uncovered k later j) where
  abbrev strokes : List Stroke
  strokes = before ++ k ∷ later

  -- Exactly the bins that have one of its columns show the stroke in that row.
  pub stroke-bins : (s : Setting) (bin : ℕ) → Shows strokes (length before) s bin (k.row + j) ↔ Meets s bin k
  stroke-bins s bin = (
    λ h.
        let c = (covers-exactly k j h.column u.six u.set).0 ((stroke-shown before k later h.column (k.row + j)).0 h.stroke).0 in
        record { column = h.column; has = h.has; low = c.0; high = c.1 },
    λ m.
        let c = (covers-exactly k j m.column u.six u.set).1 (m.low, m.high) in
        record {
          column = m.column;
          has = m.has;
          stroke = (stroke-shown before k later m.column (k.row + j)).1 (c, u.bare m.column m.low m.high);
        },
  )

  -- They hold its colour there.
  pub stroke-holds : (background : List ℕ) (s : Setting) (bin : ℕ) → Meets s bin k → Holds (shown_colour background strokes) s bin k.colour (k.row + j)
  stroke-holds background s bin m =
      let h : Shows strokes (length before) s bin (k.row + j) = (stroke-bins s bin).1 m in
      record { column = h.column; has = h.has; shown = shown-colour background before k later h.column (k.row + j) h.stroke }

  -- So `top` tells that row or one above it.
  pub stroke-top : (background : List ℕ) (p : Shape) (canvas : List ℕ) (s : Setting) (bin : ℕ) → k.row + j < p.height → Meets s bin k
      → Tells (shown_colour background strokes) p canvas s bin k.colour → NoLower p canvas s bin k.colour (k.row + j)
  stroke-top background p canvas s bin below m t = go t.row t.tells t.topmost
    where
      go : (row : Option ℕ) → asked_top p canvas s bin k.colour ≡ told row → Topmost (shown_colour background strokes) p.height s bin k.colour row
          → NoLower p canvas s bin k.colour (k.row + j)
      go none e t = absurd (t.nowhere.0 refl (k.row + j) below (stroke-holds background s bin m))
      go (some y) e t =
          split (k.row + j) y
          (λ above. absurd (((t.row y).0 refl).2 (k.row + j) above (stroke-holds background s bin m)))
          (λ least. record { row = y; tells = e; least = least })

-- ---- in numbers

-- a quotient grows with what is divided
quotient-grows : (a b d : ℕ) → 0 < d → a ≤ b → a / d ≤ b / d
quotient-grows a b d h l = (le-div_iff_mul-le h).1 (omega (arith, div-mul-le_self a d))

-- Of a stroke that begins at the origin or later, the bins that have one of its columns are those from its first column's to its last column's.
pub meets-exactly : (s : Setting) (k : Stroke) (bin : ℕ) → 1 ≤ s.width → 1 ≤ k.repeat → s.origin ≤ k.column
    → Meets s bin k ↔ ((bin_of s k.column ≤ bin) × (bin ≤ bin_of s (k.column + k.repeat - 1)))
unfolding bin_of first_column last_column
meets-exactly s k bin wide some-column from = (
  λ m.
      let b = (bin-exactly s m.column wide bin).1 m.has in
      let low : k.column - s.origin ≤ m.column - s.origin = omega (arith, m.low) in
      let high : m.column - s.origin ≤ k.column + k.repeat - 1 - s.origin = omega (arith, m.high) in
      (omega (arith, quotient-grows _ _ s.width wide low, b.1), omega (arith, quotient-grows _ _ s.width wide high, b.1)),
  λ h. split k.column (first_column s bin) (later h) (at_once h),
)
  where
    -- the bin begins after the stroke: its first column is one of the stroke's
    later : (bin_of s k.column ≤ bin) × (bin ≤ bin_of s (k.column + k.repeat - 1)) → k.column < first_column s bin → Meets s bin k
    later h less =
        let reached : bin * s.width ≤ (k.column + k.repeat - 1 - s.origin) / s.width * s.width = mul-le-mul_right s.width h.1 in
        let last : (k.column + k.repeat - 1 - s.origin) / s.width * s.width ≤ k.column + k.repeat - 1 - s.origin = div-mul-le_self _ s.width in
        record {
          column = first_column s bin;
          has = record { first = omega arith; last = omega arith };
          low = omega arith;
          high = omega arith;
        }

    -- it has begun: the stroke's first column is one of its
    at_once : (bin_of s k.column ≤ bin) × (bin ≤ bin_of s (k.column + k.repeat - 1)) → first_column s bin ≤ k.column → Meets s bin k
    at_once h begun =
        let no_more : (k.column - s.origin) / s.width * s.width ≤ bin * s.width = mul-le-mul_right s.width h.0 in
        let below : k.column - s.origin < (k.column - s.origin) / s.width * s.width + s.width = lt-div-mul-add wide in
        record {
          column = k.column;
          has = record { first = begun; last = omega arith };
          low = omega arith;
          high = omega arith;
        }
