-- A sixel draws in the code what it draws in the definition.
use Prim.Native.Nat.{ℕ, ◌+◌, min, max}
use native.Mathlib.Omega.{arith}
use mathlib.Core.Path.{◌≡◌, refl, sym, ap, ap₂, ◌∙◌}
use mathlib.Core.Option.{Option}
use mathlib.Core.List.{List, [], ◌∷◌, ◌++◌}
use Rattle.colours.specs.Palette.{register_of}
use Rattle.canvas.specs.Picture.{Stroke, Area, area_of, reach, picture}
use Rattle.canvas.specs.Paint as paint
use Rattle.canvas.proofs.Strokes.{reach-within, reach-inside}
use Rattle.canvas.proofs.Pictures.{picture-grown, picture-stroke}
use Rattle.canvas.proofs.Shows.{sixel-stroked}
use Rattle.frame.specs.declared.Command.{Command}
use Rattle.frame.specs.declared.Extent.{Extent}
use Rattle.frame.specs.declared.Frame.{Frame}
use Rattle.reference.specs.Step.{pen_after, painted_to, right_after, bottom_after, extent_after, passed_to, inked, area_grown, canvas_after, row_ceiling}
use Rattle.meaning.specs.Commands.{draw}
use Rattle.meaning.specs.Drawing.{Setting, Drawing, unless, stroke_of, stroked, draw_command, right_of, bottom_of, columns_painted, rows_painted, extent_of}
use Rattle.meaning.proofs.AreaLaws.{Allowed, Sound, Follows, command-drawn}
use Rattle.agreement.specs.Same.{ground_of, pen_of, code_area, code_extent, raster_of, code_held, frame_of, canvas_of, Rated, Bounded, SameDrawing}
use Rattle.agreement.proofs.Sizes.{allowed-none}

-- ---- the extent of one stroke more

columns-more : (ks : List Stroke) (k : Stroke) → columns_painted (ks ++ k ∷ []) ≡ max (columns_painted ks) (right_of k)
unfolding columns_painted
columns-more [] k = omega arith
columns-more (j ∷ ks) k = let later = columns-more ks k in omega arith

rows_more : (ks : List Stroke) (k : Stroke) → rows_painted (ks ++ k ∷ []) ≡ max (rows_painted ks) (bottom_of k)
unfolding rows_painted
rows_more [] k = omega arith
rows_more (j ∷ ks) k = let later = rows_more ks k in omega arith

-- ---- one stroke more

module _ {s : Setting} (bounded : Bounded s) (opening : List ℕ) {d : Drawing} (sound : Sound s d) (bits : ℕ)
    (allowed : Allowed s d.area (d.pen.column + d.pen.repeats) (d.pen.row + 6)) where
  -- its row is not saturated
  row-known : min d.pen.row row_ceiling ≡ d.pen.row
  row-known = omega (arith, allowed.height, bounded.height)

  -- the drawing follows from the one before
  pub stroke-follows : Follows s d (stroked d (stroke_of bits d))
  unfolding draw_command unless
  stroke-follows = command-drawn s (draw bits) d (ap (λ (o : Option ℕ). unless o (stroked d (stroke_of bits d))) (allowed-none allowed))

  -- the extent is that of one stroke more
  stroke-extent : extent_after (code_extent d) (pen_of d.palette d.pen) bits ≡ code_extent (stroked d (stroke_of bits d))
  unfolding extent_after right_after bottom_after painted_to code_extent pen_of stroked stroke_of extent_of right_of bottom_of
  stroke-extent = λ i. record { right = sym (columns-more d.strokes k) i; bottom = low i }
    where
      k : Stroke
      k = stroke_of bits d

      low : bottom_after (rows_painted d.strokes) bits (min d.pen.row row_ceiling) ≡ rows_painted (d.strokes ++ k ∷ [])
      low = ap (bottom_after (rows_painted d.strokes) bits) row-known ∙ sym (rows_more d.strokes k)

  -- the canvas shows the stroke on the grown area
  stroke-canvas : (c : Command) {w h : ℕ} → area_of w h ≡ reach d.area (stroke_of bits d)
      → canvas_after (frame_of d c) (ground_of s d.background) bits w h (canvas_of s d opening) ≡ canvas_of s (stroked d (stroke_of bits d)) opening
  unfolding canvas_after area_grown frame_of ground_of code_area pen_of canvas_of stroked stroke_of
  stroke-canvas c grows =
      ap₂ painted_at row-known grows
      ∙ ap (paint.sixel_painted stride k.column k.row k.repeat bits k.colour)
      (picture-grown stride d.area (reach d.area k) d.background d.strokes opening (reach-within d.area k) sound.strokes)
      ∙ sixel-stroked stride k _
      ∙ picture-stroke stride (reach d.area k) d.background d.strokes opening k (reach-inside d.area k)
    where
      k : Stroke
      k = stroke_of bits d

      stride : ℕ
      stride = s.stride

      painted_at : ℕ → Area → List ℕ
      painted_at row a =
          paint.sixel_painted stride d.pen.column row d.pen.repeats bits (register_of d.palette d.pen.register)
          (paint.grown stride d.area a d.background (picture stride d.area d.background d.strokes opening))

  -- the two stand for each other after the stroke
  pub stroke-same : Rated d.raster.ratio → (c : Command) {w h : ℕ} → w ≡ (reach d.area (stroke_of bits d)).width
      → h ≡ (reach d.area (stroke_of bits d)).height
      → SameDrawing s opening (stroked d (stroke_of bits d)) (ground_of s d.background) (inked (frame_of d c) bits w h) d.palette
      (canvas_after (frame_of d c) (ground_of s d.background) bits w h (canvas_of s d opening))
  unfolding inked passed_to frame_of code_area stroked stroke_of
  stroke-same rated c p q =
      record {
        bounded = bounded;
        sound = stroke-follows.sound sound;
        rated = rated;
        ground = refl;
        frame = framed p q stroke-extent;
        palette = refl;
        canvas = stroke-canvas c (ap₂ area_of p q);
      }
    where
      frame_with : ℕ → ℕ → Extent → Frame
      frame_with w h e =
          record {
            pen = pen_after (pen_of d.palette d.pen);
            area = record { width = w; height = h };
            extent = e;
            raster = raster_of d.raster;
            held = code_held d;
            command = c;
          }

      framed : {w h w' h' : ℕ} {e e' : Extent} → w ≡ w' → h ≡ h' → e ≡ e' → frame_with w h e ≡ frame_with w' h' e'
      framed p q r = λ i. frame_with (p i) (q i) (r i)
