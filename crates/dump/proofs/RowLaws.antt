-- Laws of the rows: a pixel more of a row, a row more of a picture.
-- Assumes nothing.
use mathlib.Core.Path.{◌≡◌, sym, ◌∙◌}
use mathlib.Core.Bool.{Bool, true, false}
use mathlib.Core.List.{List, ◌∷◌}
use Prim.Native.Nat.{ℕ, suc, ◌+◌, ◌-◌, ◌*◌, ◌<◌, ◌≤◌}
use native.Mathlib.Omega.{arith}
use lib.ListN.{length, get_or}
use Rattle.text.specs.Text.{put_byte, put, hex, words}
use Rattle.text.proofs.Laws.{put-append, put_one, put_next, put_then}
use Rattle.canvas.specs.Picture.{area_of, rows_of}
use Rattle.canvas.specs.Copy.{has_picture}
use Rattle.canvas.proofs.Copies.{has_width, has-columns, has-rows}
use Rattle.dump.specs.Dump.{pixel_text, further_text, row_text, rows_text, picture_rows}

pub pixel_put : (canvas : List ℕ) (p : ℕ) (s₀ s₁ s₂ s₃ s₄ : ℕ × List ℕ) → s₁ ≡ put (hex (get_or canvas (4 * p) 0)) s₀
    → s₂ ≡ put (hex (get_or canvas (4 * p + 1) 0)) s₁ → s₃ ≡ put (hex (get_or canvas (4 * p + 2) 0)) s₂
    → s₄ ≡ put (hex (get_or canvas (4 * p + 3) 0)) s₃ → s₄ ≡ put (pixel_text canvas p) s₀
unfolding pixel_text
pixel_put canvas p s₀ s₁ s₂ s₃ s₄ a b c d = put_then _ _ s₀ (put_then _ _ s₀ (put_then _ _ s₀ a b) c) d

-- one pixel more of a row's further ones
pub pixel-more : (canvas : List ℕ) (p width x : ℕ) (s₀ s₁ s₂ whole : ℕ × List ℕ) → x < width → s₁ ≡ put_byte 32 s₀
    → s₂ ≡ put (pixel_text canvas (p + x)) s₁ → put (further_text canvas (p + x) (width - x)) s₀ ≡ whole
    → put (further_text canvas (p + (x + 1)) (width - (x + 1))) s₂ ≡ whole
unfolding further_text words
pixel-more canvas p width x s₀ s₁ s₂ whole h a b e =
    let left : width - x ≡ suc (width - (x + 1)) = omega arith in
    let next : p + (x + 1) ≡ p + x + 1 = omega arith in
    let seen : s₂ ≡ put (32 ∷ pixel_text canvas (p + x)) s₀ = put_next 32 (pixel_text canvas (p + x)) s₀ a b in
    rw (next, seen)
    (sym (put-append (32 ∷ pixel_text canvas (p + x)) (further_text canvas (p + x + 1) (width - (x + 1))) s₀) ∙ (rw left at e))

-- no pixel left
pixels-done : (canvas : List ℕ) (p left : ℕ) (there whole : ℕ × List ℕ) → left ≡ 0
    → put (further_text canvas p left) there ≡ whole → there ≡ whole
unfolding further_text put
pixels-done canvas p left there whole e h = rw e at h

-- a row: its first pixel, those after it, of which none is left, and the line's end
pub row_put : (canvas : List ℕ) (p width x : ℕ) (s₀ s₁ s₂ s₃ : ℕ × List ℕ) → width ≤ x → s₁ ≡ put (pixel_text canvas p) s₀
    → put (further_text canvas (p + x) (width - x)) s₂ ≡ put (further_text canvas (p + 1) (width - 1)) s₁ → s₃ ≡ put_byte 10 s₂
    → s₃ ≡ put (row_text canvas p width) s₀
unfolding row_text words
row_put canvas p width x s₀ s₁ s₂ s₃ h a b c =
    put_then _ _ s₀ (put_then _ _ s₀ a (pixels-done canvas (p + x) (width - x) s₂ _ (omega arith) b)) (put_one 10 s₂ c)

-- one row more
pub row_more : (canvas : List ℕ) (stride width height y : ℕ) (s₀ s₁ whole : ℕ × List ℕ) → y < height
    → s₁ ≡ put (row_text canvas (y * stride) width) s₀ → put (rows_text canvas stride width y (height - y)) s₀ ≡ whole
    → put (rows_text canvas stride width (y + 1) (height - (y + 1))) s₁ ≡ whole
unfolding rows_text
row_more canvas stride width height y s₀ s₁ whole h a e =
    let left : height - y ≡ suc (height - (y + 1)) = omega arith in
    rw a
    (sym (put-append (row_text canvas (y * stride) width) (rows_text canvas stride width (y + 1) (height - (y + 1))) s₀)
    ∙ (rw left at e))

-- no row left
pub rows-done : (canvas : List ℕ) (stride width height y : ℕ) (there whole : ℕ × List ℕ) → height ≤ y
    → put (rows_text canvas stride width y (height - y)) there ≡ whole → there ≡ whole
unfolding rows_text put
rows-done canvas stride width height y there whole h e = let left : height - y ≡ 0 = omega arith in rw left at e

-- a canvas with the picture: its rows are there, and are the text
module _ (canvas : List ℕ) (stride w h : ℕ) (t : Bool) (e : t ≡ has_picture stride (length canvas) (area_of w h)) where
  pub picture-fits : t ≡ true → (0 < w) × (w ≤ stride) × (h ≤ rows_of (length canvas) stride)
  picture-fits there = let has = sym e ∙ there in (has_width _ _ _ _ has, has-columns _ _ _ _ has, has-rows _ _ _ _ has)

  pub picture-there : (before : ℕ × List ℕ) {after : ℕ × List ℕ} → t ≡ true → after ≡ put (rows_text canvas stride w 0 h) before
      → after ≡ put (picture_rows canvas stride w h) before
  unfolding picture_rows
  picture-there before there f = rw (sym e ∙ there) f

  -- and one without
  pub picture-missing : (before : ℕ × List ℕ) → t ≡ false → before ≡ put (picture_rows canvas stride w h) before
  unfolding picture_rows put
  picture-missing before away = rw (sym e ∙ away)
