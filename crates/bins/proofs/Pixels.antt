-- Laws of pixels: the bytes of one, and when two are the same.
-- Assumes nothing.
use mathlib.Core.Path.{◌≡◌, sym, ap, ◌∙◌}
use mathlib.Core.Bool.{Bool, true, ◌&&◌}
use mathlib.Core.List.{List}
use mathlib.Core.Logic.{◌↔◌}
use Prim.Native.Nat.{ℕ, zero, suc, ◌+◌, ◌*◌, ◌≤◌, ◌<◌}
use native.Mathlib.Omega.{arith}
use lib.Dec.{eqb}
use lib.ListN.{length, get_or, drop, length-drop}
use lib.Seq.{length-take-le, get_or-take, get_or-drop, ext_get_or}
use borrow.Author.Tests.{eqb-true, eq-eqb}
use Rattle.canvas.proofs.Covers.{and_left, and_right, and_both}
use Rattle.bins.specs.Bins.{same, pixel}

-- byte k of pixel p
pub pixel-byte : (canvas : List ℕ) (p k : ℕ) → k < 4 → get_or (pixel canvas p) k 0 ≡ get_or canvas (4 * p + k) 0
unfolding pixel
pixel-byte canvas p k h = get_or-take 4 (drop (4 * p) canvas) k 0 h ∙ get_or-drop (4 * p) canvas k 0

-- a pixel on the canvas has four bytes
pub pixel-length : (canvas : List ℕ) (p : ℕ) → 4 * (p + 1) ≤ length canvas → length (pixel canvas p) ≡ 4
unfolding pixel
pixel-length canvas p h = length-take-le 4 (drop (4 * p) canvas) (rw (length-drop (4 * p) canvas) (omega arith))

-- ---- when two pixels are the same

by-four : (P : ℕ → Type 0) (r : ℕ) → r < 4 → P 0 → P 1 → P 2 → P 3 → P r
by-four P zero h a b c d = a
by-four P (suc zero) h a b c d = b
by-four P (suc (suc zero)) h a b c d = c
by-four P (suc (suc (suc zero))) h a b c d = d
by-four P (suc (suc (suc (suc r)))) h a b c d = absurd (omega arith)

module _ (a b : List ℕ) where
  abbrev alike : ℕ → Bool
  alike k = eqb (get_or a k 0) (get_or b k 0)

  -- each byte of the same pixels
  same_byte : same a b ≡ true → (k : ℕ) → k < 4 → alike k ≡ true
  unfolding same
  same_byte t k h =
      let later : (alike 1 && (alike 2 && alike 3)) ≡ true = and_right (alike 0) _ t in
      let last : (alike 2 && alike 3) ≡ true = and_right (alike 1) _ later in
      by-four (λ (n : ℕ). alike n ≡ true) k h (and_left _ _ t) (and_left _ _ later) (and_left _ _ last) (and_right (alike 2) _ last)

  -- Pixels of four bytes are the same exactly when they are equal.
  pub same-exactly : length a ≡ 4 → length b ≡ 4 → (same a b ≡ true) ↔ (a ≡ b)
  unfolding same
  same-exactly four-a four-b = (
    λ t. ext_get_or 0 a b (four-a ∙ sym four-b) (λ k h. eqb-true _ _ (same_byte t k (omega (arith, four-a)))),
    λ e.
        let each : (k : ℕ) → alike k ≡ true = λ k. eq-eqb _ _ (ap (λ (l : List ℕ). get_or l k 0) e) in
        and_both (each 0) (and_both (each 1) (and_both (each 2) (each 3))),
  )
