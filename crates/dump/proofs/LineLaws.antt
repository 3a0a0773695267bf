-- Laws of the lines: what is put part by part is the line, and the lines are the text.
-- Assumes nothing.
use mathlib.Core.Path.{◌≡◌}
use mathlib.Core.List.{List, [], ◌∷◌, ◌++◌}
use Prim.Native.Nat.{ℕ}
use Rattle.text.specs.Text.{put_byte, put, decimal, hex, words}
use Rattle.text.proofs.Laws.{put_one, put_then}
use Rattle.payload.specs.declared.Ratio.TheVariants as ratios
use Rattle.payload.specs.declared.Report.{Report}
use Rattle.dcs.specs.declared.Ending.{Ending}
use Rattle.dump.specs.Fields.{fields_text}
use Rattle.dump.specs.Dump.{count_line, pair_line, stop_line, status_line, size_line, extent_line, ratio_line, background_line, ink_line, picture_rows, picture_text}

-- words, a number and a space
spaced : (name : List ℕ) (n : ℕ) (s₀ s₁ s₂ s₃ : ℕ × List ℕ) → s₁ ≡ put name s₀ → s₂ ≡ put (decimal n) s₁ → s₃ ≡ put_byte 32 s₂
    → s₃ ≡ put (name ++ decimal n ++ words " ") s₀
unfolding words
spaced name n s₀ s₁ s₂ s₃ a b c = put_then (name ++ decimal n) (32 ∷ []) s₀ (put_then name (decimal n) s₀ a b) (put_one 32 s₂ c)

-- text and the line's end
ended : (text : List ℕ) (s₀ s₁ s₂ : ℕ × List ℕ) → s₁ ≡ put text s₀ → s₂ ≡ put_byte 10 s₁ → s₂ ≡ put (text ++ words "\n") s₀
unfolding words
ended text s₀ s₁ s₂ a b = put_then text (10 ∷ []) s₀ a (put_one 10 s₁ b)

pub count_put : (name : List ℕ) (n : ℕ) (s₀ s₁ s₂ s₃ : ℕ × List ℕ) → s₁ ≡ put name s₀ → s₂ ≡ put (decimal n) s₁ → s₃ ≡ put_byte 10 s₂
    → s₃ ≡ put (count_line name n) s₀
unfolding count_line
count_put name n s₀ s₁ s₂ s₃ a b c = ended (name ++ decimal n) s₀ s₂ s₃ (put_then name (decimal n) s₀ a b) c

-- a name, a number, a space, some text and the line's end: both lines of two
named : (name : List ℕ) (n : ℕ) (text : List ℕ) (s₀ s₁ s₂ s₃ s₄ s₅ : ℕ × List ℕ)
    → s₁ ≡ put name s₀ → s₂ ≡ put (decimal n) s₁ → s₃ ≡ put_byte 32 s₂ → s₄ ≡ put text s₃ → s₅ ≡ put_byte 10 s₄
    → s₅ ≡ put ((name ++ decimal n ++ words " " ++ text) ++ words "\n") s₀
named name n text s₀ s₁ s₂ s₃ s₄ s₅ a b c d e =
    let before = spaced name n s₀ s₁ s₂ s₃ a b c in
    ended (name ++ decimal n ++ words " " ++ text) s₀ s₄ s₅ (put_then (name ++ decimal n ++ words " ") text s₀ before d) e

pub pair_put : (name : List ℕ) (m n : ℕ) (s₀ s₁ s₂ s₃ s₄ s₅ : ℕ × List ℕ)
    → s₁ ≡ put name s₀ → s₂ ≡ put (decimal m) s₁ → s₃ ≡ put_byte 32 s₂
    → s₄ ≡ put (decimal n) s₃ → s₅ ≡ put_byte 10 s₄ → s₅ ≡ put (pair_line name m n) s₀
unfolding pair_line
pair_put name m n = named name m (decimal n)

pub stop_put : (name : List ℕ) (n byte : ℕ) (s₀ s₁ s₂ s₃ s₄ s₅ : ℕ × List ℕ)
    → s₁ ≡ put name s₀ → s₂ ≡ put (decimal n) s₁ → s₃ ≡ put_byte 32 s₂
    → s₄ ≡ put (hex byte) s₃ → s₅ ≡ put_byte 10 s₄ → s₅ ≡ put (stop_line name n byte) s₀
unfolding stop_line
stop_put name n byte = named name n (hex byte)

pub raster_put : (n : ℕ) (s₀ s₁ s₂ s₃ : ℕ × List ℕ) → s₁ ≡ put (words "ratio ") s₀ → s₂ ≡ put (decimal n) s₁ → s₃ ≡ put (words ":1\n") s₂
    → s₃ ≡ put (ratio_line (ratios.Raster n)) s₀
unfolding ratio_line
raster_put n s₀ s₁ s₂ s₃ a b c =
    put_then (words "ratio " ++ decimal n) (words ":1\n") s₀ (put_then (words "ratio ") (decimal n) s₀ a b) c

-- ---- the whole text

pub picture_put : (ending : Ending) (consumed ink : ℕ) (report : Report) (stride : ℕ) (canvas : List ℕ)
    (s₀ s₁ s₂ s₃ s₄ s₅ s₆ s₇ : ℕ × List ℕ)
    → s₁ ≡ put (status_line ending consumed) s₀ → s₂ ≡ put (pair_line (words "size ") report.width report.height) s₁
    → s₃ ≡ put (pair_line (words "extent ") report.right report.bottom) s₂ → s₄ ≡ put (ratio_line report.ratio) s₃
    → s₅ ≡ put (background_line report.transparent) s₄ → s₆ ≡ put (count_line (words "ink ") ink) s₅
    → s₇ ≡ put (picture_rows canvas stride report.width report.height) s₆
    → s₇ ≡ put (picture_text ending consumed ink report stride canvas) s₀
unfolding picture_text size_line extent_line ink_line
picture_put ending consumed ink report stride canvas s₀ s₁ s₂ s₃ s₄ s₅ s₆ s₇ a b c d e f g =
    put_then _ _ s₀ (put_then _ _ s₀ (put_then _ _ s₀ (put_then _ _ s₀ (put_then _ _ s₀ (put_then _ _ s₀ a b) c) d) e) f) g

pub fields_put : (ending : Ending) (consumed ink : ℕ) (report : Report) (s₀ s₁ s₂ s₃ s₄ s₅ s₆ : ℕ × List ℕ)
    → s₁ ≡ put (status_line ending consumed) s₀ → s₂ ≡ put (pair_line (words "size ") report.width report.height) s₁
    → s₃ ≡ put (pair_line (words "extent ") report.right report.bottom) s₂ → s₄ ≡ put (ratio_line report.ratio) s₃
    → s₅ ≡ put (background_line report.transparent) s₄ → s₆ ≡ put (count_line (words "ink ") ink) s₅
    → s₆ ≡ put (fields_text ending consumed ink report) s₀
unfolding fields_text size_line extent_line ink_line
fields_put ending consumed ink report s₀ s₁ s₂ s₃ s₄ s₅ s₆ a b c d e f =
    put_then _ _ s₀ (put_then _ _ s₀ (put_then _ _ s₀ (put_then _ _ s₀ (put_then _ _ s₀ a b) c) d) e) f

pub rows_put : (ending : Ending) (consumed ink : ℕ) (report : Report) (stride : ℕ) (canvas : List ℕ) (s₀ s₁ s₂ : ℕ × List ℕ)
    → s₁ ≡ put (fields_text ending consumed ink report) s₀ → s₂ ≡ put (picture_rows canvas stride report.width report.height) s₁
    → s₂ ≡ put (picture_text ending consumed ink report stride canvas) s₀
unfolding fields_text picture_text
rows_put ending consumed ink report stride canvas s₀ s₁ s₂ a b = put_then _ _ s₀ a b
