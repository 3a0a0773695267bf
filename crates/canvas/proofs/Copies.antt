-- Laws of copying: when a canvas has a picture, and its rows without gaps, one row after the other and byte by byte.
-- Assumes nothing.
use mathlib.Core.Path.{◌≡◌, refl, sym, ap, ap₂, ◌∙◌}
use mathlib.Core.Bool.{Bool, true, false, not, ◌&&◌}
use mathlib.Core.List.{List, ◌++◌, append-nil, append_assoc}
use Prim.Native.Nat.{ℕ, zero, suc, ◌+◌, ◌-◌, ◌*◌, ◌≤◌, ◌<◌}
use native.Mathlib.Nat.{mul-le-mul_right, not-suc-le-zero, le_of_suc-le-suc}
use native.Mathlib.Numerals.{add-one}
use native.Mathlib.Omega.{arith}
use lib.ListN.{length, get_or, take, drop, length-append, length-drop, get_or-append}
use lib.Seq.{length-take-le, take_at, drop-append-add, drop-drop, get_or-take, get_or-drop, get_or-append-add, paste}
use lib.Dec.{leb, ltb}
use borrow.Rule.Slice.PartMut.{put_mid}
use borrow.Author.Tests.{ltb-true, lt-ltb, leb-true, le-leb, lt-leb, eqb-false, not-true, not-false}
use Rattle.canvas.specs.Picture.{area_of, fits, rows_of}
use Rattle.canvas.specs.Copy.{number_of, has_picture, packed, rows_copied, size_of, copied}
use Rattle.std.specs.Prelude.{Result, Ok, Err}
use Rattle.canvas.specs.declared.Uncopied.{Uncopied}
use Rattle.canvas.specs.declared.Uncopied.TheVariants.{Misfit, Short}
use Rattle.canvas.proofs.Covers.{and_left, and_right, and_both, same_test}
use Rattle.canvas.proofs.Grid.{rows-room}
use Rattle.canvas.proofs.Growth.{fits-columns, fits-rows, fits_in}

-- ---- when a canvas has a picture

module _ (stride n width height : ℕ) where
  pub has_all : 0 < stride → 0 < width → 0 < height → width ≤ stride → height ≤ rows_of n stride
      → has_picture stride n (area_of width height) ≡ true
  unfolding has_picture
  has_all a b c d e =
      and_both (lt-ltb _ _ a) (and_both (lt-ltb _ _ b) (and_both (lt-ltb _ _ c) (fits_in stride n (area_of width height) d e)))

  module _ (t : has_picture stride n (area_of width height) ≡ true) where
    pub has-stride : 0 < stride
    unfolding has_picture
    has-stride = ltb-true 0 stride (and_left _ _ t)

    sized : (ltb 0 width && (ltb 0 height && fits stride n (area_of width height))) ≡ true
    unfolding has_picture
    sized = and_right (ltb 0 stride) _ t

    pub has_width : 0 < width
    has_width = ltb-true 0 width (and_left _ _ sized)

    tall : (ltb 0 height && fits stride n (area_of width height)) ≡ true
    tall = and_right (ltb 0 width) _ sized

    pub has-height : 0 < height
    has-height = ltb-true 0 height (and_left _ _ tall)

    roomy : fits stride n (area_of width height) ≡ true
    roomy = and_right (ltb 0 height) _ tall

    pub has-columns : width ≤ stride
    has-columns = fits-columns stride n (area_of width height) roomy

    pub has-rows : height ≤ rows_of n stride
    has-rows = fits-rows stride n (area_of width height) roomy

-- the last test alone, where the others held
pub has_last : (stride n width height rows : ℕ) → 0 < stride → 0 < width → 0 < height → width ≤ stride → rows ≡ rows_of n stride
    → leb height rows ≡ has_picture stride n (area_of width height)
has_last stride n width height rows a b c d e =
    ap (leb height) e
    ∙ same_test _ _
    (λ t. has_all stride n width height a b c d (leb-true _ _ t))
    (λ t. le-leb height (rows_of n stride) (has-rows stride n width height t))

-- a picture's bytes are no more than the canvas's
pub size_room : (n stride width height : ℕ) → width ≤ stride → height ≤ rows_of n stride → size_of (area_of width height) ≤ n
unfolding size_of
size_room n stride width height h r =
    omega (arith, mul-le-mul_right height h, rows-room n stride height r)

-- ---- rows without gaps

pub length-packed : (stride width y : ℕ) (canvas : List ℕ) → width ≤ stride → 4 * (y * stride) ≤ length canvas
    → length (packed stride width y canvas) ≡ 4 * (width * y)
unfolding packed
length-packed stride width zero canvas h r = omega arith
length-packed stride width (suc y) canvas h r =
    let rest : 4 * (y * stride) ≤ length (drop (4 * stride) canvas) = rw (length-drop (4 * stride) canvas) (omega arith) in
    length-append (take (4 * width) canvas) (packed stride width y (drop (4 * stride) canvas))
    ∙ ap₂ (λ (a b : ℕ). a + b)
    (length-take-le (4 * width) canvas (omega arith))
    (length-packed stride width y (drop (4 * stride) canvas) h rest)
    ∙ omega arith

-- one row more, at its end
packed-row : (stride width y at : ℕ) (canvas : List ℕ) → at ≡ 4 * (y * stride)
    → packed stride width (suc y) canvas ≡ packed stride width y canvas ++ take (4 * width) (drop at canvas)
unfolding packed
packed-row stride width zero at canvas e =
    let start : at ≡ 0 = omega arith in
    append-nil (take (4 * width) canvas) ∙ ap (λ (k : ℕ). take (4 * width) (drop k canvas)) (sym start)
packed-row stride width (suc y) at canvas e =
    let front : List ℕ = take (4 * width) canvas in
    let below : List ℕ = drop (4 * stride) canvas in
    let next : 4 * stride + 4 * (y * stride) ≡ at = omega arith in
    ap {B = List ℕ} (λ r. front ++ r)
    (packed-row stride width y (4 * (y * stride)) below refl
    ∙ ap (λ (l : List ℕ). packed stride width y below ++ take (4 * width) l) (drop-drop (4 * (y * stride)) (4 * stride) canvas)
    ∙ ap (λ (k : ℕ). packed stride width y below ++ take (4 * width) (drop k canvas)) next)
    ∙ sym (append_assoc front (packed stride width y below) (take (4 * width) (drop at canvas)))

-- a buffer with y rows at its front, and then the next pasted behind them
packed_more : (stride width y : ℕ) (canvas out : List ℕ) → width ≤ stride → 4 * (y * stride) ≤ length canvas
    → paste (packed stride width y canvas ++ drop (4 * (width * y)) out) (4 * (y * width)) (drop (4 * (y * stride)) canvas) (4 * width)
    ≡ packed stride width (suc y) canvas ++ drop (4 * (width * suc y)) out
packed_more stride width y canvas out h r =
    let front : List ℕ = packed stride width y canvas in
    let rest : List ℕ = drop (4 * (width * y)) out in
    let row : List ℕ = take (4 * width) (drop (4 * (y * stride)) canvas) in
    let long : length front ≡ 4 * (y * width) = length-packed stride width y canvas h r ∙ omega arith in
    let after : drop (4 * (y * width) + 4 * width) (front ++ rest) ≡ drop (4 * (width * suc y)) out =
    ap (λ (k : ℕ). drop (k + 4 * width) (front ++ rest)) (sym long)
    ∙ drop-append-add front rest (4 * width)
    ∙ drop-drop (4 * width) (4 * (width * y)) out
    ∙ ap (λ (k : ℕ). drop k out) (omega arith) in
    ap₂ (λ (a b : List ℕ). a ++ row ++ b) (take_at front rest (4 * (y * width)) long) after
    ∙ ap (λ (a : List ℕ). a ++ drop (4 * (width * suc y)) out) (sym (packed-row stride width y (4 * (y * stride)) canvas refl))

-- byte k of pixel (x, y) of a picture stands at pixel y * width + x of its rows without gaps
pub packed_byte : (stride width height : ℕ) (canvas : List ℕ) (x y k : ℕ) → width ≤ stride → 4 * (height * stride) ≤ length canvas
    → x < width → y < height → k < 4
    → get_or (packed stride width height canvas) (4 * (y * width + x) + k) 0 ≡ get_or canvas (4 * (y * stride + x) + k) 0
unfolding packed
packed_byte stride width zero canvas x y k h r hx hy hk = absurd (not-suc-le-zero hy)
packed_byte stride width (suc height) canvas x zero k h r hx hy hk =
    let front : List ℕ = take (4 * width) canvas in
    let at : 4 * (0 * width + x) + k ≡ 4 * x + k = omega arith in
    let at' : 4 * x + k ≡ 4 * (0 * stride + x) + k = omega arith in
    let long : length front ≡ 4 * width = length-take-le (4 * width) canvas (omega arith) in
    let short : 4 * x + k < length front = omega arith in
    ap (λ (i : ℕ). get_or (front ++ packed stride width height (drop (4 * stride) canvas)) i 0) at
    ∙ get_or-append front (packed stride width height (drop (4 * stride) canvas)) 0 (4 * x + k) short
    ∙ get_or-take (4 * width) canvas (4 * x + k) 0 (omega arith)
    ∙ ap (λ (i : ℕ). get_or canvas i 0) at'
packed_byte stride width (suc height) canvas x (suc y) k h r hx hy hk =
    let front : List ℕ = take (4 * width) canvas in
    let below : List ℕ = drop (4 * stride) canvas in
    let long : length front ≡ 4 * width = length-take-le (4 * width) canvas (omega arith) in
    let rest : 4 * (height * stride) ≤ length below = rw (length-drop (4 * stride) canvas) (omega arith) in
    let at : 4 * (suc y * width + x) + k ≡ length front + (4 * (y * width + x) + k) = omega arith in
    let at' : 4 * stride + (4 * (y * stride + x) + k) ≡ 4 * (suc y * stride + x) + k = omega arith in
    ap (λ (i : ℕ). get_or (front ++ packed stride width height below) i 0) at
    ∙ get_or-append-add front (packed stride width height below) (4 * (y * width + x) + k) 0
    ∙ packed_byte stride width height below x y k h rest hx (le_of_suc-le-suc hy) hk
    ∙ get_or-drop (4 * stride) canvas (4 * (y * stride + x) + k) 0
    ∙ ap (λ (i : ℕ). get_or canvas i 0) at'

-- Rows that are copied side by side are the picture without gaps, and behind it what was there.
pub copied_packed : (stride width height : ℕ) (canvas out : List ℕ) → width ≤ stride → 4 * (height * stride) ≤ length canvas
    → rows_copied stride width width height canvas out ≡ packed stride width height canvas ++ drop (size_of (area_of width height)) out
unfolding rows_copied packed size_of
copied_packed stride width zero canvas out h r =
    let start : 4 * (width * 0) ≡ 0 = omega arith in
    sym (ap (λ (k : ℕ). drop k out) start)
copied_packed stride width (suc y) canvas out h r =
    ap (λ (l : List ℕ). paste l (4 * (y * width)) (drop (4 * (y * stride)) canvas) (4 * width))
    (copied_packed stride width y canvas out h (omega arith))
    ∙ packed_more stride width y canvas out h (omega arith)

-- with the next row pasted, one row more is copied
pub next_row : {before after : List ℕ} (stride stride' width y : ℕ) (canvas out : List ℕ) → before ≡ rows_copied stride stride' width y canvas out
    → after ≡ paste before (4 * (y * stride')) (drop (4 * (y * stride)) canvas) (4 * width)
    → after ≡ rows_copied stride stride' width (y + 1) canvas out
unfolding rows_copied
next_row stride stride' width y canvas out e f =
    f ∙ ap (λ (l : List ℕ). paste l (4 * (y * stride')) (drop (4 * (y * stride)) canvas) (4 * width)) e
    ∙ ap (λ (n : ℕ). rows_copied stride stride' width n canvas out) (sym (add-one y))

-- a row more, written to its place
pub copied_row : {before : List ℕ} (stride stride' width y k : ℕ) (canvas out row : List ℕ) → before ≡ rows_copied stride stride' width y canvas out
    → k ≡ 4 * width → row ≡ take k (drop (4 * (y * stride)) canvas)
    → put_mid (4 * (y * stride')) k before row ≡ rows_copied stride stride' width (y + 1) canvas out
unfolding rows_copied
copied_row {before} stride stride' width y k canvas out row e at r =
    let next : rows_copied stride stride' width (suc y) canvas out ≡ rows_copied stride stride' width (y + 1) canvas out =
    ap (λ (n : ℕ). rows_copied stride stride' width n canvas out) (sym (add-one y)) in
    rw (e, r, at)
    (sym (append_assoc (take (4 * (y * stride')) (rows_copied stride stride' width y canvas out)) _ _)
    ∙ ap (λ (l : List ℕ). take (4 * (y * stride')) (rows_copied stride stride' width y canvas out) ++ take (4 * width) (drop (4 * (y * stride)) canvas) ++ l)
    (drop-drop (4 * width) (4 * (y * stride')) (rows_copied stride stride' width y canvas out))
    ∙ next)

-- ---- each answer

module _ (stride width height : ℕ) (canvas out : List ℕ) where
  pub copied-misfit : has_picture stride (length canvas) (area_of width height) ≡ false
      → (12, out) ≡ copied stride (area_of width height) canvas out
  unfolding copied
  copied-misfit t = rw t

  pub copied-short : has_picture stride (length canvas) (area_of width height) ≡ true → length out < 4 * (width * height)
      → (14, out) ≡ copied stride (area_of width height) canvas out
  unfolding copied size_of
  copied-short t h = rw (t, lt-leb (4 * (width * height)) (length out) h)

  pub copied-done : {out' : List ℕ} → has_picture stride (length canvas) (area_of width height) ≡ true → 4 * (width * height) ≤ length out
      → out' ≡ packed stride width height canvas ++ drop (size_of (area_of width height)) out
      → (0, out') ≡ copied stride (area_of width height) canvas out
  unfolding copied size_of
  copied-done t h e = rw (t, le-leb (4 * (width * height)) (length out) h, e)

  -- where the copy is done: the bytes of the picture, and behind them what was there
  module _ (t : has_picture stride (length canvas) (area_of width height) ≡ true) (fits_out : 4 * (width * height) ≤ length out) where
    long : length (packed stride width height canvas) ≡ 4 * (width * height)
    long =
        length-packed stride width height canvas
        (has-columns stride (length canvas) width height t)
        (rows-room (length canvas) stride height (has-rows stride (length canvas) width height t))

    answered : copied stride (area_of width height) canvas out ≡ (0, packed stride width height canvas ++ drop (4 * (width * height)) out)
    unfolding size_of
    answered = sym (copied-done t fits_out refl)

    pub copied-pixel : (x y k : ℕ) → x < width → y < height → k < 4
        → get_or (copied stride (area_of width height) canvas out).1 (4 * (y * width + x) + k) 0 ≡ get_or canvas (4 * (y * stride + x) + k) 0
    copied-pixel x y k hx hy hk =
        let one_more : y + 1 ≤ height = omega arith in
        let short : 4 * (y * width + x) + k < length (packed stride width height canvas) =
        omega (arith, mul-le-mul_right width one_more, long) in
        ap (λ (r : ℕ × List ℕ). get_or r.1 (4 * (y * width + x) + k) 0) answered
        ∙ get_or-append (packed stride width height canvas) _ 0 (4 * (y * width + x) + k) short
        ∙ packed_byte stride width height canvas x y k
        (has-columns stride (length canvas) width height t)
        (rows-room (length canvas) stride height (has-rows stride (length canvas) width height t))
        hx hy hk

    pub copied-later : (k : ℕ) → 4 * (width * height) ≤ k → get_or (copied stride (area_of width height) canvas out).1 k 0 ≡ get_or out k 0
    copied-later k h =
        let size : ℕ = 4 * (width * height) in
        let at : k ≡ length (packed stride width height canvas) + (k - size) = omega (arith, long) in
        let back : size + (k - size) ≡ k = omega arith in
        ap (λ (r : ℕ × List ℕ). get_or r.1 k 0) answered
        ∙ ap (λ (i : ℕ). get_or (packed stride width height canvas ++ drop size out) i 0) at
        ∙ get_or-append-add (packed stride width height canvas) (drop size out) (k - size) 0
        ∙ get_or-drop size out (k - size) 0
        ∙ ap (λ (i : ℕ). get_or out i 0) back

-- ---- the paths of the code: `t` is what the test of the picture told

module _ (stride n width height : ℕ) {t : Bool} (told : t ≡ has_picture stride n (area_of width height)) (f : not t ≡ false) where
  has : has_picture stride n (area_of width height) ≡ true
  has = sym told ∙ not-false t f

  pub path-columns : width ≤ stride
  path-columns = has-columns stride n width height has

  pub path-rows : 4 * (height * stride) ≤ n
  path-rows = rows-room n stride height (has-rows stride n width height has)

  pub path_room : 4 * (width * height) ≤ n
  unfolding size_of
  path_room = size_room n stride width height path-columns (has-rows stride n width height has)

module _ (stride width height : ℕ) (canvas out : List ℕ) {t : Bool}
    (told : t ≡ has_picture stride (length canvas) (area_of width height)) where
  pub path-misfit : not t ≡ true → (12, out) ≡ copied stride (area_of width height) canvas out
  path-misfit f = copied-misfit stride width height canvas out (sym told ∙ not-true t f)

  pub path-short : not t ≡ false → length out < 4 * (width * height) → (14, out) ≡ copied stride (area_of width height) canvas out
  path-short f h = copied-short stride width height canvas out (has stride (length canvas) width height told f) h

  pub path-done : {out' : List ℕ} → not t ≡ false → 4 * (width * height) ≤ length out → out' ≡ rows_copied stride width width height canvas out
      → (0, out') ≡ copied stride (area_of width height) canvas out
  path-done f h e =
      let t = has stride (length canvas) width height told f in
      copied-done stride width height canvas out t h
      (e
      ∙ copied_packed stride width height canvas out
      (path-columns stride (length canvas) width height told f)
      (path-rows stride (length canvas) width height told f))

pub ruleset copy-paths = (path-columns, path-rows, path-misfit, path-short, path-done)

-- an answer is told by its number, so that one outcome is allowed
pub number_of-one : (a b : Result (Unit {0}) Uncopied) → number_of a ≡ number_of b → a ≡ b
unfolding number_of
number_of-one (Ok _) (Ok _) e = refl
number_of-one (Ok _) (Err Misfit) e = absurd (eqb-false 0 12 refl e)
number_of-one (Ok _) (Err Short) e = absurd (eqb-false 0 14 refl e)
number_of-one (Err Misfit) (Ok _) e = absurd (eqb-false 12 0 refl e)
number_of-one (Err Misfit) (Err Misfit) e = refl
number_of-one (Err Misfit) (Err Short) e = absurd (eqb-false 12 14 refl e)
number_of-one (Err Short) (Ok _) e = absurd (eqb-false 14 0 refl e)
number_of-one (Err Short) (Err Misfit) e = absurd (eqb-false 14 12 refl e)
number_of-one (Err Short) (Err Short) e = refl
