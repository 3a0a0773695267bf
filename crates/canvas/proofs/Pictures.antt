-- Laws of pictures: one stroke more, a larger area, several strokes at once, a blank stroke, and what of the opening
-- a picture keeps.
-- Assumes nothing.
use mathlib.Core.Path.{◌≡◌, refl, sym, ap, ap₂, ◌∙◌}
use mathlib.Core.Bool.{Bool, true, false, cond, not, ◌&&◌, ◌||◌, true≢false}
use mathlib.Core.List.{List, [], ◌∷◌, ◌++◌}
use Prim.Native.Nat.{ℕ, ◌+◌, ◌*◌, ◌/◌, ◌%◌, ◌<◌, ◌≤◌}
use native.Mathlib.Nat.{zero-add, mod-le, div-le_self, div-add-mod', le_refl}
use native.Mathlib.Omega.{arith}
use lib.ListN.{length, get_or}
use lib.Seq.{ext_get_or}
use lib.Arith.{digits_div, digits_mod}
use Rattle.canvas.specs.Picture.{Stroke, Area, area_of, span, grid, covers, last_stroke, colour_at, shown_colour, visible, picture, fits, inside, all_inside, reach}
use Rattle.canvas.specs.Paint.{painted, stroked, fresh, grown, stroked_all, reach_all, grown_each}
use Rattle.canvas.proofs.Bytes.{length-replaced, get_or-replaced, replaced-twice, replaced-same, painted-both, painted-apart, painted-none}
use Rattle.canvas.proofs.Covers.{same_test, no_test, by-test, or_left, or_right, or_case, span-high, span-in}
use Rattle.canvas.proofs.Growth.{rectangle-room, fits-columns, fits-rows, visible-column, visible-row, visible-in, fresh_in, fresh-new, fresh-old}
use Rattle.canvas.proofs.Strokes.{Within, covers-visible, colour-more, colour-outside, blank-covers, reach-within, reach-inside}

-- a picture is as long as the canvas that was lent
pub length-picture : (stride : ℕ) (area : Area) (background : List ℕ) (ss : List Stroke) (opening : List ℕ)
    → length (picture stride area background ss opening) ≡ length opening
unfolding picture
length-picture stride area background ss opening = length-replaced 0 _ opening

-- byte k of a picture
pub picture-byte : (stride : ℕ) (area : Area) (background : List ℕ) (ss : List Stroke) (opening : List ℕ) (k : ℕ)
    → k < length opening
    → get_or (picture stride area background ss opening) k 0
    ≡ cond (grid stride (visible area) (k / 4)) (get_or (grid stride (shown_colour background ss) (k / 4)) (k % 4) 0) (get_or opening k 0)
unfolding picture
picture-byte stride area background ss opening k h =
    let shown : ℕ → ℕ = λ n. get_or (grid stride (shown_colour background ss) (n / 4)) (n % 4) 0 in
    get_or-replaced 0 _ opening k h
    ∙ ap (λ (n : ℕ). cond (grid stride (visible area) (n / 4)) (shown n) (get_or opening k 0)) (zero-add k)

-- byte c of the visible pixel (x, y) is byte c of what is shown there
pub picture-pixel : (stride : ℕ) (area : Area) (background : List ℕ) (ss : List Stroke) (opening : List ℕ) (x y c : ℕ)
    → fits stride (length opening) area ≡ true → visible area x y ≡ true → c < 4
    → get_or (picture stride area background ss opening) (4 * (y * stride + x) + c) 0 ≡ get_or (shown_colour background ss x y) c 0
unfolding grid
picture-pixel stride area background ss opening x y c f t h =
    let columns : area.width ≤ stride = fits-columns stride (length opening) area f in
    let left : x < area.width = visible-column area x y t in
    let on : 4 * (y * stride + area.width) ≤ length opening =
    rectangle-room (length opening) stride area.width area.height y columns
    (fits-rows stride (length opening) area f)
    (visible-row area x y t) in
    let k : ℕ = 4 * (y * stride + x) + c in
    let short : x < stride = omega arith in
    let pixel : k / 4 ≡ y * stride + x = omega arith in
    let byte : k % 4 ≡ c = omega arith in
    let column : k / 4 % stride ≡ x = ap (λ (p : ℕ). p % stride) pixel ∙ digits_mod y short in
    let row : k / 4 / stride ≡ y = ap (λ (p : ℕ). p / stride) pixel ∙ digits_div y short in
    picture-byte stride area background ss opening k (omega arith)
    ∙ ap₂ (λ (u v : ℕ). cond (visible area u v) (get_or (shown_colour background ss u v) (k % 4) 0) (get_or opening k 0)) column row
    ∙ ap₂ (λ (b : Bool) (r : ℕ). cond b (get_or (shown_colour background ss x y) r 0) (get_or opening k 0)) t byte

-- ---- one stroke more

-- one byte: the stroke's colour where it covers, which is a visible pixel, and else what was shown
over : (c v : Bool) (b r : ℕ) (colour shown shown' : List ℕ) → (c ≡ true → v ≡ true) → shown' ≡ cond c colour shown
    → cond c (get_or colour r 0) (cond v (get_or shown r 0) b) ≡ cond v (get_or shown' r 0) b
over true true b r colour shown shown' h e = rw e
over true false b r colour shown shown' h e = absurd (true≢false (sym (h refl)))
over false true b r colour shown shown' h e = rw e
over false false b r colour shown shown' h e = refl

-- painting a stroke that lies in the area is adding it to the picture as the last
pub picture-stroke : (stride : ℕ) (area : Area) (background : List ℕ) (ss : List Stroke) (opening : List ℕ) (s : Stroke)
    → inside area s ≡ true
    → stroked stride s (picture stride area background ss opening) ≡ picture stride area background (ss ++ s ∷ []) opening
unfolding stroked painted picture grid
picture-stroke stride area background ss opening s i =
    replaced-twice 0 _ _ opening
    ∙ replaced-same _ _ opening
    (λ k b.
    let x : ℕ = k / 4 % stride in
    let y : ℕ = k / 4 / stride in
    over (covers s x y) (visible area x y) b (k % 4) s.colour (shown_colour background ss x y) (shown_colour background (ss ++ s ∷ []) x y)
    (covers-visible area s x y i)
    (colour-more background ss s x y))

-- ---- a larger area

-- one byte: the background where a pixel is new, since no stroke was shown there, and else what was shown
under : (f o n : Bool) (b r : ℕ) (background shown : List ℕ) → f ≡ (n && not o) → (o ≡ true → n ≡ true) → (o ≡ false → shown ≡ background)
    → cond f (get_or background r 0) (cond o (get_or shown r 0) b) ≡ cond n (get_or shown r 0) b
under f true true b r background shown e h g = rw e
under f true false b r background shown e h g = absurd (true≢false (sym (h refl)))
under f false true b r background shown e h g = rw (e, g refl)
under f false false b r background shown e h g = rw e

visible-within : (old new : Area) → Within old new → (x y : ℕ) → visible old x y ≡ true → visible new x y ≡ true
visible-within old new w x y t =
    visible-in new x y (omega (arith, visible-column old x y t)) (omega (arith, visible-row old x y t))

-- giving the new pixels the background is having the same strokes on the larger area
pub picture-grown : (stride : ℕ) (old new : Area) (background : List ℕ) (ss : List Stroke) (opening : List ℕ)
    → Within old new → all_inside old ss ≡ true
    → grown stride old new background (picture stride old background ss opening) ≡ picture stride new background ss opening
unfolding grown painted picture grid fresh
picture-grown stride old new background ss opening w t =
    replaced-twice 0 _ _ opening
    ∙ replaced-same _ _ opening
    (λ k b.
    let x : ℕ = k / 4 % stride in
    let y : ℕ = k / 4 / stride in
    under (fresh old new x y) (visible old x y) (visible new x y) b (k % 4) background (shown_colour background ss x y)
    refl
    (visible-within old new w x y)
    (colour-outside old background ss x y t))

-- the first pixel alone
pub picture-opened : (stride : ℕ) (background opening : List ℕ)
    → painted (span 0 1) background opening ≡ picture stride (area_of 1 1) background [] opening
unfolding painted picture grid shown_colour colour_at last_stroke
picture-opened stride background opening =
    replaced-same _ _ opening (λ k b. ap (λ (t : Bool). cond t (get_or background (k % 4) 0) b) (corner (k / 4)))
  where
    corner : (p : ℕ) → span 0 1 p ≡ visible (area_of 1 1) (p % stride) (p / stride)
    corner p =
        same_test _ _
        (λ t.
        visible-in (area_of 1 1) (p % stride) (p / stride)
        (omega (arith, span-high 0 1 p t, mod-le p stride))
        (omega (arith, span-high 0 1 p t, div-le_self p stride)))
        (λ t.
        let row : p / stride ≡ 0 = omega (arith, visible-row (area_of 1 1) (p % stride) (p / stride) t) in
        let start : p / stride * stride ≡ 0 * stride = ap (λ (n : ℕ). n * stride) row in
        span-in 0 1 p (omega arith) (omega (arith, visible-column (area_of 1 1) (p % stride) (p / stride) t, div-add-mod' p stride)))

-- ---- several strokes, and one growth for all of them

-- a stroke in the smaller area, before or after the growth
pub grown-stroked : (stride : ℕ) (old new : Area) (background : List ℕ) (s : Stroke) (l : List ℕ) → inside old s ≡ true
    → grown stride old new background (stroked stride s l) ≡ stroked stride s (grown stride old new background l)
unfolding grown stroked grid
grown-stroked stride old new background s l i =
    painted-apart _ _ s.colour background l
    (λ p c.
    no_test _
    (λ f. true≢false (sym (covers-visible old s (p % stride) (p / stride) i c) ∙ fresh-old old new (p % stride) (p / stride) f)))

fresh-both : (a b c : Area) → Within a b → Within b c → (x y : ℕ) → fresh a c x y ≡ (fresh a b x y || fresh b c x y)
fresh-both a b c v w x y =
    same_test _ _
    (λ t.
    by-test (visible b x y)
    (λ mid. or_left (fresh a b x y) (fresh b c x y) (fresh_in a b x y mid (fresh-old a c x y t)))
    (λ mid. or_right (fresh a b x y) (fresh b c x y) (fresh_in b c x y (fresh-new a c x y t) mid)))
    (λ t.
    or_case (fresh a b x y) (fresh b c x y) t
    (λ f. fresh_in a c x y (visible-within b c w x y (fresh-new a b x y f)) (fresh-old a b x y f))
    (λ f. fresh_in a c x y (fresh-new b c x y f) (no_test _ (λ o. true≢false (sym (visible-within a b v x y o) ∙ fresh-old b c x y f)))))

-- two growths are one
pub grown-twice : (stride : ℕ) (a b c : Area) (background l : List ℕ) → Within a b → Within b c
    → grown stride b c background (grown stride a b background l) ≡ grown stride a c background l
unfolding grown grid
grown-twice stride a b c background l v w = painted-both _ _ _ background l (λ p. fresh-both a b c v w (p % stride) (p / stride))

-- no growth
pub grown-none : (stride : ℕ) (area : Area) (background l : List ℕ) → grown stride area area background l ≡ l
unfolding grown grid
grown-none stride area background l =
    painted-none _ background l
    (λ p.
    no_test _
    (λ f. true≢false (sym (fresh-new area area (p % stride) (p / stride) f) ∙ fresh-old area area (p % stride) (p / stride) f)))

within-trans : (a b c : Area) → Within a b → Within b c → Within a c
within-trans a b c v w = record { columns = omega arith; rows = omega arith }

-- what reaches all of the strokes has the area in it
pub reach-all-within : (area : Area) (ss : List Stroke) → Within area (reach_all area ss)
unfolding reach_all
reach-all-within area [] = record { columns = le_refl _; rows = le_refl _ }
reach-all-within area (s ∷ ss) =
    within-trans area (reach area s) (reach_all (reach area s) ss) (reach-within area s) (reach-all-within (reach area s) ss)

-- growing once for several strokes is growing for each
pub grown-once : (stride : ℕ) (area : Area) (background : List ℕ) (ss : List Stroke) (l : List ℕ)
    → grown_each stride area background ss l ≡ stroked_all stride ss (grown stride area (reach_all area ss) background l)
unfolding grown_each stroked_all reach_all
grown-once stride area background [] l = sym (grown-none stride area background l)
grown-once stride area background (s ∷ ss) l =
    let mid : Area = reach area s in
    let all : Area = reach_all mid ss in
    grown-once stride mid background ss (stroked stride s (grown stride area mid background l))
    ∙ ap (stroked_all stride ss)
    (grown-stroked stride mid all background s (grown stride area mid background l) (reach-inside area s)
    ∙ ap (stroked stride s) (grown-twice stride area mid all background l (reach-within area s) (reach-all-within mid ss)))

-- ---- a blank stroke

-- a stroke with no bit changes no picture
pub picture-blank : (stride : ℕ) (area : Area) (background : List ℕ) (ss : List Stroke) (opening : List ℕ) (s : Stroke) → s.bits ≡ 0
    → picture stride area background (ss ++ s ∷ []) opening ≡ picture stride area background ss opening
unfolding picture grid
picture-blank stride area background ss opening s e =
    replaced-same _ _ opening
    (λ k b.
    let x : ℕ = k / 4 % stride in
    let y : ℕ = k / 4 / stride in
    ap (λ (colour : List ℕ). cond (visible area x y) (get_or colour (k % 4) 0) b)
    (colour-more background ss s x y ∙ ap (λ (t : Bool). cond t s.colour (shown_colour background ss x y)) (blank-covers s e x y)))

-- ---- the opening

-- two openings that agree outside the area have one picture
pub picture-outside : (stride : ℕ) (area : Area) (background : List ℕ) (ss : List Stroke) (o o' : List ℕ) → length o ≡ length o'
    → ((k : ℕ) → k < length o → grid stride (visible area) (k / 4) ≡ false → get_or o k 0 ≡ get_or o' k 0)
    → picture stride area background ss o ≡ picture stride area background ss o'
picture-outside stride area background ss o o' long same =
    ext_get_or 0 (picture stride area background ss o) (picture stride area background ss o')
    (length-picture stride area background ss o ∙ long ∙ sym (length-picture stride area background ss o'))
    (λ k h.
    let h₁ : k < length o = rw (length-picture stride area background ss o) at h in
    let h₂ : k < length o' = rw long at h₁ in
    picture-byte stride area background ss o k h₁
    ∙ alike (grid stride (visible area) (k / 4)) _ (get_or o k 0) (get_or o' k 0) (same k h₁)
    ∙ sym (picture-byte stride area background ss o' k h₂))
  where
    alike : (t : Bool) (a b b' : ℕ) → (t ≡ false → b ≡ b') → cond t a b ≡ cond t a b'
    alike true a b b' e = refl
    alike false a b b' e = e refl
