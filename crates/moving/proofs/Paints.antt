-- Paints laid on a canvas in turn: what they touch, what they leave, and which canvases they make one.
-- Assumes nothing.
use Rattle.std.specs.Prelude.{◌≡◌, ℕ, ◌/◌, ◌%◌, ◌<◌, Bool, false, cond, ◌||◌, List, [], ◌∷◌, ◌++◌, length, get_or}
use mathlib.Core.Path.{refl, sym, ap, ◌∙◌}
use lib.Seq.{ext_get_or}
use Rattle.canvas.specs.Picture.{grid}
use Rattle.canvas.specs.Paint.{painted}
use Rattle.canvas.proofs.Bytes.{length-painted, get_or-painted}
use Rattle.canvas.proofs.Covers.{by-test}
use Rattle.meaning.proofs.Cases.{neither}
use Rattle.colours.specs.declared.Palette.{Palette}
use Rattle.frame.specs.declared.Progress.{Progress}
use Rattle.reference.specs.Step.{Reached}

-- one paint: which pixels, by column and row, and with which four bytes
pub record Paint : Type 0 where
  pub cover : ℕ → ℕ → Bool
  pub colour : List ℕ

-- a canvas with paints laid on in turn
unfoldable pub laid : ℕ → List Paint → List ℕ → List ℕ
laid stride [] l = l
laid stride (c ∷ cs) l = laid stride cs (painted (grid stride c.cover) c.colour l)

-- one of the paints touches the pixel
unfoldable pub touched : List Paint → ℕ → ℕ → Bool
touched [] x y = false
touched (c ∷ cs) x y = c.cover x y || touched cs x y

-- where paints on any canvas lead: to this answer and this palette
abbrev pub Leads : ℕ → List Paint → Progress → Palette → (List ℕ → Reached) → Type 0
Leads stride plan r q F = (l : List ℕ) → F l ≡ record { progress = r; palette = q; canvas = laid stride plan l }

-- what is made of any canvas: the same answer, frame and palette, and these paints laid on
abbrev pub Paints : ℕ → List Paint → (List ℕ → Reached) → Type 0
Paints stride plan F = (l : List ℕ) → F l ≡ record { progress = (F []).progress; palette = (F []).palette; canvas = laid stride plan l }

-- where they lead to is what the empty canvas leads to
pub leads-paints : {r : Progress} {q : Palette} (stride : ℕ) (plan : List Paint) (F : List ℕ → Reached) → Leads stride plan r q F
    → Paints stride plan F
leads-paints {r} {q} stride plan F e l =
    e l
    ∙ ap (λ (x : Progress). record { progress = x; palette = q; canvas = laid stride plan l }) (sym (ap (λ (t : Reached). t.progress) (e [])))
    ∙ ap (λ (x : Palette). record { progress = (F []).progress; palette = x; canvas = laid stride plan l }) (sym (ap (λ (t : Reached). t.palette) (e [])))

-- some paints and then others
pub laid-append : (stride : ℕ) (a b : List Paint) (l : List ℕ) → laid stride (a ++ b) l ≡ laid stride b (laid stride a l)
unfolding laid
laid-append stride [] b l = refl
laid-append stride (c ∷ cs) b l = laid-append stride cs b (painted (grid stride c.cover) c.colour l)

-- the canvas is as long as before
pub length-laid : (stride : ℕ) (plan : List Paint) (l : List ℕ) → length (laid stride plan l) ≡ length l
unfolding laid
length-laid stride [] l = refl
length-laid stride (c ∷ cs) l = length-laid stride cs (painted (grid stride c.cover) c.colour l) ∙ length-painted _ c.colour l

-- a pixel that some paints and others leave is left by the first of them
pub untouched-before : (a b : List Paint) (x y : ℕ) → touched (a ++ b) x y ≡ false → touched a x y ≡ false
unfolding touched
untouched-before [] b x y e = refl
untouched-before (c ∷ cs) b x y e =
    let n = neither (c.cover x y) (touched (cs ++ b) x y) e in
    rw n.0 (untouched-before cs b x y n.1)

-- a byte of a pixel that the cover has not
unpainted : (cover : ℕ → Bool) (px l : List ℕ) (k : ℕ) → k < length l → cover (k / 4) ≡ false → get_or (painted cover px l) k 0 ≡ get_or l k 0
unpainted cover px l k h e = get_or-painted cover px l k h ∙ ap (λ (t : Bool). cond t (get_or px (k % 4) 0) (get_or l k 0)) e

-- an untouched byte stays
pub laid-untouched : (stride : ℕ) (plan : List Paint) (l : List ℕ) (k : ℕ) → k < length l → grid stride (touched plan) (k / 4) ≡ false
    → get_or (laid stride plan l) k 0 ≡ get_or l k 0
unfolding laid touched grid
laid-untouched stride [] l k h e = refl
laid-untouched stride (c ∷ cs) l k h e =
    let n = neither (c.cover (k / 4 % stride) (k / 4 / stride)) (touched cs (k / 4 % stride) (k / 4 / stride)) e in
    laid-untouched stride cs (painted (grid stride c.cover) c.colour l) k (rw length-painted h) n.1
    ∙ unpainted (grid stride c.cover) c.colour l k h n.0

-- canvases of one length that agree at every untouched byte become the same canvas
pub laid-alike : (stride : ℕ) (plan : List Paint) (l l' : List ℕ) → length l' ≡ length l
    → ((k : ℕ) → k < length l → grid stride (touched plan) (k / 4) ≡ false → get_or l' k 0 ≡ get_or l k 0)
    → laid stride plan l' ≡ laid stride plan l
unfolding laid touched grid
laid-alike stride [] l l' long agree = ext_get_or 0 l' l long (λ k h. agree k (rw long at h) refl)
laid-alike stride (c ∷ cs) l l' long agree =
    laid-alike stride cs (painted cover c.colour l) (painted cover c.colour l')
    (length-painted cover c.colour l' ∙ long ∙ sym (length-painted cover c.colour l))
    (λ k h free.
    let h₁ : k < length l = rw (length-painted cover c.colour l) at h in
    let h₂ : k < length l' = rw long h₁ in
    get_or-painted cover c.colour l' k h₂
    ∙ by-test {P = cond (cover (k / 4)) (get_or c.colour (k % 4) 0) (get_or l' k 0) ≡ cond (cover (k / 4)) (get_or c.colour (k % 4) 0) (get_or l k 0)}
    (cover (k / 4)) (λ t. rw t) (λ t. rw t (agree k h₁ (rw (t, free))))
    ∙ sym (get_or-painted cover c.colour l k h₁))
  where
    cover : ℕ → Bool
    cover = grid stride c.cover
