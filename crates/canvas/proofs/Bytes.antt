-- Laws of `replaced` and `painted`: lists of bytes changed place by place.
-- Assumes nothing.
use mathlib.Core.Path.{◌≡◌, refl, sym, ap, ◌∙◌}
use mathlib.Core.Bool.{Bool, true, false, cond, ◌||◌}
use mathlib.Core.List.{List, [], ◌∷◌}
use Prim.Native.Nat.{ℕ, zero, suc, ◌+◌, ◌/◌, ◌%◌, ◌<◌}
use native.Mathlib.Nat.{add-zero, zero-add, suc-add, add-suc, not-suc-le-zero, le_of_suc-le-suc}
use lib.ListN.{length, get_or}
use lib.Seq.{ext_get_or}
use Rattle.canvas.specs.Picture.{replaced}
use Rattle.canvas.specs.Paint.{painted}

pub length-replaced : (k : ℕ) (f : ℕ → ℕ → ℕ) (l : List ℕ) → length (replaced k f l) ≡ length l
unfolding replaced
length-replaced k f [] = refl
length-replaced k f (b ∷ bs) = ap suc (length-replaced (suc k) f bs)

pub get_or-replaced : (k : ℕ) (f : ℕ → ℕ → ℕ) (l : List ℕ) (i : ℕ) → i < length l → get_or (replaced k f l) i 0 ≡ f (k + i) (get_or l i 0)
unfolding replaced
get_or-replaced k f [] i h = absurd (not-suc-le-zero h)
get_or-replaced k f (b ∷ bs) zero h = ap (λ (n : ℕ). f n b) (sym (add-zero k))
get_or-replaced k f (b ∷ bs) (suc i) h =
    get_or-replaced (suc k) f bs i (le_of_suc-le-suc h) ∙ ap (λ (n : ℕ). f n (get_or bs i 0)) (suc-add k i ∙ sym (add-suc k i))

-- two changes in turn are one
pub replaced-twice : (k : ℕ) (f g : ℕ → ℕ → ℕ) (l : List ℕ) → replaced k g (replaced k f l) ≡ replaced k (λ i b. g i (f i b)) l
unfolding replaced
replaced-twice k f g [] = refl
replaced-twice k f g (b ∷ bs) = ap {B = List ℕ} (λ r. g k (f k b) ∷ r) (replaced-twice (suc k) f g bs)

-- a change that leaves each byte
pub replaced-none : (k : ℕ) (f : ℕ → ℕ → ℕ) (l : List ℕ) → ((i b : ℕ) → f i b ≡ b) → replaced k f l ≡ l
unfolding replaced
replaced-none k f [] e = refl
replaced-none k f (b ∷ bs) e =
    ap {A = ℕ} {B = List ℕ} (λ r. r ∷ replaced (suc k) f bs) (e k b) ∙ ap {B = List ℕ} (λ r. b ∷ r) (replaced-none (suc k) f bs e)

-- two changes that agree at each place of the list
pub replaced-alike : (f g : ℕ → ℕ → ℕ) (l : List ℕ) → ((i : ℕ) → i < length l → f i (get_or l i 0) ≡ g i (get_or l i 0))
    → replaced 0 f l ≡ replaced 0 g l
replaced-alike f g l e =
    ext_get_or 0 (replaced 0 f l) (replaced 0 g l) (length-replaced 0 f l ∙ sym (length-replaced 0 g l))
    (λ i h.
    let h' : i < length l = rw (length-replaced 0 f l) at h in
    get_or-replaced 0 f l i h'
    ∙ ap (λ (n : ℕ). f n (get_or l i 0)) (zero-add i)
    ∙ e i h'
    ∙ ap (λ (n : ℕ). g n (get_or l i 0)) (sym (zero-add i))
    ∙ sym (get_or-replaced 0 g l i h'))

-- two changes that are the same
pub replaced-same : (f g : ℕ → ℕ → ℕ) (l : List ℕ) → ((i b : ℕ) → f i b ≡ g i b) → replaced 0 f l ≡ replaced 0 g l
replaced-same f g l e = replaced-alike f g l (λ i h. e i (get_or l i 0))

pub length-painted : (cover : ℕ → Bool) (px l : List ℕ) → length (painted cover px l) ≡ length l
unfolding painted
length-painted cover px l = length-replaced 0 _ l

pub get_or-painted : (cover : ℕ → Bool) (px l : List ℕ) (i : ℕ) → i < length l
    → get_or (painted cover px l) i 0 ≡ cond (cover (i / 4)) (get_or px (i % 4) 0) (get_or l i 0)
unfolding painted
get_or-painted cover px l i h =
    get_or-replaced 0 _ l i h ∙ ap (λ (n : ℕ). cond (cover (n / 4)) (get_or px (n % 4) 0) (get_or l i 0)) (zero-add i)

-- the same pixels
pub painted_same : (c₁ c₂ : ℕ → Bool) (px l : List ℕ) → ((p : ℕ) → c₁ p ≡ c₂ p) → painted c₁ px l ≡ painted c₂ px l
unfolding painted
painted_same c₁ c₂ px l e = replaced-same _ _ l (λ i b. ap (λ (t : Bool). cond t (get_or px (i % 4) 0) b) (e (i / 4)))

-- no pixel
pub painted-none : (cover : ℕ → Bool) (px l : List ℕ) → ((p : ℕ) → cover p ≡ false) → painted cover px l ≡ l
unfolding painted
painted-none cover px l e = replaced-none 0 _ l (λ i b. ap (λ (t : Bool). cond t (get_or px (i % 4) 0) b) (e (i / 4)))

either : (s t u : Bool) (a b : ℕ) → u ≡ (s || t) → cond t a (cond s a b) ≡ cond u a b
either true true u a b e = rw e
either true false u a b e = rw e
either false true u a b e = rw e
either false false u a b e = rw e

-- one pixel painted on two covers in turn is painted on both
pub painted-both : (c₁ c₂ c : ℕ → Bool) (px l : List ℕ) → ((p : ℕ) → c p ≡ (c₁ p || c₂ p))
    → painted c₂ px (painted c₁ px l) ≡ painted c px l
unfolding painted
painted-both c₁ c₂ c px l e =
    replaced-twice 0 _ _ l
    ∙ replaced-same _ _ l (λ i b. either (c₁ (i / 4)) (c₂ (i / 4)) (c (i / 4)) (get_or px (i % 4) 0) b (e (i / 4)))

other : (s t : Bool) (a b d : ℕ) → (s ≡ true → t ≡ false) → cond t a (cond s d b) ≡ cond s d (cond t a b)
other true true a b d h = let z : true ≡ false = h refl in absurd (mathlib.Core.Bool.true≢false z)
other true false a b d h = refl
other false true a b d h = refl
other false false a b d h = refl

-- two covers with no pixel in common may be painted in either order
pub painted-apart : (c₁ c₂ : ℕ → Bool) (px₁ px₂ l : List ℕ) → ((p : ℕ) → c₁ p ≡ true → c₂ p ≡ false)
    → painted c₂ px₂ (painted c₁ px₁ l) ≡ painted c₁ px₁ (painted c₂ px₂ l)
unfolding painted
painted-apart c₁ c₂ px₁ px₂ l e =
    replaced-twice 0 _ _ l
    ∙ replaced-same _ _ l (λ i b. other (c₁ (i / 4)) (c₂ (i / 4)) (get_or px₂ (i % 4) 0) b (get_or px₁ (i % 4) 0) (e (i / 4)))
    ∙ sym (replaced-twice 0 _ _ l)
