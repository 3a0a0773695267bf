-- Laws of marks: what lasts from frame to frame, what a colour command and the owner's own setting do to a mark, and how marks are counted.
-- Assumes nothing.
use mathlib.Core.Path.{◌≡◌, refl, sym, ap, ◌∙◌}
use mathlib.Core.Bool.{Bool, true, false, cond, ◌&&◌, ◌||◌, and-eq-true_iff}
use mathlib.Core.List.{List, [], ◌∷◌}
use Prim.Native.Nat.{ℕ, zero, suc, ◌+◌, ◌*◌, ◌/◌, ◌%◌, ◌≤◌, ◌<◌, min}
use native.Mathlib.Nat.{add-zero, add-suc, suc-add, zero-add}
use native.Mathlib.Omega.{arith}
use borrow.Author.Tests.{ltb-true, ltb-false, eqb-true, eqb-false, ne_eqb}
use lib.Dec.{eqb, ltb, lit<}
use lib.IntN.{ℤ}
use lib.ListN.{length, get_or, set, length-set}
use lib.Seq.{get_or-set_same, get_or-set_other, set-get_or}
use Rattle.hls.specs.Hls.{pick}
use Rattle.hls.specs.Percent.{held, percent_byte}
use Rattle.colours.specs.declared.Palette.{Palette}
use Rattle.colours.specs.Packing.{packed, pixel_of}
use Rattle.colours.specs.Standard.{percents, base, cube, grey, standard_at, listed}
use Rattle.colours.specs.Palette.{register_count, colour_unit, of_table, standard, register_of, recoloured, stored, set_rgb, set_hls}
use Rattle.colours.specs.Marks.{mark_unit, frame_unit, is_marked, is_defined, defined, lasting, counted}
use Rattle.colours.proofs.Filling.{length-listed}
use Rattle.colours.proofs.LegendLaws.{get_or-listed}

-- both cases of a choice
pick-case : {A : Type 0} (P : A → Type 0) (t : Bool) {x y : A} → (t ≡ true → P x) → (t ≡ false → P y) → P (pick t x y)
pick-case P true f g = f refl
pick-case P false f g = g refl

-- ---- tables

-- a store that f can't tell from another
set-alike : {A : Type 0} (f : ℕ → A) (l : List ℕ) (k v w j : ℕ) → f v ≡ f w → f (get_or (set l k v) j 0) ≡ f (get_or (set l k w) j 0)
set-alike f [] k v w j e = refl
set-alike f (x ∷ l) zero v w zero e = e
set-alike f (x ∷ l) zero v w (suc j) e = refl
set-alike f (x ∷ l) (suc k) v w zero e = refl
set-alike f (x ∷ l) (suc k) v w (suc j) e = set-alike f l k v w j e

-- nor from what stood there: it changes nothing that f tells
set_keeps : {A : Type 0} (f : ℕ → A) (l : List ℕ) (k v j : ℕ) → f v ≡ f (get_or l k 0) → f (get_or (set l k v) j 0) ≡ f (get_or l j 0)
set_keeps f l k v j e = set-alike f l k v (get_or l k 0) j e ∙ ap (λ (m : List ℕ). f (get_or m j 0)) (set-get_or l k 0)

-- a store, and what stands elsewhere
set-shown : {A : Type 0} (f : ℕ → A) (l : List ℕ) (k v j : ℕ) → k < length l
    → f (get_or (set l k v) j 0) ≡ cond (eqb j k) (f v) (f (get_or l j 0))
set-shown f l k v j h = go (eqb j k) refl
  where
    go : (t : Bool) → eqb j k ≡ t → f (get_or (set l k v) j 0) ≡ cond t (f v) (f (get_or l j 0))
    go true e = rw (eqb-true j k e) (ap f (get_or-set_same l k v 0 h))
    go false e = ap f (get_or-set_other l k j v 0 (eqb-false j k e))

-- a value of a table, by its place
get_or-first : (f : ℕ → ℕ) (n k : ℕ) → k < n → get_or (listed f 0 n) k 0 ≡ f k
get_or-first f n k h = get_or-listed f 0 n k h ∙ ap f (zero-add k)

-- the same values by the place are the same table
listed_same : (f g : ℕ → ℕ) (i n : ℕ) → ((k : ℕ) → k < n → f (i + k) ≡ g (i + k)) → listed f i n ≡ listed g i n
unfolding listed
listed_same f g i zero h = refl
listed_same f g i (suc n) h =
    let first : f i ≡ g i = rw (← add-zero i) (h 0 (omega arith)) in
    rw (first, listed_same f g (suc i) n (λ k less. rw (suc-add i k, ← add-suc i k) (h (suc k) (omega arith))))

-- ---- registers

-- a palette of 256 registers, as every frame's is
abbrev pub IsWhole : Palette → Type 0
IsWhole p = length p.colors ≡ register_count

-- ---- what lasts

pub lasting-whole : (p : Palette) → IsWhole (lasting p)
unfolding lasting of_table
lasting-whole p = length-listed _ 0 register_count

-- Every register keeps its mark.
pub lasting-marked : (p : Palette) (n : ℕ) → is_marked (lasting p) n ≡ is_marked p n
unfolding is_marked lasting of_table
lasting-marked p n =
    let here : get_or (lasting p).colors (min n 255) 0 ≡ _ = get_or-first _ register_count (min n 255) (omega arith) in
    let mark : get_or (lasting p).colors (min n 255) 0 / 16777216 % 2 ≡ get_or p.colors (min n 255) 0 / 16777216 % 2 = omega arith in
    rw mark

-- No frame has defined it yet.
pub lasting-defined : (p : Palette) (n : ℕ) → is_defined (lasting p) n ≡ false
unfolding is_defined lasting of_table
lasting-defined p n =
    let here : get_or (lasting p).colors (min n 255) 0 ≡ _ = get_or-first _ register_count (min n 255) (omega arith) in
    let none : get_or (lasting p).colors (min n 255) 0 / 33554432 % 2 ≡ 0 = omega arith in
    rw none refl

-- It keeps its colour.
pub lasting-register : (p : Palette) (n : ℕ) → register_of (lasting p) n ≡ register_of p n
unfolding register_of pixel_of lasting of_table
lasting-register p n =
    let here : get_or (lasting p).colors (min n 255) 0 ≡ _ = get_or-first _ register_count (min n 255) (omega arith) in
    let red : get_or (lasting p).colors (min n 255) 0 / 65536 % 256 ≡ get_or p.colors (min n 255) 0 / 65536 % 256 = omega arith in
    let green : get_or (lasting p).colors (min n 255) 0 / 256 % 256 ≡ get_or p.colors (min n 255) 0 / 256 % 256 = omega arith in
    let blue : get_or (lasting p).colors (min n 255) 0 % 256 ≡ get_or p.colors (min n 255) 0 % 256 = omega arith in
    rw (red, green, blue)

-- What lasts of that is the same.
pub lasting-twice : (p : Palette) → lasting (lasting p) ≡ lasting p
unfolding lasting of_table
lasting-twice p =
    ap of_table
    (listed_same _ _ 0 register_count
    (λ k less.
    let here : get_or (lasting p).colors (0 + k) 0 ≡ _ = get_or-first _ register_count (0 + k) (omega arith) in
    omega arith))

-- ---- the owner's own setting

-- what f tells of a number, it tells of the number with another colour
stored-keeps : {A : Type 0} (f : ℕ → A) (p : Palette) (k color n : ℕ)
    → ((number : ℕ) → f (recoloured number color) ≡ f number)
    → f (get_or (stored p k color).colors (min n 255) 0) ≡ f (get_or p.colors (min n 255) 0)
unfolding stored of_table
stored-keeps f p k color n same =
    pick-case (λ (q : Palette). f (get_or q.colors (min n 255) 0) ≡ f (get_or p.colors (min n 255) 0)) (ltb k register_count)
    (λ _. set_keeps f p.colors k _ (min n 255) (same _))
    (λ _. refl)

-- A colour of the owner's own leaves every mark.
pub stored-marked : (p : Palette) (k color n : ℕ) → is_marked (stored p k color) n ≡ is_marked p n
unfolding is_marked recoloured
stored-marked p k color n =
    stored-keeps (λ v. eqb (v / mark_unit % 2) 1) p k color n
    (λ number.
    let mark : recoloured number color / 16777216 % 2 ≡ number / 16777216 % 2 = omega arith in
    rw mark)

-- So it is by percents and by HLS.
pub rgb-marked : (p : Palette) (k : ℕ) (r g b : ℤ) (n : ℕ) → is_marked (set_rgb p k r g b) n ≡ is_marked p n
unfolding set_rgb
rgb-marked p k r g b n = stored-marked p k _ n

pub hls-marked : (p : Palette) (k : ℕ) (h l s : ℤ) (n : ℕ) → is_marked (set_hls p k h l s) n ≡ is_marked p n
unfolding set_hls
hls-marked p k h l s n = stored-marked p k _ n

-- ---- a colour command

pub defined-whole : (p : Palette) (k color : ℕ) → IsWhole p → IsWhole (defined p k color)
unfolding defined of_table
defined-whole p k color h = pick-case IsWhole (ltb k register_count) (λ _. length-set p.colors k _ ∙ h) (λ _. h)

-- what f tells of the command's number, it tells of its register, and of the others what it told before
defined-shows : {A : Type 0} (f : ℕ → A) (p : Palette) (k color n : ℕ) → IsWhole p
    → f (get_or (defined p k color).colors (min n 255) 0)
    ≡ cond (eqb (min n 255) k) (f (frame_unit + mark_unit + color % colour_unit)) (f (get_or p.colors (min n 255) 0))
unfolding defined of_table
defined-shows f p k color n h =
    pick-case
    (λ (q : Palette).
    f (get_or q.colors (min n 255) 0)
    ≡ cond (eqb (min n 255) k) (f (frame_unit + mark_unit + color % colour_unit)) (f (get_or p.colors (min n 255) 0)))
    (ltb k register_count)
    (λ e. let low : k < 256 = ltb-true k 256 e in set-shown f p.colors k _ (min n 255) (rw h low))
    (λ e.
    let high : 256 ≤ k = ltb-false k 256 e in
    let other : eqb (min n 255) k ≡ false = ne_eqb (min n 255) k (omega arith) in
    rw other refl)

-- a test that the command's number passes
passes : (t old : Bool) → cond t true old ≡ (t || old)
passes true old = refl
passes false old = refl

-- It marks its register and leaves the other marks.
pub command-marked : (p : Palette) (k color n : ℕ) → IsWhole p → is_marked (defined p k color) n ≡ (eqb (min n 255) k || is_marked p n)
unfolding is_marked
command-marked p k color n h =
    let bit : (33554432 + 16777216 + color % 16777216) / 16777216 % 2 ≡ 1 = omega arith in
    defined-shows (λ v. eqb (v / mark_unit % 2) 1) p k color n h ∙ rw bit (passes (eqb (min n 255) k) _)

-- It counts its register among those that this frame defined.
pub command-defined : (p : Palette) (k color n : ℕ) → IsWhole p → is_defined (defined p k color) n ≡ (eqb (min n 255) k || is_defined p n)
unfolding is_defined
command-defined p k color n h =
    let bit : (33554432 + 16777216 + color % 16777216) / 33554432 % 2 ≡ 1 = omega arith in
    defined-shows (λ v. eqb (v / frame_unit % 2) 1) p k color n h ∙ rw bit (passes (eqb (min n 255) k) _)

-- the number's pixel is the colour's
pixel-defined : (color : ℕ) → pixel_of (frame_unit + mark_unit + color % colour_unit) ≡ pixel_of color
unfolding pixel_of
pixel-defined color =
    let red : (33554432 + 16777216 + color % 16777216) / 65536 % 256 ≡ color / 65536 % 256 = omega arith in
    let green : (33554432 + 16777216 + color % 16777216) / 256 % 256 ≡ color / 256 % 256 = omega arith in
    let blue : (33554432 + 16777216 + color % 16777216) % 256 ≡ color % 256 = omega arith in
    rw (red, green, blue)

-- so is that of a register with another colour
pixel-recoloured : (number color : ℕ) → pixel_of (recoloured number color) ≡ pixel_of color
unfolding pixel_of recoloured
pixel-recoloured number color =
    let red : (number / 16777216 % 2 * 16777216 + color % 16777216) / 65536 % 256 ≡ color / 65536 % 256 = omega arith in
    let green : (number / 16777216 % 2 * 16777216 + color % 16777216) / 256 % 256 ≡ color / 256 % 256 = omega arith in
    let blue : (number / 16777216 % 2 * 16777216 + color % 16777216) % 256 ≡ color % 256 = omega arith in
    rw (red, green, blue)

-- It gives its register the colour and leaves the other colours.
pub command-register : (p : Palette) (k color n : ℕ) → IsWhole p
    → register_of (defined p k color) n ≡ cond (eqb (min n 255) k) (pixel_of color) (register_of p n)
unfolding register_of
command-register p k color n h = defined-shows pixel_of p k color n h ∙ rw (pixel-defined color) refl

-- That is what the owner's own setting gives.
pub command-as-owner : (p : Palette) (k color n : ℕ) → register_of (defined p k color) n ≡ register_of (stored p k color) n
unfolding register_of defined stored of_table
command-as-owner p k color n = go (ltb k register_count)
  where
    here : ℕ
    here = recoloured (get_or p.colors k 0) color

    go : (t : Bool)
        → pixel_of (get_or (pick t (of_table (set p.colors k (frame_unit + mark_unit + color % colour_unit))) p).colors (min n 255) 0)
        ≡ pixel_of (get_or (pick t (of_table (set p.colors k here)) p).colors (min n 255) 0)
    go true =
        set-alike pixel_of p.colors k _ here (min n 255)
        (pixel-defined color ∙ sym (pixel-recoloured (get_or p.colors k 0) color))
    go false = refl

-- ---- the standard palette

-- every number of a table is below m
unfoldable all_below : ℕ → List ℕ → Bool
all_below m [] = true
all_below m (x ∷ l) = ltb x m && all_below m l

below : (m : ℕ) → 0 < m → (l : List ℕ) → all_below m l ≡ true → (n : ℕ) → get_or l n 0 < m
unfolding all_below
below m h [] e n = h
below m h (x ∷ l) e zero = ltb-true x m ((and-eq-true_iff (ltb x m) (all_below m l)).0 e).0
below m h (x ∷ l) e (suc n) = below m h l ((and-eq-true_iff (ltb x m) (all_below m l)).0 e).1 n

-- its numbers are colours alone
standard-below : all_below colour_unit standard.colors ≡ true
unfolding all_below standard of_table listed standard_at base cube grey percents packed percent_byte held
standard-below = refl

standard-number : (n : ℕ) → get_or standard.colors n 0 < colour_unit
standard-number = below colour_unit (lit< tt) standard.colors standard-below

-- No register of it is marked, nor defined by a frame.
pub standard-marked : (n : ℕ) → is_marked standard n ≡ false
unfolding is_marked
standard-marked n =
    let colour = standard-number (min n 255) in
    let none : get_or standard.colors (min n 255) 0 / 16777216 % 2 ≡ 0 = omega arith in
    rw none refl

pub standard-defined : (n : ℕ) → is_defined standard n ≡ false
unfolding is_defined
standard-defined n =
    let colour = standard-number (min n 255) in
    let none : get_or standard.colors (min n 255) 0 / 33554432 % 2 ≡ 0 = omega arith in
    rw none refl

-- ---- counting

-- what holds of the same registers is counted the same
pub counted_same : (f g : ℕ → Bool) (n : ℕ) → ((k : ℕ) → k < n → f k ≡ g k) → counted f n ≡ counted g n
unfolding counted
counted_same f g zero h = refl
counted_same f g (suc n) h = rw (counted_same f g n (λ k less. h k (omega arith)), h n (omega arith))

-- each register counts once at most
pub counted-most : (f : ℕ → Bool) (n : ℕ) → counted f n ≤ n
unfolding counted
counted-most f zero = omega arith
counted-most f (suc n) = go (f n) (counted-most f n)
  where
    go : (t : Bool) → counted f n ≤ n → counted f n + cond t 1 0 ≤ suc n
    go true h = omega arith
    go false h = omega arith
