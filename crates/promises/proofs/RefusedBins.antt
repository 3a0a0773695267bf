-- 12, 15 and 16 of the bin reader's three questions are given exactly when rule 11.5 says, in this order, and no other number is.
use Prim.Native.Nat.{ℕ, ◌+◌, ◌*◌, ◌≤◌, ◌<◌}
use mathlib.Core.Bool.{Bool, true, false, cond}
use mathlib.Core.List.{List}
use mathlib.Core.Logic.{◌↔◌, ◌⊎◌, inl, inr}
use mathlib.Core.Path.{◌≡◌, refl, sym, ap, ◌∙◌}
use native.Mathlib.Omega.{arith}
use lib.ListN.{length}
use Rattle.canvas.specs.Picture.{area_of, span}
use Rattle.bins.specs.declared.Shape.{Shape}
use Rattle.bins.specs.declared.Setting.{Setting}
use Rattle.bins.specs.declared.Refusal.{Refusal}
use Rattle.bins.specs.declared.ColumnSpan.{ColumnSpan}
use Rattle.std.specs.Prelude as rust
use Rattle.std.specs.Prelude.{Result, Ok, Err}
use Rattle.bins.specs.Bins.{number_of, covered, Answer, told, refused, picture_fits, setting_fits, answered, asked_bin, asked_columns, asked_top}
use Rattle.bins.specs.Told.{bin_told, columns_told, row_told, top_told}
use Rattle.promises.proofs.Choices.{Tells, tells-less, tells-most, tells-and, later-case, only-case}
use Rattle.promises.proofs.RefusedCopies.{HasPicture, tells-picture}

-- the canvas has the picture, as in copying
abbrev pub Pictured : Shape → ℕ → Type 0
Pictured p size = HasPicture p.stride size (area_of p.width p.height)

-- a width of 1 or more, 1 to 512 bins, and the last column in a picture of this width
abbrev pub InRange : Setting → ℕ → Type 0
InRange s width = (1 ≤ s.width) × ((1 ≤ s.count) × ((s.count ≤ 512) × (s.origin + s.count * s.width ≤ width)))

-- a column from the origin on, and not past the last one
abbrev pub ColumnInside : Setting → ℕ → Type 0
ColumnInside s column = (s.origin ≤ column) × (column < s.origin + s.count * s.width)

tells-range : (s : Setting) (width : ℕ) → Tells (setting_fits s width) (InRange s width)
unfolding setting_fits
tells-range s width = tells-and (tells-most _ _) (tells-and (tells-most _ _) (tells-and (tells-most _ _) (tells-most _ _)))

tells-covered : (s : Setting) (column : ℕ) → Tells (covered s column) (ColumnInside s column)
unfolding covered span
tells-covered s column = tells-and (tells-most _ _) (tells-less _ _)

-- Each number of a question's answer, exactly when: `says n` is that the answer is a refusal by n, `Inside` that what is asked for
-- lies in the setting.
pub record RefusedExactly (p : Shape) (size : ℕ) (s : Setting) (Inside : Type 0) (says : ℕ → Type 0) : Type 0 where
  pub twelve : says 12 ↔ (¬ Pictured p size)
  pub fifteen : says 15 ↔ (Pictured p size × ¬ InRange s p.width)
  pub sixteen : says 16 ↔ (Pictured p size × (InRange s p.width × ¬ Inside))
  pub only : (n : ℕ) → says n → (n ≡ 12) ⊎ ((n ≡ 15) ⊎ (n ≡ 16))

-- ---- of the definition

refused-number : {A : Type 0} {m n : ℕ} → ¬ (m ≡ n) → ◌≡◌ {A = Answer A} (refused m) (refused n) → ⊥
refused-number differ e = differ (cc)

told-refused : {A : Type 0} {a : A} {n : ℕ} → told a ≡ refused n → ⊥
told-refused e = let clash : ◌≡◌ {A = ℕ} 0 1 = cc in omega arith

module _ {A : Type 0} (p : Shape) (size : ℕ) (s : Setting) {inside : Bool} {Inside : Type 0}
    (tells-inside : Tells inside Inside) (a : A) where
  abbrev picture : Tells (picture_fits p size) (Pictured p size)
  picture = tells-picture p.stride size (area_of p.width p.height)

  abbrev range : Tells (setting_fits s p.width) (InRange s p.width)
  range = tells-range s p.width

  abbrev last : Bool → Answer A
  last v = cond v (told a) (refused 16)

  abbrev later : Bool → Bool → Answer A
  later u v = cond u (last v) (refused 15)

  last-never : (n : ℕ) → ¬ (16 ≡ n) → (v : Bool) → last v ≡ refused n → ⊥
  last-never n differ true e = told-refused e
  last-never n differ false e = refused-number differ e

  later-never : (n : ℕ) → ¬ (15 ≡ n) → ¬ (16 ≡ n) → (u v : Bool) → later u v ≡ refused n → ⊥
  later-never n fifteen sixteen true v e = last-never n sixteen v e
  later-never n fifteen sixteen false v e = refused-number fifteen e

  some_number : (t u v : Bool) (n : ℕ) → cond t (later u v) (refused 12) ≡ refused n → (n ≡ 12) ⊎ ((n ≡ 15) ⊎ (n ≡ 16))
  some_number true true true n e = absurd (told-refused e)
  some_number true true false n e = inr (inr (cc))
  some_number true false v n e = inr (inl (cc))
  some_number false u v n e = inl (cc)

  abbrev all : Answer A
  all = cond (picture_fits p size) (later (setting_fits s p.width) inside) (refused 12)

  twelve-case : (all ≡ refused 12) ↔ ((¬ Pictured p size) × Unit {0})
  twelve-case =
      later-case picture (later-never 12 (λ q. omega arith) (λ q. omega arith) (setting_fits s p.width) inside) (λ q. tt, λ h. refl)

  fifteen-case : (all ≡ refused 15) ↔ (Pictured p size × ((¬ InRange s p.width) × Unit {0}))
  fifteen-case =
      only-case picture (refused-number (λ q. omega arith))
      (later-case range (last-never 15 (λ q. omega arith) inside) (λ q. tt, λ h. refl))

  sixteen-case : (all ≡ refused 16) ↔ (Pictured p size × (InRange s p.width × ((¬ Inside) × Unit {0})))
  sixteen-case =
      only-case picture (refused-number (λ q. omega arith))
      (only-case range (refused-number (λ q. omega arith)) (later-case tells-inside told-refused (λ q. tt, λ h. refl)))

  answered-exactly : RefusedExactly p size s Inside (λ n. answered p size s inside a ≡ refused n)
  unfolding answered
  answered-exactly =
      record {
        twelve = (λ e. (twelve-case.0 e).0, λ h. twelve-case.1 (h, tt));
        fifteen = (λ e. let h = fifteen-case.0 e in (h.0, h.1.0), λ h. fifteen-case.1 (h.0, (h.1, tt)));
        sixteen = (λ e. let h = sixteen-case.0 e in (h.0, (h.1.0, h.1.1.0)), λ h. sixteen-case.1 (h.0, (h.1.0, (h.1.1, tt))));
        only = some_number (picture_fits p size) (setting_fits s p.width) inside;
      }

module _ (p : Shape) (size : ℕ) (s : Setting) where
  -- The bin of a column.
  pub bin-exactly : (column : ℕ) → RefusedExactly p size s (ColumnInside s column) (λ n. asked_bin p size s column ≡ refused n)
  unfolding asked_bin
  bin-exactly column = answered-exactly p size s (tells-covered s column) _

  -- The columns of a bin.
  pub columns-exactly : (bin : ℕ) → RefusedExactly p size s (bin < s.count) (λ n. asked_columns p size s bin ≡ refused n)
  unfolding asked_columns
  columns-exactly bin = answered-exactly p size s (tells-less bin s.count) _

-- The topmost row.
pub top-exactly : (p : Shape) (canvas : List ℕ) (s : Setting) (bin : ℕ) (colour : List ℕ)
    → RefusedExactly p (length canvas) s (bin < s.count) (λ n. asked_top p canvas s bin colour ≡ refused n)
unfolding asked_top
top-exactly p canvas s bin colour = answered-exactly p (length canvas) s (tells-less bin s.count) _

-- ---- of the code

-- its answer is the refusal of a number
pub record Gives {A : Type 0} (x : Result A Refusal) (n : ℕ) : Type 0 where
  pub refusal : Refusal
  pub answer : x ≡ Err refusal
  pub number : number_of refusal ≡ n

-- said in other words
exactly-as : {p : Shape} {size : ℕ} {s : Setting} {Inside : Type 0} {says other : ℕ → Type 0} → ((n : ℕ) → other n ↔ says n)
    → RefusedExactly p size s Inside says → RefusedExactly p size s Inside other
exactly-as k e =
    record {
      twelve = (λ o. e.twelve.0 ((k 12).0 o), λ h. (k 12).1 (e.twelve.1 h));
      fifteen = (λ o. e.fifteen.0 ((k 15).0 o), λ h. (k 15).1 (e.fifteen.1 h));
      sixteen = (λ o. e.sixteen.0 ((k 16).0 o), λ h. (k 16).1 (e.sixteen.1 h));
      only = λ n o. e.only n ((k n).0 o);
    }

-- so is what it tells, however a value is told
gives : {A B : Type 0} (tell : Result A Refusal → Answer B) (f : A → B) → ((a : A) → tell (Ok a) ≡ told (f a))
    → ((r : Refusal) → tell (Err r) ≡ refused (number_of r)) → (x : Result A Refusal) (n : ℕ) → Gives x n ↔ (tell x ≡ refused n)
gives {A} tell f tells refuses x n = (λ g. ap tell g.answer ∙ refuses g.refusal ∙ ap refused g.number, go x)
  where
    go : (y : Result A Refusal) → tell y ≡ refused n → Gives y n
    go (Ok a) e = absurd (told-refused (sym (tells a) ∙ e))
    go (Err r) e = let k = sym (refuses r) ∙ e in record { refusal = r; answer = refl; number = cc }

module _ (p : Shape) (size : ℕ) (s : Setting) where
  -- `bins::bin`
  pub bin-refused : (column : ℕ) (x : Result ℕ Refusal) → bin_told x ≡ asked_bin p size s column
      → RefusedExactly p size s (ColumnInside s column) (Gives x)
  unfolding bin_told
  bin-refused column x e =
      let g = gives bin_told (λ n. n) (λ a. refl) (λ r. refl) x in
      exactly-as (λ n. (λ h. sym e ∙ (g n).0 h, λ q. (g n).1 (e ∙ q))) (bin-exactly p size s column)

  -- `bins::columns`
  pub columns-refused : (bin : ℕ) (x : Result ColumnSpan Refusal) → columns_told x ≡ asked_columns p size s bin
      → RefusedExactly p size s (bin < s.count) (Gives x)
  unfolding columns_told
  columns-refused bin x e =
      let g = gives columns_told (λ c. (c.first, c.last)) (λ a. refl) (λ r. refl) x in
      exactly-as (λ n. (λ h. sym e ∙ (g n).0 h, λ q. (g n).1 (e ∙ q))) (columns-exactly p size s bin)

-- `bins::top`
pub top-refused : (p : Shape) (canvas : List ℕ) (s : Setting) (bin : ℕ) (colour : List ℕ) (x : Result (rust.Option ℕ) Refusal)
    → top_told x ≡ asked_top p canvas s bin colour
    → RefusedExactly p (length canvas) s (bin < s.count) (Gives x)
unfolding top_told
top-refused p canvas s bin colour x e =
    let g = gives top_told row_told (λ a. refl) (λ r. refl) x in
    exactly-as (λ n. (λ h. sym e ∙ (g n).0 h, λ q. (g n).1 (e ∙ q))) (top-exactly p canvas s bin colour)
