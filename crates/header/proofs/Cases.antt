-- One test on two sides: what is picked on one agrees with what is picked on the other.
use mathlib.Core.Bool.{Bool, true, false, cond, ◌||◌}
use mathlib.Core.Path.{◌≡◌, refl}

-- what one test picks on both sides
pub both : {X Y : Type 0} (P : X → Y → Type 0) (t : Bool) (a b : X) (c d : Y) → (t ≡ true → P a c) → (t ≡ false → P b d)
    → P (cond t a b) (cond t c d)
both P true a b c d f g = f refl
both P false a b c d f g = g refl

-- where one side tells two tests apart and the other does not
pub either : {X Y : Type 0} (P : X → Y → Type 0) (t u : Bool) (a b z : X) (c d : Y)
    → (t ≡ true → P a c) → (u ≡ true → P b c) → P z d
    → P (cond t a (cond u b z)) (cond (t || u) c d)
either P true u a b z c d f g h = f refl
either P false true a b z c d f g h = g refl
either P false false a b z c d f g h = h
