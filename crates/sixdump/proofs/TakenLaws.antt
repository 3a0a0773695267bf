-- `Taken` is what the loop over standard input keeps: no piece, one piece, and some pieces after others are pieces taken.
use Prim.Native.Nat.{ℕ}
use mathlib.Core.List.{List, [], ◌∷◌, ◌++◌}
use mathlib.Core.Path.{◌≡◌, refl, sym, ap, ◌∙◌}
use Rattle.pieces.specs.declared.Reader.{Reader}
use Rattle.pieces.specs.Pieces.{taken_by}
use Rattle.pieces.specs.Stream.{taken_all}
use Rattle.sixdump.specs.Taken.{Taken}

pub taken_none : (r : Reader) (canvas : List ℕ) → Taken r canvas r canvas
unfolding taken_all
taken_none r canvas = ([], refl)

pub taken-one : (r : Reader) (canvas z : List ℕ) {next : Reader} {after : List ℕ}
    → (next, after) ≡ taken_by r canvas z → Taken r canvas next after
unfolding taken_all
taken-one r canvas z e = (z ∷ [], e)

all_append : (r : Reader) (canvas : List ℕ) (xs ys : List (List ℕ))
    → taken_all r canvas (xs ++ ys) ≡ taken_all (taken_all r canvas xs).0 (taken_all r canvas xs).1 ys
unfolding taken_all
all_append r canvas [] ys = refl
all_append r canvas (x ∷ xs) ys = all_append (taken_by r canvas x).0 (taken_by r canvas x).1 xs ys

pub taken_more : (r : Reader) (canvas : List ℕ) {next last : Reader} {after end : List ℕ}
    → Taken r canvas next after → Taken next after last end → Taken r canvas last end
taken_more r canvas a b =
    (a.0 ++ b.0, b.1 ∙ ap (λ (x : Reader × List ℕ). taken_all x.0 x.1 b.0) a.1 ∙ sym (all_append r canvas a.0 b.0))

pub ruleset taking = (taken_none, taken-one)
