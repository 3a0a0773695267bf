-- Demand 1, the opening: 11 exactly where the definition opens none, with nothing written; else a session, of which the other demands speak.
use Rattle.std.specs.Prelude.{Ok, Err}
use Prim.Native.Nat.{ℕ}
use mathlib.Core.Bool.{Bool, true, false, cond}
use mathlib.Core.List.{List}
use mathlib.Core.Path.{◌≡◌, refl, ap, ◌∙◌}
use lib.ListN.{length}
use Rattle.colours.specs.declared.Palette.{Palette}
use Rattle.frame.specs.declared.Limits.{Limits}
use Rattle.frame.specs.declared.Refusal.TheVariants as refusals
use Rattle.frame.specs.Numbers.{number_of}
use Rattle.meaning.specs.Calls as calls
use Rattle.payload.specs.Results.{Opened, Opening}
use Rattle.payload.specs.declared.Settings.{Settings}
use Rattle.payload.specs.Deferred.{reserved_by}
use Rattle.payload.specs.Refusals.{openable}
use Rattle.payload.specs.Meant.{limits_meant}
use Rattle.payload.specs.Session as payload
use Rattle.payload.proofs.Openings.{opens-meant}
use Rattle.dcs.specs.Session as dcs
use Rattle.owlgantry.specs.Sessions.{number_or_zero}

-- the code's test of an opening is the definition's
pub may-open : (l : Limits) (stride size : ℕ) → calls.opens (limits_meant l) stride size ≡ true → openable l stride size ≡ true
may-open l stride size opens = opens-meant l stride size ∙ opens

-- the number of an opening that a test decides
pub opening-told : (t : Bool) {X : Type 0} (answer : X → Opening) (x y : X) → answer x ≡ Ok tt → answer y ≡ Err refusals.Opening
    → number_or_zero (answer (cond t x y)) ≡ cond t 0 11
unfolding number_or_zero number_of
opening-told true answer x y e f = ap number_or_zero e
opening-told false answer x y e f = ap number_or_zero f

-- A payload session: for any limits, stride, canvas, parameters and palette the answer is 0 where the definition opens one, and else 11.
pub opening-stated : (l : Limits) (stride : ℕ) (o : Settings) (p : Palette) (opening : List ℕ)
    → number_or_zero (payload.opened_by l stride o p opening).0.answer ≡ cond (calls.opens (limits_meant l) stride (length opening)) 0 11
unfolding payload.opened_by
opening-stated l stride o p opening =
    opening-told (openable l stride (length opening)) (λ (x : Opened × List ℕ). x.0.answer) _ _ refl refl
    ∙ ap (λ (t : Bool). cond t 0 11) (opens-meant l stride (length opening))

-- On 11 nothing is written.
pub opening-unwritten : (l : Limits) (stride : ℕ) (o : Settings) (p : Palette) (opening : List ℕ) → calls.opens (limits_meant l) stride (length opening) ≡ false
    → (payload.opened_by l stride o p opening).1 ≡ opening
unfolding payload.opened_by
opening-unwritten l stride o p opening closed =
    let no : openable l stride (length opening) ≡ false = opens-meant l stride (length opening) ∙ closed in rw no refl

-- A DCS session, which is opened for a canvas of so many bytes and is lent none.
pub dcs-opening-stated : (l : Limits) (stride : ℕ) (p : Palette) (size : ℕ)
    → number_or_zero (dcs.opened_by l stride p size).answer ≡ cond (calls.opens (limits_meant l) stride size) 0 11
unfolding dcs.opened_by reserved_by
dcs-opening-stated l stride p size =
    opening-told (openable l stride size) (λ (x : Opened). x.answer) _ _ refl refl ∙ ap (λ (t : Bool). cond t 0 11) (opens-meant l stride size)
