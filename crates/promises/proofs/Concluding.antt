-- What a finish of the code leaves, as the demands say it: one equation for its answer, the owner's palette and every byte of the canvas.
use Rattle.std.specs.Prelude.{Ok, Err}
use Prim.Native.Nat.{ℕ}
use mathlib.Core.List.{List}
use mathlib.Core.Path.{◌≡◌, refl}
use native.Mathlib.Omega.{arith}
use Rattle.colours.specs.declared.Palette.{Palette}
use Rattle.meaning.specs.Demands.{concluded}
use Rattle.meaning.specs.Payload as meant
use Rattle.payload.specs.declared.Finished.{Finished}
use Rattle.payload.specs.Results.{Finishing}
use Rattle.payload.specs.History.{Finishes, pictures, declines}
use Rattle.payload.specs.Meant.{report_meant, finish_meant}
use Rattle.promises.specs.Readers.{concluded_by}
use Rattle.promises.proofs.RefusedPayload.{Untouched}

pub finishes-concluded : {picture l : List ℕ} {owner : Palette} {y : Finished × List ℕ} {z : meant.Finished} → Finishes picture owner l y z
    → concluded_by y ≡ concluded picture owner l z
unfolding concluded_by concluded finish_meant report_meant
finishes-concluded pictures = refl
finishes-concluded (declines n) = refl

-- a finish that leaves palette and canvas when the code refuses leaves them when it is said to
pub concluded-keeps : {owner : Palette} {lent : List ℕ} (y : Finished × List ℕ) → Untouched owner lent y → (n : ℕ) → (concluded_by y).answer ≡ meant.turned_down n
    → ((concluded_by y).palette ≡ owner) × ((concluded_by y).canvas ≡ lent)
unfolding concluded_by finish_meant
concluded-keeps {owner} {lent} y keeps n = go y.0.answer refl
  where
    go : (a : Finishing) → y.0.answer ≡ a → finish_meant a y.0.palette ≡ meant.turned_down n → (y.0.palette ≡ owner) × (y.1 ≡ lent)
    go (Ok r) e z = let never : ◌≡◌ {A = ℕ} 0 1 = cc in absurd (omega arith)
    go (Err x) e z = keeps x e
