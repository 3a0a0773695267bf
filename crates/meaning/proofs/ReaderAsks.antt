-- What the laws of calls ask of a reader.
use Prim.Native.Nat.{ℕ, ◌≤◌, ◌<◌}
use mathlib.Core.Path.{◌≡◌}
use Rattle.meaning.specs.Reader.{Step, next, halt}

-- a stop leaves a byte that has ink as it was
abbrev pub RestLaw : {S : Type 0} → (S → ℕ → Step S) → (S → S) → Type 0
RestLaw {S} step rest = (s t : S) (b i : ℕ) → step s b ≡ next t i → 0 < i → step (rest s) b ≡ next t i

-- where the end has come it stays
abbrev pub HaltLaw : {S : Type 0} → (S → ℕ → Step S) → Type 0
HaltLaw {S} step = (s t : S) (b : ℕ) → step s b ≡ halt t → step t b ≡ halt t

-- no byte has more ink than the cap
abbrev pub CapLaw : {S : Type 0} → (S → ℕ → Step S) → ℕ → Type 0
CapLaw {S} step cap = (s t : S) (b i : ℕ) → step s b ≡ next t i → i ≤ cap
