-- For the same arguments only one outcome is allowed (docs/PROMISES.md). `Learnt` of a function is its contract as a caller
-- learns it: a claim of the arguments, the answer and what is lent at the end. Two outcomes that meet it are one.
use Prim.Native.Nat.{ℕ}
use mathlib.Core.List.{List}
use mathlib.Core.Path.{◌≡◌, sym, ◌∙◌}
use contract.Lifetimes.{Lfts}
use denote.Triple.Clauses.{AtExit}
use borrow.Fn.Kinds.{ParamKind, ResultKind, Out, Dens, res_t, ended_of}

-- two outcomes that are both what a definition gives are one
pub only : {A : Type 0} {f x y : A} → x ≡ f → y ≡ f → x ≡ y
only p q = p ∙ sym q

-- what two outcomes have in common, if both meet a promise on the same arguments: `see` of each is one
abbrev pub Seen : {n : ℕ} (ps : List (ParamKind n)) (r : ResultKind n) → Out n ps r → (B : Lfts n → Type 0)
    → ((κs : Lfts n) → (res_t r κs).Denot → AtExit (ended_of n ps r) κs → B κs) → Type 0
Seen {n} ps r L B see =
    (κs : Lfts n) (a : Dens κs ps) (z z' : (res_t r κs).Denot) (e e' : AtExit (ended_of n ps r) κs) → L κs a z e → L κs a z' e'
    → see κs z e ≡ see κs z' e'

-- the answer
abbrev pub One : {n : ℕ} (ps : List (ParamKind n)) (r : ResultKind n) → Out n ps r → Type 0
One ps r L = Seen ps r L (λ κs. (res_t r κs).Denot) (λ κs z e. z)

-- the bytes that an answer is a part of the input by
abbrev pub OnePart : {n : ℕ} (ps : List (ParamKind n)) (r : ResultKind n) → Out n ps r → ((κs : Lfts n) → (res_t r κs).Denot → List ℕ) → Type 0
OnePart ps r L part = Seen ps r L (λ κs. List ℕ) (λ κs z e. part κs z)

-- what is lent, at the end
abbrev pub OneLent : {n : ℕ} (ps : List (ParamKind n)) (r : ResultKind n) → Out n ps r → ((κs : Lfts n) → AtExit (ended_of n ps r) κs → List ℕ) → Type 0
OneLent ps r L lent = Seen ps r L (λ κs. List ℕ) (λ κs z e. lent κs e)

-- the answer, and what is lent
abbrev pub OneWith : {n : ℕ} (ps : List (ParamKind n)) (r : ResultKind n) → Out n ps r → ((κs : Lfts n) → AtExit (ended_of n ps r) κs → List ℕ) → Type 0
OneWith ps r L lent = Seen ps r L (λ κs. (res_t r κs).Denot × List ℕ) (λ κs z e. (z, lent κs e))
