-- P1 and P2: one law for each path through a function, and that they are the definition's parameters.
use Rattle.std.specs.Prelude.{Some, None}
use Prim.Native.Nat.{ℕ, zero, suc, ◌≤◌, ◌<◌}
use native.Mathlib.Omega.{arith}
use mathlib.Core.Option.{Option, none, some, map}
use mathlib.Core.List.{List, [], ◌∷◌}
use mathlib.Core.Path.{◌≡◌, refl, sym, ap, ap₂, ◌∙◌}
use borrow.Author.Tests.{le-leb, lt-leb, leb-true, leb-false}
use lib.Dec.{leb}
use lib.ListN.{length, get_or, get_elem?}
use Rattle.numbers.specs.declared.Parameters.{Parameters}
use Rattle.numbers.specs.Read.{Read}
use Rattle.numbers.specs.Step.{finished, value_at}
use Rattle.numbers.specs.Values.{values, held16}
use Rattle.numbers.proofs.Laws.{cond_yes, cond_no}
use Rattle.numbers.proofs.Reading.{read_count, read-value}
use Rattle.canvas.proofs.Covers.{by-test}
use Rattle.meaning.specs.Sessions.{parameters_of}
use Rattle.payload.specs.Results.{Given}
use Rattle.payload.specs.declared.Settings.{Settings}
use Rattle.payload.specs.Meant.{given_meant, parameters_meant}
use Rattle.header.specs.Settings.{given_at, settings_from}

-- ---- the code

-- there are not so many values
pub given-none : {n : ℕ} (v : Parameters) (i : ℕ) → n ≡ v.count → n ≤ i → None ≡ given_at v i
unfolding given_at
given-none v i e h = sym (cond_yes _ _ (le-leb v.count i (omega arith)))

-- there are
pub given-some : {n k m : ℕ} (v : Parameters) (i : ℕ) → n ≡ v.count → i < n → k ≡ value_at v i → m ≡ held16 k → Some m ≡ given_at v i
unfolding given_at
given-some v i e h k m = ap Some (m ∙ ap held16 k) ∙ sym (cond_no _ _ (lt-leb v.count i (omega arith)))

-- the first two values of a header that `q` closed
pub settings-as : {v : Parameters} {a b : Given} (h : Parameters) → v ≡ finished h → a ≡ given_at v 0 → b ≡ given_at v 1
    → ◌≡◌ {A = Settings} (record { p1 = a; p2 = b }) (settings_from h)
unfolding settings_from
settings-as h e a b = rw (a, b, e) refl

pub ruleset settings = (given-none, given-some, settings-as)

-- ---- the definition

-- past a list's end there is nothing
elem-none : (xs : List ℕ) (i : ℕ) → length xs ≤ i → get_elem? xs i ≡ none
elem-none [] i h = refl
elem-none (x ∷ xs) zero h = absurd (omega arith)
elem-none (x ∷ xs) (suc i) h = elem-none xs i (omega arith)

-- before it there is an element
elem-some : (xs : List ℕ) (i : ℕ) → i < length xs → get_elem? xs i ≡ some (get_or xs i 0)
elem-some [] i h = absurd (omega arith)
elem-some (x ∷ xs) zero h = refl
elem-some (x ∷ xs) (suc i) h = elem-some xs i (omega arith)

-- a header's value is the definition's, where there are so many
given-meant : {bs : List ℕ} {h : Parameters} → Read 3 bs h
    → (i : ℕ) → given_meant (given_at (finished h) i) ≡ map held16 (get_elem? (values 3 bs) i)
unfolding given_at given_meant
given-meant {bs} {h} r i =
    let count : (finished h).count ≡ length (values 3 bs) = read_count (omega arith) r in
    let value : value_at (finished h) i ≡ get_or (values 3 bs) i 0 = read-value i (omega arith) r in
    by-test (leb (finished h).count i)
    (λ t.
    let few : (finished h).count ≤ i = leb-true _ _ t in
    ap given_meant (cond_yes None (Some (held16 (value_at (finished h) i))) t)
    ∙ ap (map held16) (sym (elem-none (values 3 bs) i (omega arith))))
    (λ t.
    let many : i < (finished h).count = leb-false _ _ t in
    ap given_meant (cond_no None (Some (held16 (value_at (finished h) i))) t)
    ∙ ap (λ (n : ℕ). some (held16 n)) value
    ∙ ap (map held16) (sym (elem-some (values 3 bs) i (omega arith))))

-- the values of a header are the definition's parameters
pub settings-meant : {bs : List ℕ} {h : Parameters} → Read 3 bs h → parameters_of bs ≡ parameters_meant (settings_from h)
unfolding parameters_of parameters_meant settings_from
settings-meant r =
    ap₂ (λ (a b : Option ℕ). record { p1 = a; p2 = b }) (sym (given-meant r 0)) (sym (given-meant r 1))
