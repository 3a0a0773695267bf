-- `given_from` meets its contract: a number below 65,536 has 16 bits.
use Rattle.std.specs.Prelude.{◌≡◌, ℕ, ◌<◌, ◌≤◌, Result, Ok, Err, Some, OkIff}
use mathlib.Core.Path.{refl, sym, ap, ◌∙◌}
use native.Mathlib.Omega.{arith}
use borrow.Author.Tests.{lt-ltb, le-ltb}
use Rattle.std.proofs.lemmas.Result.{OkIff-at_ok, OkIff-at_err}
use Rattle.std.specs.Result.{result_ok}
use Rattle.numbers.proofs.Laws.{cond_yes, cond_no}
use Rattle.payload.specs.Codes.{given_from}
use Rattle.payload.proofs.codes.given_from.Goals as goal

tried : (E : Type 0) (r : Result ℕ E) (n : ℕ) → OkIff r (n < 65536) n → result_ok r ≡ given_from n
unfolding given_from
tried E (Ok x) n h =
    let p = OkIff-at_ok {E = E} (Ok x) (n < 65536) n x h refl in
    ap Some p.1 ∙ sym (cond_yes _ _ (lt-ltb n 65536 p.0))
tried E (Err e) n h =
    let low : n < 65536 → ⊥ = OkIff-at_err (Err e) (n < 65536) n e h refl in
    let high : 65536 ≤ n = omega arith in
    sym (cond_no _ _ (le-ltb n 65536 high))

pub returns : goal.returns
returns c = c.ok.ensures.value ∙ tried _ _ _ c.try_from.ensures
