-- `number_at` meets its contract: a digit begins a number, and each digit after it makes it longer.
use Prim.Native.Nat.{ℕ}
use mathlib.Core.Bool.{Bool, true}
use mathlib.Core.Path.{◌≡◌, sym, ap, ◌∙◌}
use lib.ListN.{length}
use Rattle.numbers.specs.Bytes.{digit}
use native.Mathlib.Omega.{arith}
use Rattle.numbers.proofs.Laws.{digit-least}
use Rattle.fast.proofs.ArgumentLaws.{written-first, written-more}
use Rattle.fast.proofs.argument.number_at.Goals as goal

later : {t : Bool} (b : ℕ) → t ≡ digit b → t ≡ true → digit b ≡ true
later b e h = sym e ∙ h

pub overflow_sub-value : goal.overflow_sub-value
overflow_sub-value c = digit-least _ (sym c.is_digit.ensures ∙ c.if-not-is_digit.false)

pub loop-end-init : goal.loop-end-init
loop-end-init c =
    let first = c.in_ok-first.ensures.lookup.3 in
    rw (first.1 0) (written-first _ _ first.0 (ap digit (sym (first.1 0)) ∙ sym c.is_digit.ensures ∙ c.if-not-is_digit.false))

pub overflow_sub-value-in-loop-end : goal.overflow_sub-value-in-loop-end
overflow_sub-value-in-loop-end c = digit-least _ (later _ c.is_digit-in-loop-end.ensures c.if-not-is_digit-2.false)

pub loop-end-preserved : goal.loop-end-preserved
loop-end-preserved c =
    written-more _ _ c.loop-end.invariant c.loop-end-test.true (later _ c.is_digit-in-loop-end.ensures c.if-not-is_digit-2.false) (omega arith)

pub returns : goal.returns
returns c =
    let all : length c.args.bytes.now ≡ c.loop-end.end = omega (arith, c.in_ok-first.ensures.lookup.3.0, c.loop-end.auto.end-end) in
    rw all c.loop-end.invariant
