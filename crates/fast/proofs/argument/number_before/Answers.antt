-- `number_before` meets its contract: what `number_at` read is the argument's last, where the byte after it is a sixel.
use mathlib.Core.Path.{sym, ap, ◌∙◌}
use Rattle.numbers.specs.Bytes.{sixel}
use Rattle.fast.proofs.ArgumentLaws.{closing-sixel}
use Rattle.fast.proofs.argument.number_before.Goals as goal

pub returns-then-is_sixel : goal.returns-then-is_sixel
returns-then-is_sixel c =
    let next = c.in_ok-next.ensures.lookup.3 in
    let six = ap sixel (sym (next.1 0)) ∙ sym c.is_sixel.ensures ∙ c.if-is_sixel.true in
    record {
      last = record { written = c.in_ok-number.ensures; more = next.0; closes = closing-sixel _ six };
      six = six;
    }
