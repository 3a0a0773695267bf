-- `colours::standard::put` meets its contract: copying into a part of the table is setting each of its places. Assumes nothing.
use Rattle.std.proofs.Common.{◌≡◌, ◌+◌, ◌-◌, length, sym, append_assoc, arith}
use Rattle.std.proofs.lemmas.List.{drop-drop}
use Rattle.std.proofs.lemmas.List.Edits.{sets-eq}
use Rattle.colours.proofs.standard.put.Goals as goal

pub returns : goal.returns
returns c =
    let rule = c.args.rule.now in
    let long : c.args.first + length rule - c.args.first ≡ length rule = omega arith in
    rw (c.copy_from_slice.ensures.after, long, drop-drop, ← append_assoc) (sym (sets-eq rule c.args.colors.now c.args.first (omega arith)))
