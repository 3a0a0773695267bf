-- `read_on` meets its contract. The loop's invariant is `Going`: the bytes that are left lead to where all lead.
use Rattle.std.specs.Prelude.{◌≡◌}
use Rattle.colours.specs.Palette.{of_table}
use Rattle.explain.specs.Dry.{dry_from}
use Rattle.explain.proofs.DryLaws.{Going}
use Rattle.explain.proofs.dry.read_on.Given as goal

abbrev pub invariant-loop-byte : goal.invariant-loop-byte
invariant-loop-byte l =
    Going l.metered l.ground l.bytes (dry_from l.metered l.ground l.bytes 0 l.allowance l.initial.now (of_table l.initial.colors)) (of_table l.colors)
    l.now l.byte-index l.left
    × (l.consumed ≡ l.byte-index)
