-- What the loop keeps of the fast machine's advances.
use Rattle.std.specs.Prelude.{◌+◌, ◌||◌}
use Rattle.fast.specs.declared.Advance.{Advance}

-- two advances, one after the other, as one
unfoldable pub joined_to : Advance → Advance → Advance
joined_to a b =
    record { pen = b.pen; area = b.area; extent = b.extent; held = b.held; settled = a.settled || b.settled; end = b.end; ink = a.ink + b.ink }
