-- `selected` meets its contract: the pen has the register's number and colour.
use mathlib.Core.Path.{refl}
use Rattle.frame.specs.Commands.{with_color}
use Rattle.fast.specs.Advance.{advance_to, selected_to}
use Rattle.fast.proofs.selected.Goals as goal

pub returns : goal.returns
unfolding selected_to with_color advance_to
returns c =
    rw (c.advance_to.ensures, c.rgb_bytes-color.ensures, c.register_at-register.ensures) refl
