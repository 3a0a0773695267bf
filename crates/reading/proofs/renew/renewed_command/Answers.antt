-- `renewed_command` meets its contract: its values are made anew, and are what they were.
use mathlib.Core.Path.{ap}
use Rattle.numbers.specs.declared.Parameters.{Parameters}
use Rattle.frame.specs.declared.Command.{Command}
use Rattle.reading.proofs.renew.renewed_command.Goals as goal

pub returns : goal.returns
returns c =
    let old = c.args.command in
    ap {B = Command} (λ (v : Parameters). record { kind = old.kind; number = old.number; parameters = v }) c.renewed.ensures
