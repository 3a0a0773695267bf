-- `measure` hands a refusal on.
use Rattle.std.proofs.Common.{rules}
use Rattle.std.proofs.lemmas.Result.{err_from_is_err_and}
use Rattle.frame.specs.Commands.{measured_by, measured_in}
use Rattle.frame.proofs.rasters.measure.Goals as goal

pub returns-in_err-area : goal.returns-in_err-area
unfolding measured_by measured_in
returns-in_err-area c =
    let p = err_from_is_err_and c.from_residual.result c.from_residual.ensures.1 in
    rw (p.1, p.2) (search rules)
