-- `finish` meets its contract: refused by 9 or 12, then by 8, or what the payload session's finish says.
use Rattle.std.proofs.lemmas.Result.{err_from_is_err_and}
use Rattle.dcs.proofs.SessionLaws.{finish-refused, finish-on}
use Rattle.dcs.proofs.kernel.finishing.finish.Goals as goal

pub returns-in_err-end_refusal : goal.returns-in_err-end_refusal
returns-in_err-end_refusal c h =
    let e = err_from_is_err_and c.from_residual.result c.from_residual.ensures.1 in
    rw (e.1, e.2) (finish-refused _ _ _ (c.finish_refusal-inner.ensures _) c.end_refusal.ensures c.in_err-end_refusal.was)

pub returns : goal.returns
returns c h =
    finish-on _ _ _ (c.finish_refusal-inner.ensures _) c.end_refusal.ensures c.in_ok-end_refusal.was c.finish.ensures
