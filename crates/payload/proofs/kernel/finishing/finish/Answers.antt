-- `finish` meets its contract: a refusal, or a finish of what the judgement has shown to fit.
use Rattle.std.proofs.lemmas.Result.{err_from_is_err_and}
use Rattle.payload.proofs.RefusalLaws.{finish-fits}
use Rattle.payload.proofs.SessionLaws.{finish-refused, finish-on}
use Rattle.payload.proofs.kernel.finishing.finish.Goals as goal

pub returns-in_err-finish_refusal : goal.returns-in_err-finish_refusal
returns-in_err-finish_refusal c =
    let e = err_from_is_err_and c.from_residual.result c.from_residual.ensures.1 in
    rw (e.1, e.2) (finish-refused _ _ _ (c.finish_refusal.ensures _) (c.in_err-finish_refusal.was))

pub finish_live-requires : goal.finish_live-requires
finish_live-requires c =
    finish-fits _ _ _ _ c.finish_refusal.ensures (c.in_ok-finish_refusal.was)

pub returns : goal.returns
returns c =
    finish-on _ _ _ (c.finish_refusal.ensures _) (c.in_ok-finish_refusal.was) c.finish_live.ensures
