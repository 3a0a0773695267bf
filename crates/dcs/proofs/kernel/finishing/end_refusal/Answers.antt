-- `dcs::end_refusal` meets its contract: what was refused stays so, an end that has come is fine, and any other phase is 8.
use Rattle.std.proofs.lemmas.Result.{err_from_is_err_and}
use Rattle.dcs.proofs.SessionLaws.{finishings, end_refused}
use borrow.Author.Rules.{rules}
use Rattle.dcs.proofs.kernel.finishing.end_refusal.Goals as goal

pub returns-in_err-verdict : goal.returns-in_err-verdict
returns-in_err-verdict c =
    let e = err_from_is_err_and c.from_residual.result c.from_residual.ensures.1 in
    rw (e.1, e.2) (end_refused _ c.in_err-verdict.was)

pub returns-in-Over : goal.returns-in-Over
returns-in-Over c = search (rules, finishings)

pub returns : goal.returns
returns c = search (rules, finishings)
