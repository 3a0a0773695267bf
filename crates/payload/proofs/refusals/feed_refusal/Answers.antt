-- `feed_refusal` meets its contract: what refuses a finish, and then the allowance; a quotient finds one below 6W.
use Rattle.std.proofs.lemmas.Result.{err_from_is_err_and}
use Rattle.payload.proofs.RefusalLaws.{refusing, feed-refused}
use borrow.Author.Rules.{rules}
use Rattle.payload.proofs.refusals.feed_refusal.Goals as goal

pub returns-in_err-finish_refusal : goal.returns-in_err-finish_refusal
returns-in_err-finish_refusal c p =
    let e = err_from_is_err_and c.from_residual.result c.from_residual.ensures.1 in
    rw (e.1, e.2) (feed-refused _ _ _ (c.finish_refusal.ensures p) (c.in_err-finish_refusal.was))

pub returns-then-allowance-setup : goal.returns-then-allowance-setup
returns-then-allowance-setup c p = search (rules, refusing, c.finish_refusal.ensures p)

pub returns : goal.returns
returns c p = search (rules, refusing, c.finish_refusal.ensures p)
