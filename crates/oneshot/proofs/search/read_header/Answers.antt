-- `read_header` meets its contract: a law for each answer of the header's reading.
use borrow.Author.Rules.{rules}
use Rattle.std.proofs.lemmas.Result.{err_from_is_err_and}
use Rattle.oneshot.proofs.SearchLaws.{headings, led-refused}
use Rattle.oneshot.proofs.search.read_header.Goals as goal

pub returns-in_err-lead : goal.returns-in_err-lead
returns-in_err-lead c =
    let p = err_from_is_err_and c.from_residual.result c.from_residual.ensures.1 in
    rw (p.1, p.2) (led-refused _ _ c.new.ensures c.read_lead-lead.ensures (search rules))

pub returns-in-On : goal.returns-in-On
returns-in-On c = search (rules, headings)

pub returns-in-Begins : goal.returns-in-Begins
returns-in-Begins c = search (rules, headings)
