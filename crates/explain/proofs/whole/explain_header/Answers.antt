-- `explain_header` meets its contract: a law for each answer of the header's reading.
use borrow.Author.Rules.{rules}
use Rattle.explain.proofs.ExplainLaws.{wholes, headed-within}
use Rattle.explain.proofs.whole.explain_header.Goals as goal

pub explain_started-requires : goal.explain_started-requires
explain_started-requires c =
    headed-within c.args.at c.args.bytes.now c.new.result c.read_lead-lead.ensures (search rules)

pub returns-in-Ok-On : goal.returns-in-Ok-On
returns-in-Ok-On c life f = search (rules, wholes)

pub returns-in-Ok-Begins : goal.returns-in-Ok-Begins
returns-in-Ok-Begins c life f = search (rules, wholes, c.explain_started.ensures life f)

pub returns-in-Err : goal.returns-in-Err
returns-in-Err c life f = search (rules, wholes)
