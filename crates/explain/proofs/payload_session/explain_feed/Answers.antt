-- `explain_feed` meets its contract: all bytes, from the first on.
use borrow.Author.Rules.{rules}
use Rattle.explain.proofs.ExplainLaws.{payloads}
use Rattle.explain.proofs.payload_session.explain_feed.Goals as goal

pub returns : goal.returns
returns c = search (rules, payloads)
