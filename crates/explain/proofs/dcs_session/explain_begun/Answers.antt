-- `explain_begun` meets its contract: the session that starts at `q`, fed the bytes after it.
use Rattle.explain.proofs.ExplainLaws.{begun-told}
use Rattle.explain.proofs.dcs_session.explain_begun.Goals as goal

pub returns : goal.returns
returns c f =
    begun-told _ _ _ _ _ _ _ _ _ _ (c.start-begun.ensures _ _) c.blank_frame-blank.ensures c.explain_fed.ensures
