-- `explain_started` meets its contract: the session that starts with these settings, and its bytes to their end.
use Rattle.explain.proofs.ExplainLaws.{started-told}
use Rattle.explain.proofs.whole.explain_started.Goals as goal

pub returns : goal.returns
returns c life f =
    started-told _ _ _ _ _ _ _ _ (c.start-begun.ensures _ _) c.blank_frame-blank.ensures c.explain_payload.ensures
