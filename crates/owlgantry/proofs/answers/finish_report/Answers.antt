-- `finish_report` meets its contract: a report's numbers but the part's two are its own (`partless-told`).
use Rattle.owlgantry.proofs.SessionCalls.{partless-told}
use Rattle.owlgantry.proofs.answers.finish_report.Goals as goal

pub returns : goal.returns
returns c p = partless-told _ (c.report_numbers-all.ensures p)
