-- `finish_live` meets its contract: the refusal of the pending command, or the report of the frame that ending it led to.
use Rattle.payload.proofs.SessionLaws.{finishings}
use borrow.Enum.Refused.{opened}
use borrow.Author.Rules.{rules}
use Rattle.payload.proofs.kernel.finishing.finish_live.Goals as goal

pub returns-in-Refused : goal.returns-in-Refused
returns-in-Refused c = search (rules, finishings)

pub returns : goal.returns
returns c = search (rules, finishings, opened c.in_default.in_default-own.keys2)
