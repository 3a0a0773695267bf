-- `finish` meets its contract: a refusal is repeated, and any other reader's session is finished (`finishings`).
use borrow.Enum.Refused.{opened}
use borrow.Author.Rules.{rules}
use Rattle.pieces.proofs.ReaderLaws.{finishings}
use Rattle.pieces.proofs.finish.Goals as goal

pub returns-in-Refused : goal.returns-in-Refused
returns-in-Refused c = search (rules, finishings)

pub returns : goal.returns
returns c = search (rules, finishings, opened c.in_default.in_default-own.keys2)
