-- `header::settings_from` meets its contract: P1 and P2 are the first two values of the header that `q` closed.
use borrow.Author.Rules.{rules}
use Rattle.header.proofs.SettingsLaws.{settings}
use Rattle.header.proofs.settings_from.Goals as goal

pub returns : goal.returns
returns c = search (rules, settings)
