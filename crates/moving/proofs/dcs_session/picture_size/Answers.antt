-- `picture_size` meets its contract: before `q` there is no picture.
use borrow.Author.Rules.{rules}
use Rattle.moving.proofs.MoveLaws.{sizes}
use Rattle.moving.proofs.dcs_session.picture_size.Goals as goal

pub returns-in-Before : goal.returns-in-Before
returns-in-Before c = search (rules, sizes)

pub returns-in-Within : goal.returns-in-Within
returns-in-Within c = search (rules, sizes)

pub returns-in-Escaped : goal.returns-in-Escaped
returns-in-Escaped c = search (rules, sizes)

pub returns-in-Over : goal.returns-in-Over
returns-in-Over c = search (rules, sizes)
