-- Only one outcome, of every public function of `header` (One.antt).
use Rattle.header.proofs.read_lead.Reads as read-lead
use Rattle.header.proofs.read_lead.Kinds as read-lead'
use Rattle.header.proofs.settings_from.Reads as settings-from
use Rattle.header.proofs.settings_from.Kinds as settings-from'
use Rattle.promises.proofs.One.{only, One}

pub read-lead-one : One read-lead'.ps read-lead'.r read-lead.Learnt
read-lead-one κs a z z' e e' p q = only p q

pub settings-from-one : One settings-from'.ps settings-from'.r settings-from.Learnt
settings-from-one κs a z z' e e' p q = only p q
