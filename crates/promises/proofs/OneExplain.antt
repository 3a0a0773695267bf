-- Only one outcome, of every public function of `explain` (One.antt).
use Rattle.explain.proofs.payload_session.explain_feed.Reads as payload-explain-feed
use Rattle.explain.proofs.payload_session.explain_feed.Kinds as payload-explain-feed'
use Rattle.explain.proofs.payload_session.explain_finish.Reads as payload-explain-finish
use Rattle.explain.proofs.payload_session.explain_finish.Kinds as payload-explain-finish'
use Rattle.explain.proofs.dcs_session.explain_feed.Reads as dcs-explain-feed
use Rattle.explain.proofs.dcs_session.explain_feed.Kinds as dcs-explain-feed'
use Rattle.explain.proofs.dcs_session.explain_finish.Reads as dcs-explain-finish
use Rattle.explain.proofs.dcs_session.explain_finish.Kinds as dcs-explain-finish'
use Rattle.explain.proofs.whole.explain_read.Reads as explain-read
use Rattle.explain.proofs.whole.explain_read.Kinds as explain-read'
use Rattle.promises.proofs.One.{only, One}

pub payload-explain-feed-one : One payload-explain-feed'.ps payload-explain-feed'.r payload-explain-feed.Learnt
payload-explain-feed-one κs a z z' e e' p q = only p q

pub payload-explain-finish-one : One payload-explain-finish'.ps payload-explain-finish'.r payload-explain-finish.Learnt
payload-explain-finish-one κs a z z' e e' p q = only p q

pub dcs-explain-feed-one : One dcs-explain-feed'.ps dcs-explain-feed'.r dcs-explain-feed.Learnt
dcs-explain-feed-one κs a z z' e e' p q = only p q

pub dcs-explain-finish-one : One dcs-explain-finish'.ps dcs-explain-finish'.r dcs-explain-finish.Learnt
dcs-explain-finish-one κs a z z' e e' p q = only p q

pub explain-read-one : One explain-read'.ps explain-read'.r explain-read.Learnt
explain-read-one κs a z z' e e' p q = only p q
