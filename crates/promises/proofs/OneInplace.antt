-- Only one outcome, of every public function of `inplace` (One.antt). A session that is lent has no `Learnt`: there the equation of the
-- contract itself stands, of the answer, the session that is then in its place, and the canvas.
use Prim.Native.Nat.{ℕ}
use mathlib.Core.List.{List}
use mathlib.Core.Path.{◌≡◌}
use Rattle.payload.specs.Results as payload_fed
use Rattle.payload.specs.declared.Session as payload_session
use Rattle.payload.specs.Session as payload
use Rattle.dcs.specs.Results as dcs_fed
use Rattle.dcs.specs.declared.Session as dcs_session
use Rattle.dcs.specs.Session as dcs
use Rattle.inplace.proofs.place_and_feed_payload.Reads as place-and-feed-payload
use Rattle.inplace.proofs.place_and_feed_payload.Kinds as place-and-feed-payload'
use Rattle.inplace.proofs.place_and_feed_dcs.Reads as place-and-feed-dcs
use Rattle.inplace.proofs.place_and_feed_dcs.Kinds as place-and-feed-dcs'
use Rattle.promises.proofs.One.{only, OneWith}

pub feed-payload-one : {x y : payload_fed.Fed × List ℕ} (s : payload_session.Session) (l bs : List ℕ) (a : ℕ)
    → x ≡ payload.fed_by s l bs a → y ≡ payload.fed_by s l bs a → x ≡ y
feed-payload-one s l bs a p q = only p q

pub feed-dcs-one : {x y : dcs_fed.Fed × List ℕ} (s : dcs_session.Session) (l bs : List ℕ) (a : ℕ) → x ≡ dcs.fed_by s l bs a → y ≡ dcs.fed_by s l bs a → x ≡ y
feed-dcs-one s l bs a p q = only p q

pub place-and-feed-payload-one : OneWith place-and-feed-payload'.ps place-and-feed-payload'.r place-and-feed-payload.Learnt (λ κs e. e.1.0.now)
place-and-feed-payload-one κs a z z' e e' p q = only p q

pub place-and-feed-dcs-one : OneWith place-and-feed-dcs'.ps place-and-feed-dcs'.r place-and-feed-dcs.Learnt (λ κs e. e.1.0.now)
place-and-feed-dcs-one κs a z z' e e' p q = only p q
