-- What is told of a call, on the code's own records.
use Rattle.std.specs.Prelude.{ℕ, ◌+◌, true, false, cond, List, [], ◌∷◌, length, drop, Result, Ok, Err, Some, None}
use Rattle.numbers.specs.Step as numbers
use Rattle.colours.specs.declared.Palette.{Palette}
use Rattle.colours.specs.Marks.{lasting}
use Rattle.frame.specs.declared.Frame.{Frame}
use Rattle.frame.specs.declared.Ground.{Ground}
use Rattle.frame.specs.declared.Limits.{Limits}
use Rattle.frame.specs.declared.Outcome.{Outcome}
use Rattle.frame.specs.declared.Outcome.TheVariants as outcomes
use Rattle.frame.specs.declared.Refusal.{Refusal}
use Rattle.frame.specs.declared.Refusal.TheVariants as refusals
use Rattle.payload.specs.declared.Life.{Life}
use Rattle.payload.specs.declared.Life.TheVariants as lives
use Rattle.payload.specs.declared.Session as payload_session
use Rattle.payload.specs.declared.Settings.{Settings}
use Rattle.payload.specs.Results.{Verdict}
use Rattle.payload.specs.Deferred.{no_settings, begun_session}
use Rattle.payload.specs.Refusals.{openable, feed_judged, finish_judged}
use Rattle.payload.specs.Session.{session_for}
use Rattle.header.specs.declared.Lead.{Lead}
use Rattle.header.specs.Results as header
use Rattle.header.specs.declared.Led.TheVariants as leds
use Rattle.header.specs.declared.Place.{Place}
use Rattle.header.specs.declared.Place.TheVariants as lead_places
use Rattle.header.specs.Lead.{lead_from}
use Rattle.header.specs.Settings.{settings_from}
use Rattle.dcs.specs.declared.Phase.{Phase}
use Rattle.dcs.specs.declared.Phase.TheVariants as phases
use Rattle.dcs.specs.declared.Session as dcs_session
use Rattle.dcs.specs.Session.{end_judged}
use Rattle.oneshot.specs.Search.{Start, start_from}
use Rattle.words.specs.declared.Telling.{Telling}
use Rattle.explain.specs.declared.dry.Led.{Led}
use Rattle.explain.specs.Dry.{dry_from}
use Rattle.explain.specs.Need.{Need, largest, need_of}

-- ---- what is told

-- what is told of a call: nothing of one that is not refused
abbrev pub Explained : Type 0
Explained = Result (Unit {0}) Telling

unfoldable pub placeless_for : Refusal → Explained
placeless_for r = Err (record { refusal = r; place = None; need = None })

unfoldable pub told_for : ℕ → Refusal → Need → Explained
told_for at r need = Err (record { refusal = r; place = Some at; need = need })

-- where reading came to, with the place of the byte that it left unread
unfoldable pub explained_in : Outcome → Frame → Ground → ℕ → Explained
unfolding told_for
explained_in outcomes.Read f g at = Ok tt
explained_in outcomes.Stopped f g at = Ok tt
explained_in (outcomes.Ended b) f g at = Ok tt
explained_in (outcomes.Refused r) f g at = told_for at r (need_of f g)

-- a payload's bytes that stand at a place
unfoldable pub part_explained : Led → Ground → ℕ → Explained
unfolding explained_in
part_explained l g from = explained_in l.outcome l.frame g (from + l.consumed)

-- the pending command, ended by a byte that ends the payload
unfoldable pub pending_explained : Frame → Ground → Palette → ℕ → Explained
unfolding explained_in
pending_explained f g p at = let l : Led = dry_from true g (0x1B ∷ []) 0 0 f p in explained_in l.outcome l.frame g at

-- a refusal before a byte is read has no place
unfoldable pub unless_judged : Verdict → Explained → Explained
unfolding placeless_for
unless_judged (Ok tt) later = later
unless_judged (Err r) later = placeless_for r

-- ---- a payload session

unfoldable pub fed_explained_in : Life → payload_session.Session → List ℕ → ℕ → ℕ → Explained
unfolding part_explained
fed_explained_in lives.Live s bs from a = part_explained (dry_from true s.ground bs 0 a s.frame s.palette) s.ground from
fed_explained_in (lives.Ended b) s bs from a = Ok tt
fed_explained_in lives.Failed s bs from a = part_explained (dry_from true s.ground bs 0 a s.frame s.palette) s.ground from

-- a feed on a canvas of so many bytes, of bytes that stand at a place
unfoldable pub fed_explained : payload_session.Session → ℕ → List ℕ → ℕ → ℕ → Explained
unfolding unless_judged fed_explained_in
fed_explained s size bs from a = unless_judged (feed_judged s size a) (fed_explained_in s.life s bs from a)

unfoldable pub payload_feed_explained : payload_session.Session → ℕ → List ℕ → ℕ → Explained
unfolding fed_explained
payload_feed_explained s size bs a = fed_explained s size bs 0 a

unfoldable pub payload_finish_explained : payload_session.Session → ℕ → Explained
unfolding unless_judged pending_explained
payload_finish_explained s size = unless_judged (finish_judged s size) (pending_explained s.frame s.ground s.palette 0)

-- ---- a DCS session

-- where introducer and header led to
unfoldable pub led_explained : header.Led → Lead → payload_session.Session → ℕ → List ℕ → ℕ → Explained
unfolding told_for fed_explained
led_explained (Ok leds.On) l s size bs a = Ok tt
led_explained (Ok leds.Begins) l s size bs a =
    fed_explained (begun_session s (settings_from l.header)) size (drop l.consumed bs) l.consumed a
led_explained (Err r) l s size bs a = told_for l.consumed r None

unfoldable pub lead_explained : Place → dcs_session.Session → ℕ → List ℕ → ℕ → Explained
unfolding led_explained
lead_explained t s size bs a = let l : Lead = lead_from bs 0 t s.header in led_explained l.led l s.payload size bs a

unfoldable pub dcs_feed_in : Phase → dcs_session.Session → ℕ → List ℕ → ℕ → Explained
unfolding lead_explained fed_explained_in
dcs_feed_in (phases.Before t) s size bs a = lead_explained t s size bs a
dcs_feed_in phases.Within s size bs a = fed_explained_in s.payload.life s.payload bs 0 a
dcs_feed_in phases.Escaped s size bs a = Ok tt
dcs_feed_in (phases.Over e) s size bs a = Ok tt

unfoldable pub dcs_feed_explained : dcs_session.Session → ℕ → List ℕ → ℕ → Explained
unfolding unless_judged dcs_feed_in
dcs_feed_explained s size bs a = unless_judged (feed_judged s.payload size a) (dcs_feed_in s.phase s size bs a)

-- 8 before the end
unfoldable pub dcs_finish_in : Phase → payload_session.Session → Explained
unfolding told_for pending_explained
dcs_finish_in (phases.Before t) s = told_for 0 refusals.Unfinished None
dcs_finish_in phases.Within s = told_for 0 refusals.Unfinished None
dcs_finish_in phases.Escaped s = told_for 0 refusals.Unfinished None
dcs_finish_in (phases.Over e) s = pending_explained s.frame s.ground s.palette 0

unfoldable pub dcs_finish_explained : dcs_session.Session → ℕ → Explained
unfolding unless_judged dcs_finish_in
dcs_finish_explained s size = unless_judged (finish_judged s.payload size) (dcs_finish_in s.phase s.payload)

-- ---- reading all at once

-- where no byte is refused, the pending command at the end
unfoldable pub whole_in : Outcome → Led → Ground → Palette → ℕ → ℕ → Explained
unfolding part_explained pending_explained
whole_in outcomes.Read l g p from end = pending_explained l.frame g p end
whole_in outcomes.Stopped l g p from end = part_explained l g from
whole_in (outcomes.Ended b) l g p from end = part_explained l g from
whole_in (outcomes.Refused r) l g p from end = part_explained l g from

-- a payload's bytes that stand at a place, to their end
unfoldable pub whole_explained : Frame → Ground → Palette → List ℕ → ℕ → ℕ → Explained
unfolding whole_in
whole_explained f g p bs from end = let l : Led = dry_from false g bs 0 largest f p in whole_in l.outcome l g p from end

-- a session that starts with these settings, and its bytes from a place of all
unfoldable pub started_explained : payload_session.Session → Settings → List ℕ → ℕ → Explained
unfolding whole_explained
started_explained s o bs from =
    let begun : payload_session.Session = begun_session s o in
    whole_explained begun.frame begun.ground begun.palette (drop from bs) from (length bs)

unfoldable pub headed_in : header.Led → Lead → payload_session.Session → List ℕ → Explained
unfolding started_explained told_for
headed_in (Ok leds.On) l s bs = told_for l.consumed refusals.Unfinished None
headed_in (Ok leds.Begins) l s bs = started_explained s (settings_from l.header) bs l.consumed
headed_in (Err r) l s bs = told_for l.consumed r None

-- a header that stands at a place
unfoldable pub headed_from : ℕ → payload_session.Session → List ℕ → Explained
unfolding headed_in
headed_from at s bs = let l : Lead = lead_from (drop at bs) at lead_places.Header (numbers.opened 3) in headed_in l.led l s bs

unfoldable pub found_explained : Start → payload_session.Session → List ℕ → Explained
unfolding headed_from started_explained
found_explained (Some n) s bs = headed_from n s bs
found_explained None s bs = started_explained s no_settings bs 0

unfoldable pub input_explained : payload_session.Session → List ℕ → Explained
unfolding found_explained
input_explained s bs = found_explained (start_from 0 bs) s bs

-- with the registers that a session is to start from
unfoldable pub read_explained_on : Limits → ℕ → ℕ → Palette → List ℕ → Explained
unfolding input_explained placeless_for
read_explained_on l stride size p bs =
    cond (openable l stride size) (input_explained (session_for l stride size no_settings p lives.Live) bs) (placeless_for refusals.Opening)

-- with its owner's palette
unfoldable pub read_explained : Limits → ℕ → ℕ → Palette → List ℕ → Explained
unfolding read_explained_on
read_explained l stride size owner bs = read_explained_on l stride size (lasting owner) bs
