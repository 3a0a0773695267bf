-- The simulation relation: when a DCS session of the code and its canvas stand for a session of the definition, and its callers.
use Rattle.std.specs.Prelude.{◌≡◌, ℕ, Bool, true, false, List, [], length, Ok, Err}
use Rattle.std.proofs.Math.Option.{none}
use Rattle.numbers.specs.declared.Parameters.{Parameters}
use Rattle.numbers.specs.Read.{Read}
use Rattle.colours.specs.declared.Palette.{Palette}
use Rattle.colours.specs.Marks.{lasting}
use Rattle.frame.specs.declared.Limits.{Limits}
use Rattle.frame.specs.declared.Refusal.{Refusal}
use Rattle.frame.specs.Numbers.{number_of}
use Rattle.meaning.specs.Calls as calls
use Rattle.meaning.specs.Callers as callers
use Rattle.meaning.specs.Callers.{Ask}
use Rattle.meaning.specs.Reader.{Turn, Caller}
use Rattle.meaning.specs.Sessions as sessions
use Rattle.payload.specs.declared.Life.TheVariants as lives
use Rattle.payload.specs.declared.Session as payload_session
use Rattle.payload.specs.Deferred.{no_settings}
use Rattle.payload.specs.Refusals.{openable}
use Rattle.payload.specs.Session.{session_for}
use Rattle.payload.specs.History as payload
use Rattle.payload.specs.Meant as payload_meant
use Rattle.dcs.specs.Results.{Answer, Fed, Opened}
use Rattle.dcs.specs.declared.Ending.{Ending}
use Rattle.dcs.specs.declared.Phase.TheVariants as phases
use Rattle.dcs.specs.declared.Session.{Session}
use Rattle.header.specs.declared.Place.{Place}
use Rattle.header.specs.declared.Place.TheVariants as places
use Rattle.dcs.specs.Session.{session_of, fed_by}
use Rattle.dcs.specs.Meant.{end_meant, answer_meant}

-- ---- a session and its canvas stand for a session of the definition

-- the same place before the payload: the header's digits and `;` so far have been read into its values
pub data SamePlace : Place → Parameters → sessions.Phase → Type 0 where
  at_start : {h : Parameters} → Read 3 [] h → SamePlace places.Start h sessions.start
  at_introduced : {h : Parameters} → Read 3 [] h → SamePlace places.Introduced h sessions.introduced
  in_header : {h : Parameters} {bs : List ℕ} → Read 3 bs h → SamePlace places.Header h (sessions.header bs)

-- what was opened, in a state, failed or not
abbrev pub held_at : {S : Type 0} → Limits → ℕ → ℕ → S → Bool → calls.Session S
held_at l stride size x failed = record { setting = payload_meant.setting_meant l stride size; length = size; state = x; failed = failed }

-- of a session opened with these limits, stride and palette on a canvas with these bytes: before `q` not a byte is written, and from then on
-- its payload session and the canvas stand for the definition's payload
pub data Stands (l : Limits) (stride : ℕ) (p : Palette) (opening : List ℕ) : Session → List ℕ → calls.Session sessions.Phase → Type 0 where
  before : {t : Place} {h : Parameters} {x : sessions.Phase} → openable l stride (length opening) ≡ true → SamePlace t h x
      → Stands l stride p opening (session_of (session_for l stride (length opening) no_settings (lasting p) lives.Live) h (phases.Before t)) opening
      (held_at l stride (length opening) x false)
  refused : {t : Place} {h : Parameters} {x : sessions.Phase} → SamePlace t h x
      → Stands l stride p opening (session_of (session_for l stride (length opening) no_settings (lasting p) lives.Failed) h (phases.Before t)) opening
      (held_at l stride (length opening) x true)
  inside : {s : payload_session.Session} {h : Parameters} {c : List ℕ} {r : sessions.Reading} {failed : Bool}
      → payload.Stands opening s c (held_at l stride (length opening) r failed) → (failed ≡ false → r.over ≡ none)
      → Stands l stride p opening (session_of s h phases.Within) c (held_at l stride (length opening) (sessions.within r) failed)
  escaped : {s : payload_session.Session} {h : Parameters} {c : List ℕ} {r : sessions.Reading}
      → payload.Stands opening s c (held_at l stride (length opening) r false)
      → Stands l stride p opening (session_of s h phases.Escaped) c (held_at l stride (length opening) (sessions.after_escape r) false)
  ended : {s : payload_session.Session} {h : Parameters} {c : List ℕ} {r : sessions.Reading} {e : Ending}
      → payload.Stands opening s c (held_at l stride (length opening) r false)
      → Stands l stride p opening (session_of s h (phases.Over e)) c (held_at l stride (length opening) (sessions.over (end_meant e) r) false)

-- an opening: a session that stands for the definition's, or the definition's refusal
pub data Opens (l : Limits) (stride : ℕ) (p : Palette) (opening : List ℕ) : Opened → calls.Opened sessions.Phase → Type 0 where
  is_ready : {s : Session} {m : calls.Session sessions.Phase} → Stands l stride p opening s opening m
      → Opens l stride p opening (record { answer = Ok tt; session = s }) (calls.is_open m)
  is_refused : (n : Refusal) {s : Session}
      → Opens l stride p opening (record { answer = Err n; session = s }) (calls.not_opened (number_of n))

-- a feed: the definition's answer, and a session and a canvas that stand for its session
pub record Feeds (l : Limits) (stride : ℕ) (p : Palette) (opening : List ℕ)
    (x : Fed × List ℕ) (y : calls.Fed sessions.Phase sessions.End) : Type 0 where
  pub answer : answer_meant x.0.answer ≡ y.answer
  pub session : Stands l stride p opening x.0.session x.1 y.session

-- ---- callers

-- what a caller holds: a session and its canvas
abbrev pub Held : Type 0
Held = Session × List ℕ

-- feeding it, and the same with the answer's meaning
abbrev pub feed_held : callers.Feed Held Answer
feed_held h bs a = let x : Fed × List ℕ = fed_by h.0 h.1 bs a in ((x.0.session, x.1), x.0.answer)

abbrev pub tell_held : callers.Feed Held (calls.Answer sessions.End)
tell_held h bs a = let x : Held × Answer = feed_held h bs a in (x.0, answer_meant x.1)

-- feeding the definition's session, on a canvas of so many bytes
abbrev pub feed_meant : Palette → ℕ → callers.Feed (calls.Session sessions.Phase) (calls.Answer sessions.End)
feed_meant p size m bs a = let y : calls.Fed sessions.Phase sessions.End = calls.feed_dcs p m size a bs in (y.session, y.answer)

-- any calls, the canvas given back each time as it was left
abbrev pub Past : Type 0
Past = callers.Past Held Answer

abbrev pub fed_all : Session → List ℕ → List Ask → Past
fed_all s l = callers.fed_all feed_held (s, l)

-- the same of the definition
abbrev pub PastMeant : Type 0
PastMeant = callers.Past (calls.Session sessions.Phase) (calls.Answer sessions.End)

abbrev pub fed_all_meant : Palette → calls.Session sessions.Phase → ℕ → List Ask → PastMeant
fed_all_meant p m size = callers.fed_all (feed_meant p size) m

-- the calls of a caller that presents what was left unread
abbrev pub called : Caller Held → Turn → Caller Held
called = callers.called tell_held

abbrev pub calls_of : Caller Held → List Turn → Caller Held
calls_of = callers.calls_of tell_held

abbrev pub proper_calls : ℕ → Caller Held → List Turn → Bool
proper_calls = callers.proper_calls tell_held
