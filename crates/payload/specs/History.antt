-- The simulation relation: when a session of the code and its canvas stand for a session of the definition, and its callers.
use Rattle.std.specs.Prelude.{◌≡◌, ℕ, Bool, true, false, List, Ok, Err}
use Rattle.std.proofs.Math.Option.{Option, none, some}
use Rattle.colours.specs.declared.Palette.{Palette}
use Rattle.frame.specs.declared.Refusal.{Refusal}
use Rattle.frame.specs.Numbers.{number_of}
use Rattle.meaning.specs.Calls as calls
use Rattle.meaning.specs.Callers as callers
use Rattle.meaning.specs.Callers.{Ask}
use Rattle.meaning.specs.Payload as meant
use Rattle.meaning.specs.Reader.{Turn, Caller}
use Rattle.meaning.specs.Sessions.{Reading}
use Rattle.agreement.specs.Same.{SameDrawing, SameBegun}
use Rattle.payload.specs.Results.{Answer, Fed, Opened}
use Rattle.payload.specs.declared.Finished.{Finished}
use Rattle.payload.specs.declared.Life.{Life}
use Rattle.payload.specs.declared.Life.TheVariants as lives
use Rattle.payload.specs.declared.Report.{Report}
use Rattle.payload.specs.declared.Session.{Session}
use Rattle.payload.specs.Session.{fed_by}
use Rattle.payload.specs.Meant.{parameters_meant, setting_meant, answer_meant, report_meant}

-- ---- a session and its canvas stand for a session of the definition

-- a live session has come to no end, an ended one to its byte; a failed one has failed
abbrev pub SameLife : Life → Bool → Option ℕ → Type 0
SameLife lives.Live failed over = (failed ≡ false) × (over ≡ none)
SameLife (lives.Ended b) failed over = (failed ≡ false) × (over ≡ some b)
SameLife lives.Failed failed over = failed ≡ true

-- the same setting, length, parameters and life; frame, palette and canvas are those of the drawing on the bytes of the opening; and the begun
-- command is the same, unless the session has failed
pub record Stands (opening : List ℕ) (s : Session) (l : List ℕ) (m : calls.Session Reading) : Type 0 where
  pub setting : m.setting ≡ setting_meant s.ground.limits s.ground.stride s.length
  pub long : m.length ≡ s.length
  pub parameters : m.state.parameters ≡ parameters_meant s.settings
  pub life : SameLife s.life m.failed m.state.over
  pub drawing : SameDrawing m.setting opening m.state.drawing s.ground s.frame s.palette l
  pub begun : m.failed ≡ false → SameBegun m.state.begun s.frame.command

-- an opening: a session that stands for the definition's, or the definition's refusal and not a byte written
pub data Opens (opening : List ℕ) : Opened × List ℕ → calls.Opened Reading → Type 0 where
  is_ready : {s : Session} {l : List ℕ} {m : calls.Session Reading} → Stands opening s l m
      → Opens opening (record { answer = Ok tt; session = s }, l) (calls.is_open m)
  is_refused : (n : Refusal) {s : Session}
      → Opens opening (record { answer = Err n; session = s }, opening) (calls.not_opened (number_of n))

-- a feed: the definition's answer, and a session and a canvas that stand for its session
pub record Feeds (opening : List ℕ) (x : Fed × List ℕ) (y : calls.Fed Reading ℕ) : Type 0 where
  pub answer : answer_meant x.0.answer ≡ y.answer
  pub session : Stands opening x.0.session x.1 y.session

-- a finish: the definition's report, its palette committed and its picture on the canvas; or the definition's refusal, the palette the owner's
-- and the canvas as it was
pub data Finishes (picture : List ℕ) (owner : Palette) (l : List ℕ) : Finished × List ℕ → meant.Finished → Type 0 where
  pictures : {r : Report} {p : Palette}
      → Finishes picture owner l (record { answer = Ok r; palette = p }, picture) (meant.finished (report_meant r p))
  declines : (n : Refusal)
      → Finishes picture owner l (record { answer = Err n; palette = owner }, l) (meant.turned_down (number_of n))

-- ---- callers

-- what a caller holds: a session and its canvas
abbrev pub Held : Type 0
Held = Session × List ℕ

-- feeding it by a function of a session, a canvas, bytes and an allowance
abbrev pub feed_with : (Session → List ℕ → List ℕ → ℕ → Fed × List ℕ) → callers.Feed Held Answer
feed_with f h bs a = let x : Fed × List ℕ = f h.0 h.1 bs a in ((x.0.session, x.1), x.0.answer)

-- the same with the answer's meaning
abbrev pub tell_with : (Session → List ℕ → List ℕ → ℕ → Fed × List ℕ) → callers.Feed Held (calls.Answer ℕ)
tell_with f h bs a = let x : Held × Answer = feed_with f h bs a in (x.0, answer_meant x.1)

-- feeding the definition's session, on a canvas of so many bytes
abbrev pub feed_meant : ℕ → callers.Feed (calls.Session Reading) (calls.Answer ℕ)
feed_meant size m bs a = let y : calls.Fed Reading ℕ = calls.feed_payload m size a bs in (y.session, y.answer)

-- any calls, the canvas given back each time as it was left
abbrev pub Past : Type 0
Past = callers.Past Held Answer

abbrev pub fed_all : Session → List ℕ → List Ask → Past
fed_all s l = callers.fed_all (feed_with fed_by) (s, l)

-- the same of the definition
abbrev pub PastMeant : Type 0
PastMeant = callers.Past (calls.Session Reading) (calls.Answer ℕ)

abbrev pub fed_all_meant : calls.Session Reading → ℕ → List Ask → PastMeant
fed_all_meant m size = callers.fed_all (feed_meant size) m

-- the calls of a caller that presents what was left unread
abbrev pub called : Caller Held → Turn → Caller Held
called = callers.called (tell_with fed_by)

abbrev pub calls_of : Caller Held → List Turn → Caller Held
calls_of = callers.calls_of (tell_with fed_by)

abbrev pub proper_calls : ℕ → Caller Held → List Turn → Bool
proper_calls = callers.proper_calls (tell_with fed_by)
