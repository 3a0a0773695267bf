-- The whole outcome of each function over a DCS session: its answer, the session, the palette and every byte of the canvas.
use Rattle.std.specs.Prelude.{ℕ, ◌+◌, cond, ◌||◌, List, [], ◌∷◌, length, drop, ◌==◌, Ok, Err}
use Rattle.numbers.specs.declared.Parameters.{Parameters}
use Rattle.numbers.specs.Step as numbers
use Rattle.colours.specs.declared.Palette.{Palette}
use Rattle.colours.specs.Marks.{lasting}
use Rattle.frame.specs.declared.Limits.{Limits}
use Rattle.frame.specs.declared.Refusal.TheVariants as refusals
use Rattle.payload.specs.Results as payload_answer
use Rattle.payload.specs.declared.Finished.{Finished}
use Rattle.payload.specs.declared.Session as payload_session
use Rattle.payload.specs.Results.{Verdict}
use Rattle.payload.specs.Deferred.{reserved_by, begun_by, failed_of}
use Rattle.payload.specs.Refusals.{feed_judged, finish_judged}
use Rattle.payload.specs.Session as payload
use Rattle.payload.specs.declared.Answer.TheVariants as answers
use Rattle.dcs.specs.declared.Ending.{Ending}
use Rattle.dcs.specs.declared.Ending.TheVariants as endings
use Rattle.dcs.specs.Results.{Fed, Opened}
use Rattle.dcs.specs.declared.Phase.{Phase}
use Rattle.dcs.specs.declared.Phase.TheVariants as phases
use Rattle.dcs.specs.declared.Session.{Session}
use Rattle.dcs.specs.declared.kernel.feeding.Told.{Told}
use Rattle.header.specs.declared.Lead.{Lead}
use Rattle.header.specs.Results.{Led}
use Rattle.header.specs.declared.Led.TheVariants as leds
use Rattle.header.specs.declared.Place.{Place}
use Rattle.header.specs.declared.Place.TheVariants as places
use Rattle.header.specs.Lead.{lead_from}
use Rattle.header.specs.Settings.{settings_from}

-- ---- opening

abbrev pub session_of : payload_session.Session → Parameters → Phase → Session
session_of s h t = record { payload = s; header = h; phase = t }

-- one in its payload, and one before it
abbrev pub within : payload_session.Session → Parameters → Session
within s h = session_of s h phases.Within

abbrev pub before : payload_session.Session → Parameters → Place → Session
before s h t = session_of s h (phases.Before t)

-- a payload session that has not begun, with the registers that it is to start from; nothing is written
unfoldable pub opened_on : Limits → ℕ → Palette → ℕ → Opened
opened_on l stride p size =
    let o : payload_answer.Opened = reserved_by l stride p size in
    record { answer = o.answer; session = session_of o.session (numbers.opened 3) (phases.Before places.Start) }

-- with its owner's palette, of which it has a copy: colours and marks
unfoldable pub opened_by : Limits → ℕ → Palette → ℕ → Opened
unfolding opened_on
opened_by l stride owner size = opened_on l stride (lasting owner) size

-- ---- the end

unfoldable pub moved_to : Session → Phase → Session
moved_to s t = session_of s.payload s.header t

unfoldable pub over_as : Session → ℕ → ℕ → Ending → Fed
unfolding moved_to
over_as s n i e = record { answer = Ok (answers.Ended n i e); session = moved_to s (phases.Over e) }

-- after 1B, with `n` bytes consumed: `\` completes and is consumed; another byte stays unread
unfoldable pub escaped_by : Session → List ℕ → ℕ → ℕ → Fed
unfolding moved_to over_as
escaped_by s [] n i = record { answer = Ok (answers.More n i); session = moved_to s phases.Escaped }
escaped_by s (b ∷ bs) n i =
    cond (b == 0x5C) (over_as s (n + 1) i endings.Complete) (over_as s n i (endings.Interrupted 0x1B))

-- the byte that ended the payload: 1B is consumed and waits for the next, 9C and 18 and 1A are consumed, another stays unread
unfoldable pub closed_by : Session → List ℕ → ℕ → ℕ → Fed
unfolding escaped_by over_as
closed_by s [] n i = record { answer = Ok (answers.More n i); session = s }
closed_by s (b ∷ bs) n i =
    cond (b == 0x1B) (escaped_by s bs (n + 1) i)
    (cond (b == 0x9C) (over_as s (n + 1) i endings.Complete)
    (cond (b == 0x18 || b == 0x1A) (over_as s (n + 1) i (endings.Cancelled b))
    (over_as s n i (endings.Interrupted b))))

-- ---- an answer and the phase after it: what bytes alone decide

unfoldable pub over_told : ℕ → ℕ → Ending → Told
over_told n i e = record { answer = Ok (answers.Ended n i e); phase = phases.Over e }

unfoldable pub escaped_told : List ℕ → ℕ → ℕ → Told
unfolding over_told
escaped_told [] n i = record { answer = Ok (answers.More n i); phase = phases.Escaped }
escaped_told (b ∷ bs) n i = cond (b == 0x5C) (over_told (n + 1) i endings.Complete) (over_told n i (endings.Interrupted 0x1B))

unfoldable pub closed_told : List ℕ → ℕ → ℕ → Told
unfolding escaped_told over_told
closed_told [] n i = record { answer = Ok (answers.More n i); phase = phases.Within }
closed_told (b ∷ bs) n i =
    cond (b == 0x1B) (escaped_told bs (n + 1) i)
    (cond (b == 0x9C) (over_told (n + 1) i endings.Complete)
    (cond (b == 0x18 || b == 0x1A) (over_told (n + 1) i (endings.Cancelled b))
    (over_told n i (endings.Interrupted b))))

-- the bytes that a payload session's call counts
unfoldable pub count_of : payload_answer.Answer → ℕ
count_of (Ok (answers.More c i)) = c
count_of (Ok (answers.Stopped c i)) = c
count_of (Ok (answers.Ended c i b)) = c
count_of (Err r) = 0

unfoldable pub passed_told : payload_answer.Answer → List ℕ → ℕ → Told
unfolding closed_told
passed_told (Ok (answers.More c i)) bs n = record { answer = Ok (answers.More (n + c) i); phase = phases.Within }
passed_told (Ok (answers.Stopped c i)) bs n = record { answer = Ok (answers.Stopped (n + c) i); phase = phases.Within }
passed_told (Ok (answers.Ended c i b)) bs n = closed_told (drop c bs) (n + c) i
passed_told (Err r) bs n = record { answer = Err r; phase = phases.Within }

unfoldable pub told_of : payload_session.Session → Parameters → Told → Fed
told_of s h t = record { answer = t.answer; session = session_of s h t.phase }

-- ---- feeding

-- what a payload session's call came to, after `n` bytes before it
unfoldable pub passed_on : payload_answer.Answer → Session → List ℕ → ℕ → Fed
unfolding closed_by
passed_on (Ok (answers.More c i)) s bs n = record { answer = Ok (answers.More (n + c) i); session = s }
passed_on (Ok (answers.Stopped c i)) s bs n = record { answer = Ok (answers.Stopped (n + c) i); session = s }
passed_on (Ok (answers.Ended c i b)) s bs n = closed_by s (drop c bs) (n + c) i
passed_on (Err r) s bs n = record { answer = Err r; session = s }

-- the payload's bytes, after `n` before them
unfoldable pub fed_payload : Session → List ℕ → List ℕ → ℕ → ℕ → Fed × List ℕ
unfolding passed_on
fed_payload s canvas bs n allowance =
    let r : payload_answer.Fed × List ℕ = payload.fed_by s.payload canvas bs allowance in
    (passed_on r.0.answer (session_of r.0.session s.header phases.Within) bs n, r.1)

-- where introducer and header led to: on, to the payload, or to a refusal, which fails the session
unfoldable pub led_to : Led → Lead → Session → List ℕ → List ℕ → ℕ → Fed × List ℕ
unfolding fed_payload
led_to (Ok leds.On) l s canvas bs allowance =
    (record { answer = Ok (answers.More l.consumed 0); session = session_of s.payload l.header (phases.Before l.place) }, canvas)
led_to (Ok leds.Begins) l s canvas bs allowance =
    let b : payload_session.Session × List ℕ = begun_by s.payload (settings_from l.header) canvas in
    fed_payload (session_of b.0 l.header phases.Within) b.1 (drop l.consumed bs) l.consumed allowance
led_to (Err r) l s canvas bs allowance =
    (record { answer = Err r; session = session_of (failed_of s.payload) l.header (phases.Before l.place) }, canvas)

unfoldable pub fed_lead : Session → Place → List ℕ → List ℕ → ℕ → Fed × List ℕ
unfolding led_to
fed_lead s t canvas bs allowance = let l : Lead = lead_from bs 0 t s.header in led_to l.led l s canvas bs allowance

-- an ended session repeats its end
unfoldable pub fed_in : Phase → Session → List ℕ → List ℕ → ℕ → Fed × List ℕ
unfolding fed_lead fed_payload escaped_by over_as
fed_in (phases.Before t) s canvas bs allowance = fed_lead s t canvas bs allowance
fed_in phases.Within s canvas bs allowance = fed_payload s canvas bs 0 allowance
fed_in phases.Escaped s canvas bs allowance = (escaped_by s bs 0 0, canvas)
fed_in (phases.Over e) s canvas bs allowance = (over_as s 0 0 e, canvas)

-- 9, 12, 13 leave all as it is
unfoldable pub fed_as : Verdict → Session → List ℕ → List ℕ → ℕ → Fed × List ℕ
unfolding fed_in
fed_as (Ok tt) s canvas bs allowance = fed_in s.phase s canvas bs allowance
fed_as (Err n) s canvas bs allowance = (record { answer = Err n; session = s }, canvas)

unfoldable pub fed_by : Session → List ℕ → List ℕ → ℕ → Fed × List ℕ
unfolding fed_as
fed_by s canvas bs allowance = fed_as (feed_judged s.payload (length canvas) allowance) s canvas bs allowance

-- ---- finishing

-- 8 before the end, where there is no refusal yet
unfoldable pub end_judged : Verdict → Phase → Verdict
end_judged (Ok tt) (phases.Before t) = Err refusals.Unfinished
end_judged (Ok tt) phases.Within = Err refusals.Unfinished
end_judged (Ok tt) phases.Escaped = Err refusals.Unfinished
end_judged (Ok tt) (phases.Over e) = Ok tt
end_judged (Err n) t = Err n

-- 8 before the end
unfoldable pub finished_in : Phase → Session → Palette → List ℕ → Finished × List ℕ
finished_in (phases.Before t) s owner canvas = payload.turned_away owner refusals.Unfinished canvas
finished_in phases.Within s owner canvas = payload.turned_away owner refusals.Unfinished canvas
finished_in phases.Escaped s owner canvas = payload.turned_away owner refusals.Unfinished canvas
finished_in (phases.Over e) s owner canvas = payload.finished_by s.payload owner canvas

unfoldable pub finished_as : Verdict → Session → Palette → List ℕ → Finished × List ℕ
unfolding finished_in
finished_as (Ok tt) s owner canvas = finished_in s.phase s owner canvas
finished_as (Err n) s owner canvas = payload.turned_away owner n canvas

-- 9, 12, 8, the pending command's refusal
unfoldable pub finished_by : Session → Palette → List ℕ → Finished × List ℕ
unfolding finished_as
finished_by s owner canvas = finished_as (finish_judged s.payload (length canvas)) s owner canvas
