-- The whole outcome of each function over a reader that takes its stream in pieces: its answer, the reader, the palette and every byte of the
-- canvas. What a single call does is said by the DCS session's definitions, which stay closed here.
use Rattle.std.specs.Prelude.{ℕ, zero, suc, ◌+◌, ◌*◌, min, cond, List, eqb, length, drop, Ok, Err}
use Rattle.colours.specs.declared.Palette.{Palette}
use Rattle.frame.specs.declared.Limits.{Limits}
use Rattle.payload.specs.declared.Finished.{Finished}
use Rattle.payload.specs.Results.{Opening}
use Rattle.payload.specs.Session.{turned_away}
use Rattle.dcs.specs.Results.{Answer, Fed, Opened}
use Rattle.payload.specs.declared.Answer.TheVariants as answers
use Rattle.dcs.specs.declared.Session.{Session}
use Rattle.dcs.specs.Session as dcs
use Rattle.pieces.specs.declared.Called.{Called}
use Rattle.pieces.specs.declared.Counts.{Counts}
use Rattle.pieces.specs.declared.Reader.{Reader}
use Rattle.pieces.specs.declared.Standing.{Standing}
use Rattle.pieces.specs.declared.Standing.TheVariants as standings
use Rattle.pieces.specs.declared.Told.{Told}

-- ---- opening

-- nothing has been read
unfoldable pub began_as : Session → Standing → ℕ → Reader
began_as s standing allowance =
    record { session = s; standing = standing; allowance = allowance; counts = record { consumed = 0; ink = 0; calls = 0 } }

-- the smallest allowance is 6W; a refused opening reads nothing
unfoldable pub opened_as : Opening → Session → ℕ → Reader
unfolding began_as
opened_as (Ok tt) s w = began_as s standings.Reading (6 * w)
opened_as (Err n) s w = began_as s (standings.Refused n) 0

-- a reader is opened as its session is
unfoldable pub opened_by : Limits → ℕ → Palette → ℕ → Reader
unfolding opened_as
opened_by l stride p size = let o : Opened = dcs.opened_by l stride p size in opened_as o.answer o.session l.width

-- ---- one call

-- a count saturates at 2^64 - 1
unfoldable pub held : ℕ → ℕ
held n = min n 18446744073709551615

-- a count and more
unfoldable pub held_sum : ℕ → ℕ → ℕ
unfolding held
held_sum count more = held (count + more)

-- the counts with one call more
unfoldable pub counted_as : Counts → ℕ → ℕ → Counts
unfolding held_sum
counted_as c consumed ink =
    record { consumed = held_sum c.consumed consumed; ink = held_sum c.ink ink; calls = held_sum c.calls 1 }

-- the reader after a call, with the session and what the answer told
unfoldable pub after_call : Reader → Session → Standing → ℕ → ℕ → Reader
unfolding counted_as
after_call r s standing consumed ink =
    record { session = s; standing = standing; allowance = r.allowance; counts = counted_as r.counts consumed ink }

-- what an answer tells of its call; a refusal tells no counts
unfoldable pub told_by : Answer → Told
told_by (Ok (answers.More c i)) = record { standing = standings.Reading; consumed = c; ink = i; stopped = 0 }
told_by (Ok (answers.Stopped c i)) = record { standing = standings.Reading; consumed = c; ink = i; stopped = c }
told_by (Ok (answers.Ended c i e)) = record { standing = standings.Ended e; consumed = c; ink = i; stopped = 0 }
told_by (Err n) = record { standing = standings.Refused n; consumed = 0; ink = 0; stopped = 0 }

-- what that makes of a reader
unfoldable pub called_as : Answer → Session → Reader → Called
unfolding after_call told_by
called_as a s r =
    let t : Told = told_by a in
    record { reader = after_call r s t.standing t.consumed t.ink; stopped = t.stopped }

-- a call with the reader's allowance
unfoldable pub called_by : Reader → List ℕ → List ℕ → Called × List ℕ
unfolding called_as
called_by r canvas bytes =
    let x : Fed × List ℕ = dcs.fed_by r.session canvas bytes r.allowance in
    (called_as x.0.answer x.0.session r, x.1)

-- ---- a piece

-- at most so many calls: a stop's unread bytes are presented again, and any other call is the last
unfoldable pub taken_for : ℕ → Reader → List ℕ → List ℕ → Reader × List ℕ
unfolding called_by
taken_for zero r canvas bytes = (r, canvas)
taken_for (suc n) r canvas bytes =
    let x : Called × List ℕ = called_by r canvas bytes in
    cond (eqb x.0.stopped 0) (x.0.reader, x.1) (taken_for n x.0.reader x.1 (drop x.0.stopped bytes))

-- a stop consumes a byte, so there are no more calls than this
unfoldable pub taken_in : Reader → List ℕ → List ℕ → Reader × List ℕ
unfolding taken_for
taken_in r canvas bytes = taken_for (suc (length bytes)) r canvas bytes

-- after an end or a refusal no call is made
unfoldable pub taken_as : Standing → Reader → List ℕ → List ℕ → Reader × List ℕ
unfolding taken_in
taken_as standings.Reading r canvas bytes = taken_in r canvas bytes
taken_as (standings.Ended e) r canvas bytes = (r, canvas)
taken_as (standings.Refused n) r canvas bytes = (r, canvas)

-- so a piece is taken
unfoldable pub taken_by : Reader → List ℕ → List ℕ → Reader × List ℕ
unfolding taken_as
taken_by r canvas bytes = taken_as r.standing r canvas bytes

-- ---- the end

-- a reader that was not refused is finished as its session is
unfoldable pub finished_as : Standing → Reader → Palette → List ℕ → Finished × List ℕ
finished_as standings.Reading r owner canvas = dcs.finished_by r.session owner canvas
finished_as (standings.Ended e) r owner canvas = dcs.finished_by r.session owner canvas
finished_as (standings.Refused n) r owner canvas = turned_away owner n canvas

-- a refused reader repeats its refusal, and writes nothing
unfoldable pub finished_by : Reader → Palette → List ℕ → Finished × List ℕ
unfolding finished_as
finished_by r owner canvas = finished_as r.standing r owner canvas
