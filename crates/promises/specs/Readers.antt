-- The readers that callers have, each as the demands meet one (`meaning/Demands`): what is held between calls, a feed whose answer is said in
-- the definition's terms, the canvas among what is held, a finish, and another canvas lent in its place.
use Rattle.std.specs.Prelude.{ℕ, cond, List, eqb, get_or}
use Rattle.std.proofs.Math.Option.{none, some}
use Rattle.canvas.specs.Picture.{area_of}
use Rattle.colours.specs.declared.Palette.{Palette}
use Rattle.colours.specs.Palette.{of_table}
use Rattle.meaning.specs.Calls.{Status, needs_more, stopped_for_ink, ended, Answer, told, refused}
use Rattle.meaning.specs.Callers.{Feed}
use Rattle.meaning.specs.Demands.{Concluded}
use Rattle.meaning.specs.Payload as meant
use Rattle.meaning.specs.Payload.{by_raster, left_to_p1}
use Rattle.meaning.specs.Sessions.{End, complete, cancelled, interrupted}
use Rattle.payload.specs.declared.Finished.{Finished}
use Rattle.payload.specs.History as payload
use Rattle.payload.specs.Session as payload_session
use Rattle.dcs.specs.History as dcs
use Rattle.dcs.specs.Session as dcs_session
use Rattle.payload.specs.Meant.{finish_meant}
use Rattle.owlgantry.specs.Sessions.{payload_fed, payload_finished, dcs_fed, dcs_finished}

-- ---- sessions by value: a session and its canvas are held

-- what a finish of the code leaves
unfoldable pub concluded_by : Finished × List ℕ → Concluded
concluded_by x = record { answer = finish_meant x.0.answer x.0.palette; palette = x.0.palette; canvas = x.1 }

abbrev pub payload_feed : Feed payload.Held (Answer ℕ)
payload_feed = payload.tell_with payload_session.fed_by

abbrev pub payload_canvas : payload.Held → List ℕ
payload_canvas h = h.1

abbrev pub payload_finish : payload.Held → Palette → Concluded
payload_finish h owner = concluded_by (payload_session.finished_by h.0 owner h.1)

abbrev pub payload_lend : payload.Held → List ℕ → payload.Held
payload_lend h lent = (h.0, lent)

abbrev pub dcs_feed : Feed dcs.Held (Answer End)
dcs_feed = dcs.tell_held

abbrev pub dcs_canvas : dcs.Held → List ℕ
dcs_canvas h = h.1

abbrev pub dcs_finish : dcs.Held → Palette → Concluded
dcs_finish h owner = concluded_by (dcs_session.finished_by h.0 owner h.1)

abbrev pub dcs_lend : dcs.Held → List ℕ → dcs.Held
dcs_lend h lent = (h.0, lent)

-- ---- sessions in the caller's memory: 48 numbers, 256 registers and a canvas are held

pub record Memory : Type 0 where
  pub numbers : List ℕ
  pub registers : List ℕ
  pub canvas : List ℕ

-- what the numbers say: 0 all bytes were read, 1 stopped for ink, and else an end, by which byte
unfoldable pub status_from : {E : Type 0} → (ℕ → ℕ → E) → ℕ → ℕ → Status E
status_from end_from kind byte = cond (eqb kind 0) needs_more (cond (eqb kind 1) stopped_for_ink (ended (end_from kind byte)))

-- 2 ended, by the byte; and of a DCS session 2 complete, 3 cancelled, 4 interrupted
unfoldable pub payload_end_from : ℕ → ℕ → ℕ
payload_end_from kind byte = byte

unfoldable pub dcs_end_from : ℕ → ℕ → End
dcs_end_from kind byte = cond (eqb kind 2) complete (cond (eqb kind 3) (cancelled byte) (interrupted byte))

-- the number that a feed answers is 0, and then the report has status, bytes consumed, ink and the byte; or it is a refusal's
unfoldable pub answer_from : {E : Type 0} → (ℕ → ℕ → E) → ℕ → List ℕ → Answer E
unfolding status_from
answer_from end_from number report =
    cond (eqb number 0)
    (told (get_or report 1 0) (get_or report 2 0) (status_from end_from (get_or report 0 0) (get_or report 3 0)))
    (refused number)

-- 2 the raster's ratio, 1 left to P1 with its number, 0 left to P1 and there is none
unfoldable pub ratio_from : ℕ → ℕ → meant.Ratio
ratio_from kind n = cond (eqb kind 2) (by_raster n) (cond (eqb kind 1) (left_to_p1 (some n)) (left_to_p1 none))

-- the number that a finish answers is 0, and then the report has size, extent, ratio, background, how many registers were defined, the declared
-- size and how many definitions had a held value; or it is a refusal's
unfoldable pub finished_from : ℕ → List ℕ → Palette → meant.Finished
unfolding ratio_from
finished_from number report p =
    cond (eqb number 0)
    (meant.finished
    (record {
      size = area_of (get_or report 0 0) (get_or report 1 0);
      ratio = ratio_from (get_or report 4 0) (get_or report 5 0);
      clear = eqb (get_or report 6 0) 1;
      extent = area_of (get_or report 2 0) (get_or report 3 0);
      defined = get_or report 7 0;
      declared = area_of (get_or report 8 0) (get_or report 9 0);
      held = get_or report 10 0;
      palette = p;
    }))
    (meant.turned_down number)

-- what a feed and a finish answer: a number, the session's numbers, registers (a feed leaves the session's, a finish the owner's), the canvas and
-- a report
abbrev pub Told : Type 0
Told = ℕ × List ℕ × List ℕ × List ℕ × List ℕ

-- the memory after it
unfoldable pub memory_after : Told → Memory
memory_after x = record { numbers = x.1; registers = x.2; canvas = x.3 }

unfoldable pub memory_concluded : Told → Concluded
unfolding finished_from
memory_concluded x = record { answer = finished_from x.0 x.4 (of_table x.2); palette = of_table x.2; canvas = x.3 }

abbrev pub payload_memory_feed : Feed Memory (Answer ℕ)
payload_memory_feed m bs a =
    let x : Told = payload_fed m.numbers m.registers m.canvas bs a in (memory_after x, answer_from payload_end_from x.0 x.4)

abbrev pub payload_memory_finish : Memory → Palette → Concluded
payload_memory_finish m owner = memory_concluded (payload_finished m.numbers m.registers owner.colors m.canvas)

abbrev pub dcs_memory_feed : Feed Memory (Answer End)
dcs_memory_feed m bs a =
    let x : Told = dcs_fed m.numbers m.registers m.canvas bs a in (memory_after x, answer_from dcs_end_from x.0 x.4)

abbrev pub dcs_memory_finish : Memory → Palette → Concluded
dcs_memory_finish m owner = memory_concluded (dcs_finished m.numbers m.registers owner.colors m.canvas)

abbrev pub memory_canvas : Memory → List ℕ
memory_canvas m = m.canvas

abbrev pub memory_lend : Memory → List ℕ → Memory
memory_lend m lent = record { numbers = m.numbers; registers = m.registers; canvas = lent }
