-- A payload read byte by byte, and a DCS sequence around it (docs/RULES.md, sections 2 and 7).
use Rattle.std.specs.Prelude.{ℕ, suc, cond, ◌||◌, List, [], ◌∷◌, ◌++◌, eqb}
use Rattle.std.proofs.Math.Option.{Option, none, some, map}
use Rattle.std.proofs.Math.ListN.{get_elem?}
use Rattle.numbers.specs.Bytes.{skipped, ends}
use Rattle.numbers.specs.Values.{values, held16}
use Rattle.colours.specs.declared.Palette.{Palette}
use Rattle.meaning.specs.Commands.{Begun, Scanned, of_values, closed, scan_byte}
use Rattle.meaning.specs.Drawing.{Setting, Drawing, Outcome, blank, draw_all, ink_of_all, strokes_since}
use Rattle.meaning.specs.Payload.{Parameters, Finished, turned_down, finish}
use Rattle.meaning.specs.Reader.{Step, next, halt, refuse, read_all, stopped, halted, refused_by, Run}

-- ---- a payload

-- where a payload stands: its parameters, the bytes passed, the begun command, the drawing of those that ended, and the byte that ended the
-- payload
pub record Reading : Type 0 where
  pub parameters : Parameters
  -- no answer reads it yet
  pub passed : ℕ
  pub begun : Option Begun
  pub drawing : Drawing
  pub over : Option ℕ

-- rule 1.7: before its first byte: the blank drawing, which is pixel (0, 0) in the background
unfoldable pub opened : Parameters → Palette → Reading
opened o p = record { parameters = o; passed = 0; begun = none; drawing = blank p o.p2; over = none }

-- the begun command carried out
unfoldable pub settled : Setting → Reading → Outcome
settled s r = draw_all s (closed r.begun) r.drawing

-- rule 6.3: what a stop leaves (`call` of Reader): the begun command is carried out
unfoldable pub rested : Setting → Reading → Reading
unfolding settled
rested s r = record { parameters = r.parameters; passed = r.passed; begun = none; drawing = (settled s r).drawing; over = r.over }

-- the end of a payload: the byte ends the begun command and stays unread
unfoldable pub ended_at : ℕ → Reading → Outcome → Step Reading
ended_at b r out =
    elim out.refusal [
      | none ↦ halt (record { parameters = r.parameters; passed = r.passed; begun = none; drawing = out.drawing; over = some b })
      | some n ↦ refuse (record { parameters = r.parameters; passed = r.passed; begun = none; drawing = out.drawing; over = none }) n
    ]

-- rule 5.4: another byte: the commands that it ends or is are carried out, and its ink is that of the strokes that they draw
unfoldable pub went_on : Reading → Scanned → Outcome → Step Reading
went_on r c out =
    elim out.refusal [
      | none ↦
          next (record { parameters = r.parameters; passed = suc r.passed; begun = c.begun; drawing = out.drawing; over = none })
          (ink_of_all (strokes_since r.drawing out.drawing))
      | some n ↦ refuse (record { parameters = r.parameters; passed = r.passed; begun = none; drawing = out.drawing; over = none }) n
    ]

-- One byte of a payload. Payload says it of the whole (`payload`), here it is said byte by byte, and the two are one: the law
-- `reading-is-payload` of proofs/PayloadLaws.
unfoldable pub read_byte : Setting → Reading → ℕ → Step Reading
unfolding settled ended_at went_on
read_byte s r b =
    let c : Scanned = scan_byte r.passed r.begun b in
    cond (ends b) (ended_at b r (settled s r)) (went_on r c (draw_all s c.ended r.drawing))

-- rule 7.6: an ended payload reads no more
unfoldable pub payload_step : Setting → Reading → ℕ → Step Reading
unfolding read_byte
payload_step s r b = elim r.over [ none ↦ read_byte s r b | some e ↦ halt r ]

-- rules 5.3, 7.7: finishing carries the pending command out
unfoldable pub finish_reading : Setting → Reading → Finished
finish_reading s r = finish r.parameters (settled s r)

-- what reading some of a payload comes to: the drawing that a refusal left, or else the one with the begun command carried out
unfoldable pub outcome_of : Setting → Run Reading → Outcome
unfolding settled
outcome_of s q =
    elim q.how [
      | read_all ↦ settled s q.state
      | stopped ↦ settled s q.state
      | halted ↦ settled s q.state
      | refused_by n ↦ record { drawing = q.state.drawing; refusal = some n }
    ]

-- ---- a DCS sequence

-- how a DCS sequence came to its end; the byte is the one that cancelled or interrupted it
pub data End : Type 0 where
  complete : End
  cancelled interrupted : ℕ → End

-- where a DCS sequence stands: before its introducer; after the 1B of one; in the header, with its digits and `;` so far; in the payload;
-- after the 1B that ended the payload; at its end
pub data Phase : Type 0 where
  start introduced : Phase
  header : List ℕ → Phase
  within after_escape : Reading → Phase
  over : End → Reading → Phase

abbrev pub escape : ℕ
escape = 0x1B

-- rule 7.2: the first two of a header's three values, none where it has fewer; P3 reaches no answer
unfoldable pub parameters_of : List ℕ → Parameters
parameters_of bs =
    record {
      p1 = map held16 (get_elem? (values 3 bs) 0);
      p2 = map held16 (get_elem? (values 3 bs) 1);
    }

-- rule 7.1: the first byte is 1B or 90
unfoldable pub start_step : ℕ → Step Phase
start_step b = cond (eqb b escape) (next introduced 0) (cond (eqb b 0x90) (next (header []) 0) (refuse start 1))

-- rule 7.1: the byte after 1B is `P`
unfoldable pub introduced_step : ℕ → Step Phase
introduced_step b = cond (eqb b 0x50) (next (header []) 0) (refuse introduced 1)

-- what a header's byte does: the header goes on with these digits and `;`, or `q` closes it, or it is refused
pub data HeaderByte : Type 0 where
  goes_on : List ℕ → HeaderByte
  settles : Parameters → HeaderByte
  wrong : ℕ → HeaderByte

-- rules 5.5, 7.2: it is skipped, or belongs to the three values, or is `q`; else it is 2 or 3
unfoldable pub header_byte : List ℕ → ℕ → HeaderByte
unfolding parameters_of of_values
header_byte bs b =
    cond (skipped b) (goes_on bs)
    (cond (of_values b) (goes_on (bs ++ (b ∷ [])))
    (cond (eqb b 0x71) (settles (parameters_of bs))
    (cond (ends b) (wrong 2) (wrong 3))))

unfoldable pub header_step : Palette → List ℕ → ℕ → Step Phase
unfolding header_byte
header_step p bs b =
    elim (header_byte bs b) [
      | goes_on more ↦ next (header more) 0
      | settles o ↦ next (within (opened o p)) 0
      | wrong n ↦ refuse (header bs) n
    ]

-- rules 7.3, 7.4, 7.5: the byte that ends a payload: 1B is consumed and waits for the next, 9C and 18 and 1A are consumed, another
-- C1 byte stays unread
unfoldable pub end_step : Reading → ℕ → Step Phase
end_step r b =
    cond (eqb b escape) (next (after_escape r) 0)
    (cond (eqb b 0x9C) (next (over complete r) 0)
    (cond (eqb b 0x18 || eqb b 0x1A) (next (over (cancelled b) r) 0)
    (halt (over (interrupted b) r))))

unfoldable pub within_step : Setting → Reading → ℕ → Step Phase
unfolding end_step
within_step s r b =
    elim (payload_step s r b) [
      | next t i ↦ next (within t) i
      | halt t ↦ end_step t b
      | refuse t n ↦ refuse (within t) n
    ]

-- rules 7.3, 7.5: after 1B, `\` completes and is consumed; another byte stays unread
unfoldable pub escape_step : Reading → ℕ → Step Phase
escape_step r b = cond (eqb b 0x5C) (next (over complete r) 0) (halt (over (interrupted escape) r))

-- Rule 7.6. One byte of a DCS sequence; the palette is the one that the session was opened with. Sequence says it of the whole, and
-- the two are one: proofs/SequenceLaws, and of its finish `sequence-finish` of proofs/DcsLaws.
unfoldable pub dcs_step : Setting → Palette → Phase → ℕ → Step Phase
unfolding start_step introduced_step header_step within_step escape_step
dcs_step s p start b = start_step b
dcs_step s p introduced b = introduced_step b
dcs_step s p (header bs) b = header_step p bs b
dcs_step s p (within r) b = within_step s r b
dcs_step s p (after_escape r) b = escape_step r b
dcs_step s p (over e r) b = halt (over e r)

-- rule 6.3: what a stop leaves
unfoldable pub dcs_rested : Setting → Phase → Phase
unfolding rested
dcs_rested s start = start
dcs_rested s introduced = introduced
dcs_rested s (header bs) = header bs
dcs_rested s (within r) = within (rested s r)
dcs_rested s (after_escape r) = after_escape r
dcs_rested s (over e r) = over e r

-- rules 5.3, 7.7: finishing before the end is 8
unfoldable pub finish_dcs : Setting → Phase → Finished
unfolding finish_reading
finish_dcs s start = turned_down 8
finish_dcs s introduced = turned_down 8
finish_dcs s (header bs) = turned_down 8
finish_dcs s (within r) = turned_down 8
finish_dcs s (after_escape r) = turned_down 8
finish_dcs s (over e r) = finish_reading s r
