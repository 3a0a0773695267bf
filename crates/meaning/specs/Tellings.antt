-- What is told of a refusal besides its number: the place of the byte at which reading is refused, and what was needed (docs/RULES.md, rules
-- 5.9 and 5.10). Answers stay as they are: this stands beside them.
use Rattle.std.specs.Prelude.{ℕ, suc, ◌+◌, ◌-◌, ◌^◌, min, max, Bool, false, ◌≡◌, ltb}
use Rattle.std.proofs.Math.Bool.{cond}
use Rattle.std.proofs.Math.Option.{Option, none, some, map}
use mathlib.Core.List.{List, [], ◌∷◌}
use Rattle.std.proofs.Math.ListN.{length}
use Rattle.numbers.specs.Bytes.{ends}
use Rattle.numbers.specs.Values.{decimal, values}
use Rattle.colours.specs.declared.Palette.{Palette}
use Rattle.canvas.specs.Picture.{Area, grown_to}
use Rattle.meaning.specs.Commands.{repeat, colour, raster, Command, argued, return, line, draw, Placed, closed, scan_byte}
use Rattle.meaning.specs.Drawing.{Limits, Setting, Raster, Drawing, Drawn, drawn, refused, pixels_of, raster_after, draw_command}
use Rattle.meaning.specs.Payload.{Parameters, no_parameters, Finished, finished, turned_down}
use Rattle.meaning.specs.Reader.{Step, next, halt, refuse, refused_by, is_refused, Run, read_from, call}
use Rattle.meaning.specs.Sessions.{Reading, opened, settled, rested, payload_step, goes_on, settles, wrong, header_byte, End, Phase, start, introduced, header, within, after_escape, over, dcs_step, dcs_rested}
use Rattle.meaning.specs.OneShot.{after_introducer}
use Rattle.meaning.specs.Calls as calls
use Rattle.meaning.specs.Calls.{Test, first_of, misfits, feed_refusal, Session, drawing_of, visible_area, opens, setting_for}

-- ---- what was needed

pub data Thing : Type 0 where
  repeats columns rows pixels : Thing

-- rule 5.10: how much of a thing was needed, or `more` than that; and how much is allowed, or is there
pub record Shortage : Type 0 where
  pub thing : Thing
  pub needed : ℕ
  pub more : Bool
  pub allowed : ℕ

-- rule 5.10: a number above a ceiling is told as more than the ceiling
unfoldable pub short : ℕ → Thing → ℕ → ℕ → Shortage
short most t n allowed = record { thing = t; needed = min n most; more = ltb most n; allowed = allowed }

-- the largest limits of rule 1.1: no setting allows more
abbrev pub most_of_side : ℕ
most_of_side = 1000000

abbrev pub most_of_all : ℕ
most_of_all = 10 ^ 12

-- rules 4.2, 5.10: the columns or rows that are above W or H, else the pixels that are above M, else the columns or rows that the canvas
-- does not have
unfoldable pub size_shortage : Setting → Area → ℕ → ℕ → Shortage
unfolding short
size_shortage s a w h =
    cond (ltb s.limits.width w) (short most_of_side columns w s.limits.width)
    (cond (ltb s.limits.height h) (short most_of_side rows h s.limits.height)
    (cond (ltb s.limits.pixels (pixels_of (grown_to a w h))) (short most_of_all pixels (pixels_of (grown_to a w h)) s.limits.pixels)
    (cond (ltb s.stride w) (short most_of_side columns w s.stride)
    (short most_of_side rows h s.rows))))

-- a raster's: a missing width or height counts 1
unfoldable pub raster_shortage : Setting → Raster → Drawing → Shortage
unfolding size_shortage
raster_shortage s r d = size_shortage s d.area (max 1 r.width) (max 1 r.height)

-- rule 5.10: what a refused command needs of a drawing; a colour, `$` and `-` are never refused
unfoldable pub command_shortage : Setting → Command → Drawing → Option Shortage
unfolding short raster_shortage size_shortage
command_shortage s (argued repeat bs) d = some (short most_of_all repeats (decimal bs) s.limits.repeats)
command_shortage s (argued colour bs) d = none
command_shortage s (argued raster bs) d = some (raster_shortage s (raster_after d.raster (values 4 bs)) d)
command_shortage s return d = none
command_shortage s line d = none
command_shortage s (draw bits) d = some (size_shortage s d.area (d.pen.column + d.pen.repeats) (d.pen.row + 6))

-- what is told of a command's outcome, and of those that follow it
unfoldable pub shortage_in : Drawn → Option Shortage → (Drawing → Option Shortage) → Option Shortage
shortage_in (drawn d) here later = later d
shortage_in (refused n) here later = here

-- rules 3.11, 5.10: of commands in their order, the first that is refused
unfoldable pub first_shortage : Setting → List Placed → Drawing → Option Shortage
unfolding shortage_in command_shortage
first_shortage s [] d = none
first_shortage s (c ∷ cs) d = shortage_in (draw_command s c.command d) (command_shortage s c.command d) (first_shortage s cs)

-- ---- what is told

-- rules 5.9, 5.10: a refusal's number, the place of the refused byte, and what was needed
pub record Telling : Type 0 where
  pub number : ℕ
  pub place : Option ℕ
  pub need : Option Shortage

unfoldable pub placeless : ℕ → Telling
placeless n = record { number = n; place = none; need = none }

unfoldable pub told_at : ℕ → ℕ → Option Shortage → Telling
told_at at n need = record { number = n; place = some at; need = need }

-- ---- any reader that goes byte by byte

module _ {S : Type 0} (step : S → ℕ → Step S) (need_of : S → ℕ → Option Shortage) where
  -- rule 5.9: the byte at which reading is refused, of bytes that stand at a place
  unfoldable pub first_refused : ℕ → S → List ℕ → Option Telling
  unfolding told_at
  first_refused at s [] = none
  first_refused at s (b ∷ bs) =
      elim (step s b) [
        | next t i ↦ first_refused (suc at) t bs
        | halt t ↦ none
        | refuse t n ↦ some (told_at at n (need_of s b))
      ]

  -- rules 5.9, 6.3: the same of a call with an allowance, counted from the start of its bytes; one that stops before that byte is not refused
  unfoldable pub call_telling : (S → S) → ℕ → S → List ℕ → Option Telling
  unfolding first_refused
  call_telling rest allowance s bs = cond (is_refused (call step rest allowance s bs).how) (first_refused 0 s bs) none

  -- rules 5.2, 5.9: a feed's: 9, 12 and 13 have no place
  unfoldable pub feed_telling : (S → Area) → (S → S) → Session S → ℕ → ℕ → List ℕ → Option Telling
  unfolding call_telling placeless
  feed_telling area_of rest s length allowance bs =
      elim (feed_refusal area_of s length allowance) [
        | none ↦ call_telling rest allowance s.state bs
        | some n ↦ some (placeless n)
      ]

-- ---- a payload

-- rules 2.5, 5.10: the commands that a byte ends or is
unfoldable pub byte_shortage : Setting → Reading → ℕ → Option Shortage
unfolding first_shortage
byte_shortage s r b =
    first_shortage s (cond (ends b) (closed r.begun) (scan_byte r.passed r.begun b).ended) r.drawing

-- rules 5.3, 5.9: the pending command at a finish, which is given no byte: its place is the end of those before it
unfoldable pub pending_telling : Setting → ℕ → Reading → Option Telling
unfolding first_shortage told_at
pending_telling s at r =
    elim (settled s r).refusal [
      | none ↦ none
      | some n ↦ some (told_at at n (first_shortage s (closed r.begun) r.drawing))
    ]

-- a payload session's feed
unfoldable pub payload_feed_telling : Session Reading → ℕ → ℕ → List ℕ → Option Telling
unfolding feed_telling byte_shortage
payload_feed_telling s = feed_telling (payload_step s.setting) (byte_shortage s.setting) (λ r. r.drawing.area) (rested s.setting) s

-- rule 5.3: a finish: 9, 12, and then what the state says
unfoldable pub finish_telling : {S : Type 0} → (S → Area) → (Setting → S → Option Telling) → Session S → ℕ → Option Telling
unfolding placeless
finish_telling area_of of_state s length =
    elim (first_of (record { holds = s.failed; number = 9 } ∷ record { holds = misfits area_of s length; number = 12 } ∷ [])) [
      | none ↦ of_state s.setting s.state
      | some n ↦ some (placeless n)
    ]

unfoldable pub payload_finish_telling : Session Reading → ℕ → Option Telling
unfolding finish_telling pending_telling
payload_finish_telling = finish_telling (λ r. r.drawing.area) (λ s. pending_telling s 0)

-- ---- a DCS sequence

-- only a payload's byte needs something
unfoldable pub dcs_shortage : Setting → Phase → ℕ → Option Shortage
unfolding byte_shortage
dcs_shortage s start b = none
dcs_shortage s introduced b = none
dcs_shortage s (header bs) b = none
dcs_shortage s (within r) b = byte_shortage s r b
dcs_shortage s (after_escape r) b = none
dcs_shortage s (over e r) b = none

unfoldable pub dcs_feed_telling : Palette → Session Phase → ℕ → ℕ → List ℕ → Option Telling
unfolding feed_telling dcs_shortage
dcs_feed_telling p s =
    feed_telling (dcs_step s.setting p) (dcs_shortage s.setting) (λ t. visible_area (drawing_of t)) (dcs_rested s.setting) s

-- rules 5.3, 5.9: 8 before the end, at the end of the bytes
unfoldable pub dcs_end_telling : Setting → Phase → Option Telling
unfolding pending_telling told_at
dcs_end_telling s start = some (told_at 0 8 none)
dcs_end_telling s introduced = some (told_at 0 8 none)
dcs_end_telling s (header bs) = some (told_at 0 8 none)
dcs_end_telling s (within r) = some (told_at 0 8 none)
dcs_end_telling s (after_escape r) = some (told_at 0 8 none)
dcs_end_telling s (over e r) = pending_telling s 0 r

unfoldable pub dcs_finish_telling : Session Phase → ℕ → Option Telling
unfolding finish_telling dcs_end_telling
dcs_finish_telling = finish_telling (λ t. visible_area (drawing_of t)) dcs_end_telling

-- ---- reading all at once (rule 8.3): places are counted from the start of the input

-- where no byte is refused, the finish: its place is the input's length
unfoldable pub or_pending : Option Telling → Option Telling → Option Telling
or_pending (some t) later = some t
or_pending none later = later

-- a payload that stands at a place of the input
unfoldable pub part_telling : Setting → Palette → Parameters → ℕ → List ℕ → Option Telling
unfolding first_refused byte_shortage pending_telling or_pending
part_telling s p o at bs =
    or_pending (first_refused (payload_step s) (byte_shortage s) at (opened o p) bs)
    (pending_telling s (at + length bs) (read_from (payload_step s) (opened o p) bs).state)

-- a header that stands at a place, with its digits and `;` so far; without `q` it is 8, at the end
unfoldable pub header_telling : Setting → Palette → ℕ → List ℕ → List ℕ → Option Telling
unfolding part_telling told_at
header_telling s p at got [] = some (told_at at 8 none)
header_telling s p at got (b ∷ bs) =
    elim (header_byte got b) [
      | goes_on more ↦ header_telling s p (suc at) more bs
      | settles o ↦ part_telling s p o (suc at) bs
      | wrong n ↦ some (told_at at n none)
    ]

-- rule 8.1: what comes after the first introducer is a header; without one the whole input is payload
unfoldable pub input_telling : Setting → Palette → List ℕ → Option Telling
unfolding header_telling part_telling
input_telling s p bs =
    elim (after_introducer bs) [
      | none ↦ part_telling s p no_parameters 0 bs
      | some later ↦ header_telling s p (length bs - length later) [] later
    ]

-- rules 5.9, 8.3: 11 has no place
unfoldable pub read_telling : Limits → ℕ → ℕ → Palette → List ℕ → Option Telling
unfolding input_telling placeless
read_telling l stride length p bs =
    cond (opens l stride length) (input_telling (setting_for l stride length) p bs) (some (placeless 11))

-- ---- what a telling says of the answer that it stands beside

-- rule 5.9: nothing of a run that is not refused; else its number, and as the place how many of its bytes were read before, from where they stand
pub data TellsRun {S : Type 0} (at : ℕ) : Run S → Option Telling → Type 0 where
  untold : {r : Run S} → is_refused r.how ≡ false → TellsRun at r none
  told : {r : Run S} {n : ℕ} (need : Option Shortage) → r.how ≡ refused_by n → TellsRun at r (some (told_at (at + r.consumed) n need))

unfoldable pub number_told : Option Telling → Option ℕ
number_told t = map (λ x. x.number) t

-- the number of an answer, and of a finish, that is a refusal
unfoldable pub answer_number : {E : Type 0} → calls.Answer E → Option ℕ
answer_number (calls.told n i status) = none
answer_number (calls.refused n) = some n

unfoldable pub finish_number : Finished → Option ℕ
finish_number (finished r) = none
finish_number (turned_down n) = some n
