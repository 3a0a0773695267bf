-- The refusals of payload and DCS sessions: opening, feeding and finishing (rules 1.4, 5.2, 5.3).
use Prim.Native.Nat.{ℕ, ◌*◌, ◌^◌, ◌≤◌, ◌<◌}
use mathlib.Core.Bool.{true}
use mathlib.Core.List.{List}
use mathlib.Core.Logic.{◌↔◌}
use mathlib.Core.Option.{some}
use mathlib.Core.Path.{◌≡◌, refl}
use native.Mathlib.Omega.{arith}
use Rattle.colours.specs.declared.Palette.{Palette}
use Rattle.canvas.specs.Picture.{Area, rows_of}
use Rattle.meaning.specs.Drawing.{Limits, Setting}
use Rattle.meaning.specs.Reader.{refuse, Run, call}
use Rattle.meaning.specs.Sessions.{Reading, rested, payload_step, Phase, dcs_step, dcs_rested}
use Rattle.meaning.specs.Calls.{ranges, limits_hold, opens, Session, not_opened, open_with, refused, session_after, drawing_of, visible_area, dcs_end, feed_refusal, feed_payload, feed_dcs}
use Rattle.promises.proofs.Choices.{Tells, tells-most, tells-and, later-case}
use Rattle.promises.proofs.RefusedBytes.{byte-numbers, dcs-byte-numbers}
use Rattle.promises.proofs.RefusedCalls as any
use Rattle.promises.proofs.RefusedRuns.{RunRefused}

-- ---- opening

-- a number is 1 to a largest
abbrev pub InRange : ℕ → ℕ → Type 0
InRange most n = (1 ≤ n) × (n ≤ most)

-- every number of an opening is in its range, and there is a whole row
abbrev pub Openable : Limits → ℕ → ℕ → Type 0
Openable l stride length =
    (InRange 1000000 l.width × (InRange 1000000 l.height × (InRange (10 ^ 12) l.repeats × InRange (10 ^ 12) l.pixels)))
    × (InRange 1000000 stride × (1 ≤ rows_of length stride))

tells-range : (most n : ℕ) → Tells (ranges most n) (InRange most n)
unfolding ranges
tells-range most n = tells-and (tells-most 1 n) (tells-most n most)

pub tells-opens : (l : Limits) (stride length : ℕ) → Tells (opens l stride length) (Openable l stride length)
unfolding opens limits_hold
tells-opens l stride length =
    tells-and
    (tells-and (tells-range 1000000 l.width)
    (tells-and (tells-range 1000000 l.height) (tells-and (tells-range (10 ^ 12) l.repeats) (tells-range (10 ^ 12) l.pixels))))
    (tells-and (tells-range 1000000 stride) (tells-most 1 (rows_of length stride)))

-- 11 is given exactly when an opening number is out of its range, or there is no whole row.
pub eleven-exactly : {S : Type 0} (l : Limits) (stride length : ℕ) (state : S)
    → (open_with l stride length state ≡ not_opened 11) ↔ (¬ Openable l stride length)
unfolding open_with
eleven-exactly {S} l stride length state = (λ e. (k.0 e).0, λ h. k.1 (h, tt))
  where
    k : (open_with l stride length state ≡ not_opened 11) ↔ ((¬ Openable l stride length) × Unit {0})
    k = later-case (tells-opens l stride length) (λ e. let never : ◌≡◌ {A = ℕ} 0 1 = cc in omega arith) (λ e. tt, λ h. refl)

-- ---- the two kinds of sessions

pub payload-numbers : (c : Setting) (t u : Reading) (b n : ℕ) → payload_step c t b ≡ refuse u n → (1 ≤ n) × (n ≤ 7)
payload-numbers c t u b n e = let range : (4 ≤ n) × (n ≤ 7) = byte-numbers c t b e in (omega arith, range.1)

pub dcs-numbers : (p : Palette) (c : Setting) (t u : Phase) (b n : ℕ) → dcs_step c p t b ≡ refuse u n → (1 ≤ n) × (n ≤ 7)
dcs-numbers p c t u b n e = dcs-byte-numbers c p b u n t e

-- what a session shows
abbrev pub payload_area : Reading → Area
payload_area r = r.drawing.area

abbrev pub dcs_area : Phase → Area
dcs_area t = visible_area (drawing_of t)

-- A feed of a payload session: 9, 12, 13, then 4 to 7 of its bytes (RefusedBytes.antt says when a byte is refused).
module _ (m : Session Reading) (length a : ℕ) (bs : List ℕ) where
  pub payload-nine : ((feed_payload m length a bs).answer ≡ refused 9) ↔ (m.failed ≡ true)
  unfolding feed_payload
  payload-nine = any.nine-exactly payload_area payload_step rested (λ r. r.over) payload-numbers m length a bs

  pub payload-twelve : ((feed_payload m length a bs).answer ≡ refused 12) ↔ ((¬ (m.failed ≡ true)) × any.Misfits payload_area m length)
  unfolding feed_payload
  payload-twelve = any.twelve-exactly payload_area payload_step rested (λ r. r.over) payload-numbers m length a bs

  pub payload-thirteen : ((feed_payload m length a bs).answer ≡ refused 13)
      ↔ ((¬ (m.failed ≡ true)) × ((¬ any.Misfits payload_area m length) × (a < 6 * m.setting.limits.width)))
  unfolding feed_payload
  payload-thirteen = any.thirteen-exactly payload_area payload_step rested (λ r. r.over) payload-numbers m length a bs

  -- what the bytes of the call come to
  abbrev pub payload_ran : Run Reading
  payload_ran = call (payload_step m.setting) (rested m.setting) a m.state bs

  pub payload-bytes : (n : ℕ) → n ≤ 7
      → ((feed_payload m length a bs).answer ≡ refused n)
      ↔ ((¬ (m.failed ≡ true))
      × ((¬ any.Misfits payload_area m length)
      × ((¬ (a < 6 * m.setting.limits.width))
      × RunRefused (payload_step m.setting) a m.state bs payload_ran.state n)))
  unfolding feed_payload
  payload-bytes = any.bytes-exactly payload_area payload_step rested (λ r. r.over) payload-numbers m length a bs

  -- 9, 12 and 13 come of the tests before the bytes.
  pub payload-first : (n : ℕ) → 8 ≤ n → (feed_payload m length a bs).answer ≡ refused n → feed_refusal payload_area m length a ≡ some n
  unfolding feed_payload
  payload-first = any.refused-first payload_area payload_step rested (λ r. r.over) payload-numbers m length a bs

  -- After 9, 12 and 13 the session is as it was.
  pub payload-keeps : (n : ℕ) → 8 ≤ n → (feed_payload m length a bs).answer ≡ refused n → (feed_payload m length a bs).session ≡ m
  unfolding feed_payload
  payload-keeps = any.refused-keeps payload_area payload_step rested (λ r. r.over) payload-numbers m length a bs

  -- 1 to 7 fail the session, which has come to the state before the refused byte or command.
  pub payload-fails : (n : ℕ) → n ≤ 7 → (feed_payload m length a bs).answer ≡ refused n
      → (feed_payload m length a bs).session ≡ session_after m payload_ran.state true
  unfolding feed_payload
  payload-fails = any.refused-fails payload_area payload_step rested (λ r. r.over) payload-numbers m length a bs

-- A feed of a DCS session: 9, 12, 13, then 1 to 7 of its bytes.
module _ (p : Palette) (m : Session Phase) (length a : ℕ) (bs : List ℕ) where
  pub dcs-nine : ((feed_dcs p m length a bs).answer ≡ refused 9) ↔ (m.failed ≡ true)
  unfolding feed_dcs
  dcs-nine = any.nine-exactly dcs_area (λ c. dcs_step c p) dcs_rested dcs_end (dcs-numbers p) m length a bs

  pub dcs-twelve : ((feed_dcs p m length a bs).answer ≡ refused 12) ↔ ((¬ (m.failed ≡ true)) × any.Misfits dcs_area m length)
  unfolding feed_dcs
  dcs-twelve = any.twelve-exactly dcs_area (λ c. dcs_step c p) dcs_rested dcs_end (dcs-numbers p) m length a bs

  pub dcs-thirteen : ((feed_dcs p m length a bs).answer ≡ refused 13)
      ↔ ((¬ (m.failed ≡ true)) × ((¬ any.Misfits dcs_area m length) × (a < 6 * m.setting.limits.width)))
  unfolding feed_dcs
  dcs-thirteen = any.thirteen-exactly dcs_area (λ c. dcs_step c p) dcs_rested dcs_end (dcs-numbers p) m length a bs

  -- what the bytes of the call come to
  abbrev pub dcs_ran : Run Phase
  dcs_ran = call (dcs_step m.setting p) (dcs_rested m.setting) a m.state bs

  pub dcs-bytes : (n : ℕ) → n ≤ 7
      → ((feed_dcs p m length a bs).answer ≡ refused n)
      ↔ ((¬ (m.failed ≡ true))
      × ((¬ any.Misfits dcs_area m length)
      × ((¬ (a < 6 * m.setting.limits.width))
      × RunRefused (dcs_step m.setting p) a m.state bs dcs_ran.state n)))
  unfolding feed_dcs
  dcs-bytes = any.bytes-exactly dcs_area (λ c. dcs_step c p) dcs_rested dcs_end (dcs-numbers p) m length a bs

  -- 9, 12 and 13 come of the tests before the bytes.
  pub dcs-first : (n : ℕ) → 8 ≤ n → (feed_dcs p m length a bs).answer ≡ refused n → feed_refusal dcs_area m length a ≡ some n
  unfolding feed_dcs
  dcs-first = any.refused-first dcs_area (λ c. dcs_step c p) dcs_rested dcs_end (dcs-numbers p) m length a bs

  -- After 9, 12 and 13 the session is as it was.
  pub dcs-keeps : (n : ℕ) → 8 ≤ n → (feed_dcs p m length a bs).answer ≡ refused n → (feed_dcs p m length a bs).session ≡ m
  unfolding feed_dcs
  dcs-keeps = any.refused-keeps dcs_area (λ c. dcs_step c p) dcs_rested dcs_end (dcs-numbers p) m length a bs

  -- 1 to 7 fail the session, which has come to the state before the refused byte or command.
  pub dcs-fails : (n : ℕ) → n ≤ 7 → (feed_dcs p m length a bs).answer ≡ refused n
      → (feed_dcs p m length a bs).session ≡ session_after m dcs_ran.state true
  unfolding feed_dcs
  dcs-fails = any.refused-fails dcs_area (λ c. dcs_step c p) dcs_rested dcs_end (dcs-numbers p) m length a bs
