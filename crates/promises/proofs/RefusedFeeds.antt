-- The refusals of the code's payload feed, each in one sentence (rules 5.1, 5.2).
use Rattle.std.specs.Prelude.{Err}
use Prim.Native.Nat.{ℕ, ◌*◌, ◌≤◌, ◌<◌}
use mathlib.Core.Bool.{true}
use mathlib.Core.List.{List, ◌∷◌, ◌++◌}
use mathlib.Core.Logic.Iff
use mathlib.Core.Logic.{◌↔◌}
use mathlib.Core.Option.{none}
use mathlib.Core.Path.{◌≡◌, refl}
use native.Mathlib.Omega.{arith}
use lib.ListN.{length}
use Rattle.frame.specs.Numbers.{number_of}
use Rattle.frame.specs.declared.Refusal.{Refusal}
use Rattle.frame.specs.declared.Refusal.TheVariants.{Repeat, Size, Pixels, Room}
use Rattle.meaning.specs.Calls as calls
use Rattle.meaning.specs.Commands.{Command, Placed}
use Rattle.meaning.specs.Drawing.{Setting, Drawing, refused, draw_command, draw_all}
use Rattle.meaning.specs.Reader.{refuse}
use Rattle.meaning.specs.Sessions.{Reading, rested, payload_step}
use Rattle.payload.specs.declared.Answer.TheVariants as answers
use Rattle.payload.specs.declared.Session.{Session}
use Rattle.payload.specs.Session.{fed_by}
use Rattle.payload.specs.History.{Stands}
use Rattle.promises.proofs.RefusedBytes.{commands_at, left_with, ByteRefused, byte-exactly}
use Rattle.promises.proofs.RefusedCalls as any
use Rattle.promises.proofs.RefusedCommands.{RefusedAt, AboveRepeats, asked_size, Asks, four-exactly, five-exactly, six-exactly, seven-exactly}
use Rattle.promises.proofs.RefusedPayload.{payload-feed-exactly}
use Rattle.promises.proofs.RefusedRuns.{RunRefused, MeetsByte, meets-exactly}
use Rattle.promises.proofs.RefusedSessions.{payload_area, payload_ran, payload-bytes}
use Rattle.promises.proofs.RefusedSizes.{AboveLimits, SixNotFive, SevenNotSix}

-- a byte ends or is a command of which this holds: the payload goes on, and the commands before it are drawn
pub record Strikes (s : Setting) (r : Reading) (b : ℕ) (P : Command → Drawing → Type 0) : Type 0 where
  pub ongoing : r.over ≡ none
  pub done : List Placed
  pub command : Placed
  pub rest : List Placed
  pub commands : commands_at r b ≡ done ++ (command ∷ rest)
  pub drawing : Drawing
  pub made : draw_all s done r.drawing ≡ record { drawing = drawing; refusal = none }
  pub holds : P command.command drawing

module _ (s : Setting) (r : Reading) (b : ℕ) (n : ℕ) (P : Command → Drawing → Type 0)
    (k : (c : Command) (d : Drawing) → (draw_command s c d ≡ refused n) ↔ P c d) where
  -- A payload's byte is refused exactly when it strikes a command that is.
  pub strikes-exactly : ((t : Reading) × (payload_step s r b ≡ refuse t n)) ↔ Strikes s r b P
  unfolding left_with
  strikes-exactly = (
    λ h.
        let e : ByteRefused s r b h.0 n = (byte-exactly s r b h.0 n).0 h.1 in
        let c : RefusedAt s (commands_at r b) r.drawing h.0.drawing n = e.command in
        record {
          ongoing = e.ongoing;
          done = c.before;
          command = c.command;
          rest = c.later;
          commands = c.split;
          drawing = h.0.drawing;
          made = c.made;
          holds = (k c.command.command h.0.drawing).0 c.refuses;
        },
    λ h.
        let c : RefusedAt s (commands_at r b) r.drawing h.drawing n =
        record {
          before = h.done;
          command = h.command;
          later = h.rest;
          split = h.commands;
          made = h.made;
          refuses = (k h.command.command h.drawing).1 h.holds;
        } in
        let t : Reading = left_with r h.drawing in
        (t, (byte-exactly s r b t n).1 (record { ongoing = h.ongoing; leaves = refl; command = c })),
  )

module _ {opening : List ℕ} {s : Session} {l : List ℕ} {m : calls.Session Reading} (k : Stands opening s l m) (bs : List ℕ) (a : ℕ) where
  -- the session has not failed, the canvas fits, and the allowance is at least 6W
  abbrev pub Reads : Type 0 → Type 0
  Reads X = (¬ (m.failed ≡ true)) × ((¬ any.Misfits payload_area m (length l)) × ((¬ (a < 6 * m.setting.limits.width)) × X))

  -- and the bytes come to such a command
  abbrev pub Comes : (Command → Drawing → Type 0) → Type 0
  Comes P = Reads (MeetsByte (payload_step m.setting) a m.state bs (λ r b. Strikes m.setting r b P))

  comes : (x : Refusal) (P : Command → Drawing → Type 0) → number_of x ≤ 7
      → ((c : Command) (d : Drawing) → (draw_command m.setting c d ≡ refused (number_of x)) ↔ P c d)
      → ((fed_by s l bs a).0.answer ≡ Err x) ↔ Comes P
  comes x P low f =
      Iff.trans (payload-feed-exactly k bs a x)
      (Iff.trans (payload-bytes m (length l) a bs (number_of x) low)
      (λ h. (h.0, (h.1.0, (h.1.1.0, run.0 h.1.1.1))), λ h. (h.0, (h.1.0, (h.1.1.0, run.1 h.1.1.1)))))
    where
      run : RunRefused (payload_step m.setting) a m.state bs (payload_ran m (length l) a bs).state (number_of x)
          ↔ MeetsByte (payload_step m.setting) a m.state bs (λ r b. Strikes m.setting r b P)
      run =
          meets-exactly (payload_step m.setting) (rested m.setting) a m.state bs (number_of x) (λ r b. Strikes m.setting r b P)
          (λ r b. strikes-exactly m.setting r b (number_of x) P f)

  -- 4 is given exactly when a repeat command ends with a value above R.
  pub payload-feed-four : ((fed_by s l bs a).0.answer ≡ Err Repeat) ↔ Comes (λ c d. AboveRepeats m.setting c)
  unfolding number_of
  payload-feed-four = comes Repeat (λ c d. AboveRepeats m.setting c) (omega arith) (four-exactly m.setting)

  -- 5 is given exactly when a sixel or raster size exceeds W or H.
  pub payload-feed-five : ((fed_by s l bs a).0.answer ≡ Err Size) ↔ Comes (λ c d. Asks (asked_size c d) (AboveLimits m.setting))
  unfolding number_of
  payload-feed-five = comes Size (λ c d. Asks (asked_size c d) (AboveLimits m.setting)) (omega arith) (five-exactly m.setting)

  -- 6 is given exactly when it does not, and the visible area, or the raster size, would exceed M pixels.
  pub payload-feed-six : ((fed_by s l bs a).0.answer ≡ Err Pixels) ↔ Comes (λ c d. Asks (asked_size c d) (SixNotFive m.setting d.area))
  unfolding number_of
  payload-feed-six = comes Pixels (λ c d. Asks (asked_size c d) (SixNotFive m.setting d.area)) (omega arith) (six-exactly m.setting)

  -- 7 is given exactly when neither holds, and the width is above the stride or the height above the rows.
  pub payload-feed-seven : ((fed_by s l bs a).0.answer ≡ Err Room) ↔ Comes (λ c d. Asks (asked_size c d) (SevenNotSix m.setting d.area))
  unfolding number_of
  payload-feed-seven = comes Room (λ c d. Asks (asked_size c d) (SevenNotSix m.setting d.area)) (omega arith) (seven-exactly m.setting)
