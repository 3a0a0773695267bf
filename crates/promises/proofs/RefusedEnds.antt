-- The refusals of the code's finish, each in one sentence (rules 5.1, 5.3).
use Rattle.std.specs.Prelude.{Err}
use Prim.Native.Nat.{ℕ, ◌≤◌}
use mathlib.Core.Bool.{true}
use mathlib.Core.List.{List, [], ◌∷◌}
use mathlib.Core.Logic.Iff
use mathlib.Core.Logic.{◌↔◌}
use mathlib.Core.Option.{Option, none, some}
use mathlib.Core.Path.{◌≡◌, ap}
use native.Mathlib.Omega.{arith}
use lib.ListN.{length}
use Rattle.colours.specs.declared.Palette.{Palette}
use Rattle.frame.specs.Numbers.{number_of}
use Rattle.frame.specs.declared.Limits.{Limits}
use Rattle.frame.specs.declared.Refusal.{Refusal}
use Rattle.frame.specs.declared.Refusal.TheVariants.{Repeat, Size, Pixels, Room}
use Rattle.meaning.specs.Calls as calls
use Rattle.meaning.specs.Commands.{Command, argued, Placed, Begun, closed}
use Rattle.meaning.specs.Drawing.{Setting, Drawing, Drawn, drawn, refused, draw_command, Outcome, and_then, draw_all}
use Rattle.meaning.specs.Payload.{turned_down}
use Rattle.meaning.specs.Sessions.{Reading, finish_reading, Phase}
use Rattle.payload.specs.declared.Session.{Session}
use Rattle.payload.specs.Session.{finished_by}
use Rattle.payload.specs.History.{Stands}
use Rattle.dcs.specs.declared.Session as dcs_session
use Rattle.dcs.specs.History as dcs
use Rattle.dcs.specs.Session as dcs_coded
use Rattle.promises.proofs.RefusedCalls as any
use Rattle.promises.proofs.RefusedCommands.{AboveRepeats, asked_size, Asks, RefusedAt, commands-exactly, four-exactly, five-exactly, six-exactly, seven-exactly}
use Rattle.promises.proofs.RefusedDcs.{dcs-finish-exactly}
use Rattle.promises.proofs.RefusedFinishes.{payload-finish-pending, AtEnd, dcs-finish-pending}
use Rattle.promises.proofs.RefusedPayload.{payload-finish-exactly}
use Rattle.promises.proofs.RefusedSessions.{payload_area, dcs_area}
use Rattle.promises.proofs.RefusedSizes.{AboveLimits, SixNotFive, SevenNotSix}

-- there is a pending command, and this holds of it
abbrev pub Pending : Option Begun → Drawing → (Command → Drawing → Type 0) → Type 0
Pending none d P = ⊥
Pending (some c) d P = P (argued c.kind c.argument) d

module _ (s : Setting) (d : Drawing) (n : ℕ) (P : Command → Drawing → Type 0) (k : (c : Command) (e : Drawing) → (draw_command s c e ≡ refused n) ↔ P c e) where
  -- the pending command is refused exactly when this holds of it
  pub pending-refused : (begun : Option Begun) → ((f : Drawing) × RefusedAt s (closed begun) d f n) ↔ Pending begun d P
  unfolding closed draw_all and_then
  pending-refused none = (
    λ h.
        let e : none ≡ some n = ap (λ (x : Outcome). x.refusal) ((commands-exactly s [] d h.0 n).1 h.1) in
        let never : ◌≡◌ {A = ℕ} 0 1 = cc in omega arith,
    λ h. absurd h,
  )
  pending-refused (some c) = (
    λ h. (k command d).0 (to h.0 (draw_command s command d) ((commands-exactly s (one ∷ []) d h.0 n).1 h.1)),
    λ h. (d, (commands-exactly s (one ∷ []) d d n).0 (ap (λ (x : Drawn). and_then d x (draw_all s [])) ((k command d).1 h))),
  )
    where
      command : Command
      command = argued c.kind c.argument

      one : Placed
      one = record { place = c.place; command = command }

      to : (f : Drawing) (x : Drawn) → and_then d x (draw_all s []) ≡ record { drawing = f; refusal = some n } → x ≡ refused n
      to f (drawn e) q =
          let r : none ≡ some n = ap (λ (x : Outcome). x.refusal) q in let never : ◌≡◌ {A = ℕ} 0 1 = cc in absurd (omega arith)
      to f (refused m) q = let r : some m ≡ some n = ap (λ (x : Outcome). x.refusal) q in cc

-- ---- a payload session: 9, 12, the pending command's

module _ {opening : List ℕ} {s : Session} {l : List ℕ} {m : calls.Session Reading} (k : Stands opening s l m) (owner : Palette) where
  -- neither holds, and of the pending command this does
  abbrev pub Ends : (Command → Drawing → Type 0) → Type 0
  Ends P = (¬ (m.failed ≡ true)) × ((¬ any.Misfits payload_area m (length l)) × Pending m.state.begun m.state.drawing P)

  ends : (x : Refusal) (P : Command → Drawing → Type 0) → number_of x ≤ 7
      → ((c : Command) (e : Drawing) → (draw_command m.setting c e ≡ refused (number_of x)) ↔ P c e)
      → ((finished_by s owner l).0.answer ≡ Err x) ↔ Ends P
  ends x P low f =
      let p = pending-refused m.setting m.state.drawing (number_of x) P f m.state.begun in
      Iff.trans (payload-finish-exactly k owner x)
      (Iff.trans (payload-finish-pending m (length l) (number_of x) (λ q. omega arith) (λ q. omega arith))
      (λ h. (h.0, (h.1.0, p.0 h.1.1)), λ h. (h.0, (h.1.0, p.1 h.1.1))))

  -- 4 to 7 are given exactly when the pending command is refused so.
  pub payload-end-four : ((finished_by s owner l).0.answer ≡ Err Repeat) ↔ Ends (λ c d. AboveRepeats m.setting c)
  unfolding number_of
  payload-end-four = ends Repeat (λ c d. AboveRepeats m.setting c) (omega arith) (four-exactly m.setting)

  pub payload-end-five : ((finished_by s owner l).0.answer ≡ Err Size) ↔ Ends (λ c d. Asks (asked_size c d) (AboveLimits m.setting))
  unfolding number_of
  payload-end-five = ends Size (λ c d. Asks (asked_size c d) (AboveLimits m.setting)) (omega arith) (five-exactly m.setting)

  pub payload-end-six : ((finished_by s owner l).0.answer ≡ Err Pixels) ↔ Ends (λ c d. Asks (asked_size c d) (SixNotFive m.setting d.area))
  unfolding number_of
  payload-end-six = ends Pixels (λ c d. Asks (asked_size c d) (SixNotFive m.setting d.area)) (omega arith) (six-exactly m.setting)

  pub payload-end-seven : ((finished_by s owner l).0.answer ≡ Err Room) ↔ Ends (λ c d. Asks (asked_size c d) (SevenNotSix m.setting d.area))
  unfolding number_of
  payload-end-seven = ends Room (λ c d. Asks (asked_size c d) (SevenNotSix m.setting d.area)) (omega arith) (seven-exactly m.setting)

-- ---- a DCS session: 9, 12, 8, and then the payload's

module _ (l : Limits) (stride : ℕ) (p : Palette) (opening : List ℕ) {s : dcs_session.Session} {c : List ℕ} {m : calls.Session Phase}
    (k : dcs.Stands l stride p opening s c m)
    (owner : Palette) where
  -- Any other number is given exactly when, at the end, the payload is turned down so.
  pub dcs-end-pending : (x : Refusal) → ¬ (number_of x ≡ 8) → ¬ (number_of x ≡ 9) → ¬ (number_of x ≡ 12)
      → ((dcs_coded.finished_by s owner c).0.answer ≡ Err x)
      ↔ ((¬ (m.failed ≡ true)) × ((¬ any.Misfits dcs_area m (length c)) × AtEnd m.state (λ r. finish_reading m.setting r ≡ turned_down (number_of x))))
  dcs-end-pending x a b d = Iff.trans (dcs-finish-exactly l stride p opening k owner x) (dcs-finish-pending m (length c) (number_of x) a b d)
